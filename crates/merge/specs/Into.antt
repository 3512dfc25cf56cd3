-- What one pair's becoming one makes of a form: of its facts, keys, depths and history, and of the two counts.
use Rattle.std.specs.Prelude.{◌≡◌, refl, ℕ, ◌+◌, ◌-◌, ◌≤◌, ◌<◌, length, get_or, take, drop, set}
use Rattle.std.proofs.Math.Path.{sym, subst}
use Rattle.std.proofs.Common.{ap, ap₂, ◌∙◌, arith, inl, inr, get_or-set_same, get_or-set_other, lt-length-set, take-take}
use mathlib.Core.List.{List, [], ◌++◌, map}
use borrow.Rule.Slice.PartMut.{put_mid, mid_of}
use Rattle.rules.specs.Sheet.{Limits}
use Rattle.rules.specs.Image.{part}
use Rattle.rules.specs.Merge.{merge_depths}
use Rattle.images.specs.Kept.{Kept, kept_then, kept_set, kept_count, kept_before, kept_behind, part_at, part_drop, part_size}
use Rattle.packing.specs.Replace.{replaced}
use Rattle.tables.specs.Table.{Rising}
use Rattle.renaming.specs.Order.{order_in, Sorted}
use Rattle.filing.specs.File.{Files, refile_in, refact_in, refile_rises, refact_rises, rising_sorted}
use Rattle.limits.specs.Limits.{keys_at, facts_at, depths_at, history_at, form_size}
use Rattle.sheets.specs.Form.{Formed}
use Rattle.joining.specs.Leaf.{JoinedFacts}
use Rattle.joining.specs.Windows.{beside_back}
use Rattle.joining.specs.Work.{Work, into_in}
use Rattle.merge.specs.Regions.{FactsAt, KeysAt, RegionAt}

-- Room for keys and pairs together.
abbrev pub keys_room : Limits → ℕ
keys_room lim = 1 + lim.keys + lim.keys

-- What a form has to be merged, where pairs stand from place top of the keys' room on.
abbrev pub work_at : Limits → ℕ → List ℕ → Work
work_at lim top w = record {
  keys = part keys_at (get_or w 3 0) w;
  pairs = drop top (part keys_at (keys_room lim) w);
  facts = part (facts_at lim) (get_or w 4 0) w;
  depths = part (depths_at lim) (get_or w 2 0) w;
  history = part (history_at lim) lim.elements w;
}

-- Number, place and created count are kept, and there are no more keys and facts than before.
pub record Fewer (w w' : List ℕ) : Type 0 where
  pub kept : (i : ℕ) → i < 3 → get_or w' i 0 ≡ get_or w i 0
  pub keys : get_or w' 3 0 ≤ get_or w 3 0
  pub facts : get_or w' 4 0 ≤ get_or w 4 0

pub fewer_same : (w : List ℕ) → Fewer w w
fewer_same w = record { kept = λ i h. refl; keys = omega arith; facts = omega arith }

pub fewer_then : {u v w : List ℕ} → Fewer u v → Fewer v w → Fewer u w
fewer_then p q = record { kept = λ i h. q.kept i h ∙ p.kept i h; keys = omega (arith, p.keys, q.keys); facts = omega (arith, p.facts, q.facts) }

-- Keys and facts are in order, and the room behind the keys will do for facts too.
pub record Orderly (lim : Limits) (w : List ℕ) : Type 0 where
  pub even : lim.facts ≤ lim.keys
  pub keys : Sorted (part keys_at (get_or w 3 0) w)
  pub facts : Sorted (part (facts_at lim) (get_or w 4 0) w)

pub record IntoForm (lim : Limits) (s l top : ℕ) (w : List ℕ) (up : ℕ) (w' : List ℕ) : Type 0 where
  pub formed : Formed lim w'
  pub orderly : Orderly lim w'
  pub fewer : Fewer w w'
  pub work : work_at lim up w' ≡ into_in s l (work_at lim top w)
  pub below : up ≤ top
  pub sum : get_or w' 3 0 + top ≤ get_or w 3 0 + up

-- The list was cut at the facts, and they were joined, with places behind the keys written over.
pub facts_lent : (lim : Limits) (s l left : ℕ) (w : List ℕ) → Formed lim w → Orderly lim w → (at k : ℕ) (fr ba ys zs : List ℕ) → at ≡ facts_at lim → k ≡ get_or w 4 0
    → fr ≡ take at w → ba ≡ drop at w → length ys ≡ length (take (get_or w 4 0) ba) → length zs ≡ length (mid_of (keys_at + get_or w 3 0) k fr)
    → JoinedFacts s l (take (get_or w 4 0) ba) left ys
    → FactsAt (facts_at lim) (get_or w 4 0) (keys_at + get_or w 3 0) s l w left (put_mid (keys_at + get_or w 3 0) k fr zs ++ (ys ++ drop (get_or w 4 0) ba))
facts_lent lim s l left w g o at k fr ba ys zs a e f b y z j =
    beside_back (λ t u. JoinedFacts s l t left u) (facts_at lim) (get_or w 4 0) (keys_at + get_or w 3 0) k w fr ba ys zs e
    (omega (arith, g.keys, g.facts, o.even)) (omega (arith, g.size, g.facts)) (f ∙ ap (λ m. take m w) a) (b ∙ ap (λ m. drop m w) a) y z j

-- What joining facts has left alone: the counts, and whatever is apart from the facts and from the room behind the keys.
module _ (lim : Limits) (s l left : ℕ) (w w₁ : List ℕ) (g : Formed lim w) (o : Orderly lim w)
    (f : FactsAt (facts_at lim) (get_or w 4 0) (keys_at + get_or w 3 0) s l w left w₁) where
  few : get_or w 3 0 + get_or w 4 0 ≤ lim.keys + lim.keys
  few = omega (arith, g.keys, g.facts, o.even)

  count₁ : (i : ℕ) → i < 5 → get_or w₁ i 0 ≡ get_or w i 0
  count₁ i j =
      let z : i ≡ 0 + i = omega arith in
      let e : part 0 5 w₁ ≡ part 0 5 w = f.elsewhere.kept 0 5 (inr (omega arith)) (inr (omega arith)) in
      ap (λ k. get_or w₁ k 0) z ∙ sym (part_at 0 5 w₁ i j) ∙ ap (λ (t : List ℕ). get_or t i 0) e ∙ part_at 0 5 w i j ∙ ap (λ k. get_or w k 0) (sym z)

  pub keys₁ : part keys_at (get_or w 3 0) w₁ ≡ part keys_at (get_or w 3 0) w
  keys₁ = f.elsewhere.kept keys_at (get_or w 3 0) (inr (omega (arith, few))) (inr (omega arith))

  pairs₁ : (top : ℕ) → get_or w 3 0 + lim.keys ≤ top → top ≤ keys_room lim → drop top (part keys_at (keys_room lim) w₁) ≡ drop top (part keys_at (keys_room lim) w)
  pairs₁ top h fits =
      part_drop keys_at (keys_room lim) top w₁
      ∙ f.elsewhere.kept (keys_at + top) (keys_room lim - top) (inr (omega arith)) (inl (omega (arith, g.facts, o.even)))
      ∙ sym (part_drop keys_at (keys_room lim) top w)

  behind₁ : (c m : ℕ) → depths_at lim ≤ c → part c m w₁ ≡ part c m w
  behind₁ c m h = f.elsewhere.kept c m (inl (omega (arith, g.facts))) (inl (omega (arith, few)))

  size₁ : length w₁ ≡ form_size lim
  size₁ = f.elsewhere.size ∙ g.size

  fewer₁ : left ≤ get_or w 4 0
  fewer₁ = omega (arith, f.made.fewer, part_size (facts_at lim) (get_or w 4 0) w (omega (arith, g.size, g.facts)))

module _ (lim : Limits) (s l top count up left : ℕ) (w w₁ w₂ w₃ w₄ : List ℕ) (g : Formed lim w) (o : Orderly lim w) (behind : get_or w 3 0 + lim.keys ≤ top) (fits : top ≤ keys_room lim)
    (f : FactsAt (facts_at lim) (get_or w 4 0) (keys_at + get_or w 3 0) s l w left w₁) (k : KeysAt keys_at (keys_room lim) (get_or w 3 0) top s l w₁ count up w₂)
    (d : RegionAt (merge_depths s l) (depths_at lim) (get_or w 2 0) w₂ w₃) (h : RegionAt (map (replaced s l)) (history_at lim) lim.elements w₃ w₄) where
  abbrev w₅ : List ℕ
  w₅ = set (set w₄ 3 count) 4 left

  counts : Kept 3 2 w₄ w₅
  counts = kept_then (kept_set 3 2 w₄ 0 count (omega arith)) (kept_set 3 2 (set w₄ 3 count) 1 left (omega arith))

  size₄ : length w₄ ≡ form_size lim
  size₄ = h.kept.size ∙ d.kept.size ∙ k.kept.size ∙ size₁ lim s l left w w₁ g o f

  fewer : left ≤ get_or w 4 0
  fewer = fewer₁ lim s l left w w₁ g o f

  -- Counts before the regions.
  count₄ : (i : ℕ) → i < 5 → get_or w₄ i 0 ≡ get_or w i 0
  count₄ i j =
      kept_count h.kept i (omega arith) ∙ kept_count d.kept i (omega arith) ∙ kept_count k.kept i j ∙ count₁ lim s l left w w₁ g o f i j

  keys₅ : get_or w₅ 3 0 ≡ count
  keys₅ = get_or-set_other (set w₄ 3 count) 4 3 left 0 (λ e. let z = e in absurd (omega arith)) ∙ get_or-set_same w₄ 3 count 0 (omega (arith, size₄))

  facts₅ : get_or w₅ 4 0 ≡ left
  facts₅ = get_or-set_same (set w₄ 3 count) 4 left 0 (lt-length-set w₄ 3 count (omega (arith, size₄)))

  fewest : Fewer w w₅
  fewest = record {
    kept = λ i j. kept_count counts i j ∙ count₄ i (omega arith);
    keys = omega (arith, keys₅, k.made.fewer);
    facts = omega (arith, facts₅, fewer);
  }

  -- Each region as it was when it came back.
  region_keys : part keys_at (keys_room lim) w₅ ≡ part keys_at (keys_room lim) w₂
  region_keys =
      kept_behind counts keys_at (keys_room lim) (omega arith) ∙ kept_before h.kept keys_at (keys_room lim) (omega arith)
      ∙ kept_before d.kept keys_at (keys_room lim) (omega arith)

  region_facts : part (facts_at lim) left w₅ ≡ part (facts_at lim) left w₁
  region_facts =
      kept_behind counts (facts_at lim) left (omega arith) ∙ kept_before h.kept (facts_at lim) left (omega (arith, fewer, g.facts))
      ∙ kept_before d.kept (facts_at lim) left (omega (arith, fewer, g.facts)) ∙ kept_behind k.kept (facts_at lim) left (omega arith)

  region_depths : part (depths_at lim) (get_or w 2 0) w₅ ≡ merge_depths s l (part (depths_at lim) (get_or w 2 0) w)
  region_depths =
      kept_behind counts (depths_at lim) (get_or w 2 0) (omega arith) ∙ kept_before h.kept (depths_at lim) (get_or w 2 0) (omega (arith, g.created))
      ∙ d.made
      ∙ ap (merge_depths s l) (kept_behind k.kept (depths_at lim) (get_or w 2 0) (omega arith) ∙ behind₁ lim s l left w w₁ g o f (depths_at lim) (get_or w 2 0) (omega arith))

  region_history : part (history_at lim) lim.elements w₅ ≡ map (replaced s l) (part (history_at lim) lim.elements w)
  region_history =
      kept_behind counts (history_at lim) lim.elements (omega arith) ∙ h.made
      ∙ ap (map (replaced s l)) (kept_behind d.kept (history_at lim) lim.elements (omega (arith, g.created))
      ∙ kept_behind k.kept (history_at lim) lim.elements (omega arith) ∙ behind₁ lim s l left w w₁ g o f (history_at lim) lim.elements (omega arith))

  -- The front of a region.
  front_part : (a n room : ℕ) (t : List ℕ) → n ≤ room → part a n t ≡ take n (part a room t)
  unfolding part
  front_part a n room t j = sym (take-take n room (drop a t) j)

  filed : ◌≡◌ {A = Files} (part keys_at (get_or w₅ 3 0) w₅, drop up (part keys_at (keys_room lim) w₅))
      (refile_in (order_in (map (replaced s l) (part keys_at (get_or w 3 0) w))) ([], map (replaced s l) (drop top (part keys_at (keys_room lim) w))))
  filed =
      ap₂ (λ (x y : List ℕ). (x, y))
      (ap (λ n. part keys_at n w₅) keys₅ ∙ front_part keys_at count (keys_room lim) w₅ (omega (arith, k.made.fewer, g.keys)) ∙ ap (take count) region_keys) (ap (drop up) region_keys)
      ∙ k.made.made
      ∙ ap₂ (λ (x y : List ℕ). refile_in (order_in (map (replaced s l) x)) ([], map (replaced s l) y))
      (sym (front_part keys_at (get_or w 3 0) (keys_room lim) w₁ (omega (arith, g.keys))) ∙ keys₁ lim s l left w w₁ g o f) (pairs₁ lim s l left w w₁ g o f top behind fits)

  facted : part (facts_at lim) (get_or w₅ 4 0) w₅ ≡ refact_in (order_in (map (replaced s l) (part (facts_at lim) (get_or w 4 0) w))) []
  facted = ap (λ n. part (facts_at lim) n w₅) facts₅ ∙ region_facts ∙ front_part (facts_at lim) left (get_or w 4 0) w₁ fewer ∙ f.made.made

  pub into_made : IntoForm lim s l top w up w₅
  unfolding into_in Rising
  into_made = record {
    formed = record {
      size = counts.size ∙ size₄;
      created = omega (arith, fewest.kept 2 (omega arith), g.created);
      keys = omega (arith, fewest.keys, g.keys);
      facts = omega (arith, fewest.facts, g.facts);
    };
    orderly = record {
      even = o.even;
      keys = subst Sorted (sym (ap (λ (r : Files). r.0) filed)) (rising_sorted _ (refile_rises _ ([], _) tt));
      facts = subst Sorted (sym facted) (rising_sorted _ (refact_rises _ [] tt));
    };
    fewer = fewest;
    work = λ i. record {
      keys = (filed i).0;
      pairs = (filed i).1;
      facts = facted i;
      depths = (ap (λ n. part (depths_at lim) n w₅) (fewest.kept 2 (omega arith)) ∙ region_depths) i;
      history = region_history i;
    };
    below = k.made.below;
    sum = omega (arith, keys₅, k.made.sum);
  }
