-- A form written region by region shows what was written; and what loading a slot's bytes writes.
use Rattle.std.specs.Prelude.{◌≡◌, refl, ℕ, zero, suc, ◌+◌, ◌-◌, ◌≤◌, ◌<◌, min, List, [], ◌∷◌, ◌++◌, get_or, take, drop, set}
use Rattle.std.proofs.Common.{sym, ap, ap₂, ◌∙◌, arith, add-one, append_assoc, length-append, length-drop, length-take-le, take-append-drop, take_at, drop-cons, drop-drop}
use Rattle.std.proofs.Math.ListN.{length, get_or-append}
use Rattle.std.proofs.lemmas.List.{set_at}
use Rattle.std.proofs.Math.Seq.{append_snoc}
use borrow.Rule.Slice.PartMut.{put_mid, mid_of, mid_len}
use Rattle.base.specs.Lists.{from}
use Rattle.rules.specs.Reading.{Bytes, num}
use Rattle.rules.specs.Sheet.{Limits}
use Rattle.rules.specs.Image.{part}
use Rattle.limits.specs.Limits.{slot_facts_at, slot_depths_at}
use Rattle.octets.specs.Patch.{patched, patched_length, patched_part}
use Rattle.octets.specs.Words.{numbers_at}
use Rattle.sheets.specs.Parts.{part_here, part_before, count_before}
use Rattle.sheets.specs.Form.{View, view_of, Formed, keys_at, facts_at, depths_at, history_at, form_size}

-- ---- a form written region by region

module _ (lim : Limits) (w hs ks fs ds ns : List ℕ) (size : length w ≡ form_size lim) (lh : length hs ≡ keys_at) (lk : length ks ≡ lim.keys)
    (lf : length fs ≡ lim.facts) (ld : length ds ≡ lim.elements) (ln : length ns ≡ lim.elements) where
  abbrev w₁ : List ℕ
  w₁ = patched 0 hs w

  abbrev w₂ : List ℕ
  w₂ = patched keys_at ks w₁

  abbrev w₃ : List ℕ
  w₃ = patched (facts_at lim) fs w₂

  abbrev w₄ : List ℕ
  w₄ = patched (depths_at lim) ds w₃

  abbrev built : List ℕ
  built = patched (history_at lim) ns w₄

  z₁ : length w₁ ≡ form_size lim
  z₁ = patched_length 0 hs w (omega arith) ∙ size

  z₂ : length w₂ ≡ form_size lim
  z₂ = patched_length keys_at ks w₁ (omega (arith, z₁)) ∙ z₁

  z₃ : length w₃ ≡ form_size lim
  z₃ = patched_length (facts_at lim) fs w₂ (omega (arith, z₂)) ∙ z₂

  z₄ : length w₄ ≡ form_size lim
  z₄ = patched_length (depths_at lim) ds w₃ (omega (arith, z₃)) ∙ z₃

  built_size : length built ≡ form_size lim
  built_size = patched_length (history_at lim) ns w₄ (omega (arith, z₄)) ∙ z₄

  built_count : (i : ℕ) → i < 5 → get_or built i 0 ≡ get_or hs i 0
  unfolding patched
  built_count i h =
      count_before (history_at lim) ns w₄ (omega (arith, z₄)) i (omega arith)
      ∙ count_before (depths_at lim) ds w₃ (omega (arith, z₃)) i (omega arith)
      ∙ count_before (facts_at lim) fs w₂ (omega (arith, z₂)) i (omega arith)
      ∙ count_before keys_at ks w₁ (omega (arith, z₁)) i h
      ∙ get_or-append hs (drop (0 + length hs) w) 0 i (omega arith)

  built_keys : (n : ℕ) → n ≤ lim.keys → part keys_at n built ≡ take n ks
  built_keys n h =
      part_before (history_at lim) ns w₄ (omega (arith, z₄)) keys_at n (omega arith)
      ∙ part_before (depths_at lim) ds w₃ (omega (arith, z₃)) keys_at n (omega arith)
      ∙ part_before (facts_at lim) fs w₂ (omega (arith, z₂)) keys_at n (omega arith)
      ∙ part_here keys_at ks w₁ (omega (arith, z₁)) n (omega arith)

  built_facts : (n : ℕ) → n ≤ lim.facts → part (facts_at lim) n built ≡ take n fs
  built_facts n h =
      part_before (history_at lim) ns w₄ (omega (arith, z₄)) (facts_at lim) n (omega arith)
      ∙ part_before (depths_at lim) ds w₃ (omega (arith, z₃)) (facts_at lim) n (omega arith)
      ∙ part_here (facts_at lim) fs w₂ (omega (arith, z₂)) n (omega arith)

  built_depths : (n : ℕ) → n ≤ lim.elements → part (depths_at lim) n built ≡ take n ds
  built_depths n h =
      part_before (history_at lim) ns w₄ (omega (arith, z₄)) (depths_at lim) n (omega arith)
      ∙ part_here (depths_at lim) ds w₃ (omega (arith, z₃)) n (omega arith)

  built_history : (n : ℕ) → n ≤ lim.elements → part (history_at lim) n built ≡ take n ns
  built_history n h = part_here (history_at lim) ns w₄ (omega (arith, z₄)) n (omega arith)

-- ---- what loading gives

-- What a slot's bytes say, counts no more than the limits; each element is still itself.
unfoldable pub view_in : Limits → Bytes → View
view_in lim s = record {
  number = num s 0;
  place = num s 2;
  created = min (num s 4) lim.elements;
  keys = numbers_at s 16 (min (num s 6) lim.keys);
  facts = numbers_at s (slot_facts_at lim) (min (num s 8) lim.facts);
  depths = take (min (num s 4) lim.elements) (drop (slot_depths_at lim) s);
  history = from 0 lim.elements;
}

pub record Loaded (lim : Limits) (s : Bytes) (w : List ℕ) : Type 0 where
  pub formed : Formed lim w
  pub view : view_of lim w ≡ view_in lim s

pub from_length : (a n : ℕ) → length (from a n) ≡ n
unfolding from
from_length a zero = refl
from_length a (suc n) = ap suc (from_length (suc a) n)

from_more : (a n : ℕ) → from a (suc n) ≡ from a n ++ ((a + n) ∷ [])
unfolding from
from_more a zero = let e : a + 0 ≡ a = omega arith in rw e
from_more a (suc n) = let e : a + suc n ≡ suc a + n = omega arith in rw e (ap (λ (l : List ℕ). a ∷ l) (from_more (suc a) n))

-- One more element that is itself.
pub from_set : (i : ℕ) (t : List ℕ) → i < length t → set (from 0 i ++ drop i t) i i ≡ from 0 (i + 1) ++ drop (i + 1) t
from_set i t h =
    let e : 0 + i ≡ i = omega arith in
    rw (drop-cons t i 0 h, add-one)
    (set_at (from 0 i) (get_or t i 0) (drop (suc i) t) i i (from_length 0 i)
    ∙ sym (append_snoc (from 0 i) i (drop (suc i) t))
    ∙ ap (λ (l : List ℕ). l ++ drop (suc i) t) (ap (λ j. from 0 i ++ (j ∷ [])) (sym e) ∙ sym (from_more 0 i)))

-- ---- one region

-- The room of so many entries that starts at a place was written over, and its first n entries are p.
pub record Region (at room n : ℕ) (p w w' : List ℕ) : Type 0 where
  pub fill : List ℕ
  pub made : w' ≡ patched at fill w
  pub size : length fill ≡ room
  pub front : take n fill ≡ p

-- A part that was lent and came back with p in front.
pub region_lent : (at room n k : ℕ) (p rest w ys : List ℕ) → k ≡ room → length ys ≡ k → ys ≡ p ++ rest → length p ≡ n
    → Region at room n p w (put_mid at k w ys)
region_lent at room n k p rest w ys e l q z =
    record { fill = ys; made = patched_part at k ys w l; size = l ∙ e; front = ap (take n) q ∙ take_at p rest n z }

-- The front of a part was lent and came back as p; the rest of the part is as it was.
pub region_front : (at room n k : ℕ) (p w ys : List ℕ) → n ≤ room → at + room ≤ length w → k ≡ n → length ys ≡ k → ys ≡ p → Region at room n p w (put_mid at k w ys)
unfolding patched
region_front at room n k p w ys h q e l r =
    let rest : List ℕ = take (room - n) (drop (at + length ys) w) in
    let z : length rest ≡ room - n = length-take-le (room - n) (drop (at + length ys) w) (omega (arith, length-drop (at + length ys) w)) in
    let m : at + length ys + (room - n) ≡ at + length (ys ++ rest) = omega (arith, length-append ys rest) in
    let d : drop (at + length ys) w ≡ rest ++ drop (at + length (ys ++ rest)) w =
    sym (take-append-drop (room - n) (drop (at + length ys) w)) ∙ ap (λ (x : List ℕ). rest ++ x) (drop-drop (room - n) (at + length ys) w ∙ ap (λ j. drop j w) m) in
    record {
      fill = ys ++ rest;
      made = patched_part at k ys w l ∙ ap (λ (x : List ℕ). take at w ++ ys ++ x) d ∙ (simp append_assoc);
      size = length-append ys rest ∙ omega arith;
      front = take_at ys rest n (omega arith) ∙ r;
    }

-- So it is where the front is what some read gives for as many entries as it has.
pub region_read : (read : ℕ → List ℕ) (at room n : ℕ) (w ys : List ℕ) → n ≤ room → at + room ≤ length w
    → length ys ≡ length (mid_of at (at + n - at) w) → ys ≡ read (length (mid_of at (at + n - at) w))
    → Region at room n (read n) w (put_mid at (at + n - at) w ys)
region_read read at room n w ys h q l e =
    let z : length (mid_of at (at + n - at) w) ≡ at + n - at = mid_len at (at + n) w (omega arith) in
    region_front at room n (at + n - at) (read n) w ys h q (omega arith) (l ∙ z) (e ∙ ap read (z ∙ omega arith))

-- The counts as they were read, and as they stand in the form.
pub record Counted (lim : Limits) (s : Bytes) (c k f : ℕ) (w w' : List ℕ) : Type 0 where
  pub made : w' ≡ patched 0 (num s 0 ∷ num s 2 ∷ min (num s 4) lim.elements ∷ min (num s 6) lim.keys ∷ min (num s 8) lim.facts ∷ []) w
  pub created : c ≡ min (num s 4) lim.elements
  pub keys : k ≡ min (num s 6) lim.keys
  pub facts : f ≡ min (num s 8) lim.facts

pub counted : (lim : Limits) (s : Bytes) (a b c k f : ℕ) (w w' : List ℕ) → a ≡ num s 0 → b ≡ num s 2 → c ≡ min (num s 4) lim.elements
    → k ≡ min (num s 6) lim.keys → f ≡ min (num s 8) lim.facts → w' ≡ patched 0 (a ∷ b ∷ c ∷ k ∷ f ∷ []) w → Counted lim s c k f w w'
counted lim s a b c k f w w' p q r t u e =
    record { made = e ∙ (λ i. patched 0 (p i ∷ q i ∷ r i ∷ t i ∷ u i ∷ []) w); created = r; keys = t; facts = u }

-- ---- all of them

-- The counts, and four regions one after another.
load_made : (lim : Limits) (s w w₁ w₂ w₃ w₄ w₅ : List ℕ) → length w ≡ form_size lim
    → w₁ ≡ patched 0 (num s 0 ∷ num s 2 ∷ min (num s 4) lim.elements ∷ min (num s 6) lim.keys ∷ min (num s 8) lim.facts ∷ []) w
    → Region keys_at lim.keys (min (num s 6) lim.keys) (view_in lim s).keys w₁ w₂
    → Region (facts_at lim) lim.facts (min (num s 8) lim.facts) (view_in lim s).facts w₂ w₃
    → Region (depths_at lim) lim.elements (min (num s 4) lim.elements) (view_in lim s).depths w₃ w₄
    → Region (history_at lim) lim.elements lim.elements (from 0 lim.elements) w₄ w₅
    → Loaded lim s w₅
unfolding view_in view_of
load_made lim s w w₁ w₂ w₃ w₄ w₅ size e k f d n =
    let c₂ = min (num s 4) lim.elements in
    let c₃ = min (num s 6) lim.keys in
    let c₄ = min (num s 8) lim.facts in
    let hs = num s 0 ∷ num s 2 ∷ c₂ ∷ c₃ ∷ c₄ ∷ [] in
    let all : w₅ ≡ built lim w hs k.fill f.fill d.fill n.fill size refl k.size f.size d.size n.size =
    n.made ∙ ap (patched (history_at lim) n.fill) (d.made ∙ ap (patched (depths_at lim) d.fill) (f.made ∙ ap (patched (facts_at lim) f.fill) (k.made ∙ ap (patched keys_at k.fill) e))) in
    let count : (i : ℕ) → i < 5 → get_or w₅ i 0 ≡ get_or hs i 0 = λ i h.
    ap (λ (l : List ℕ). get_or l i 0) all ∙ built_count lim w hs k.fill f.fill d.fill n.fill size refl k.size f.size d.size n.size i h in
    let n₂ = count 2 (omega arith) in
    let n₃ = count 3 (omega arith) in
    let n₄ = count 4 (omega arith) in
    let ks = ap₂ (λ (j : ℕ) (l : List ℕ). part keys_at j l) n₃ all ∙ built_keys lim w hs k.fill f.fill d.fill n.fill size refl k.size f.size d.size n.size c₃ (omega arith) ∙ k.front in
    let fs = ap₂ (λ (j : ℕ) (l : List ℕ). part (facts_at lim) j l) n₄ all ∙ built_facts lim w hs k.fill f.fill d.fill n.fill size refl k.size f.size d.size n.size c₄ (omega arith) ∙ f.front in
    let ds = ap₂ (λ (j : ℕ) (l : List ℕ). part (depths_at lim) j l) n₂ all ∙ built_depths lim w hs k.fill f.fill d.fill n.fill size refl k.size f.size d.size n.size c₂ (omega arith) ∙ d.front in
    let ns = ap (part (history_at lim) lim.elements) all ∙ built_history lim w hs k.fill f.fill d.fill n.fill size refl k.size f.size d.size n.size lim.elements (omega arith) ∙ n.front in
    record {
      formed = record {
        size = ap length all ∙ built_size lim w hs k.fill f.fill d.fill n.fill size refl k.size f.size d.size n.size;
        created = omega arith;
        keys = omega arith;
        facts = omega arith;
      };
      view = λ i. record { number = count 0 (omega arith) i; place = count 1 (omega arith) i; created = n₂ i; keys = ks i; facts = fs i; depths = ds i; history = ns i };
    }

pub loaded : (lim : Limits) (s w w₁ w₂ w₃ w₄ w₅ : List ℕ) (c k f at₁ at₂ at₃ from₁ from₂ : ℕ) → at₁ ≡ facts_at lim → at₂ ≡ depths_at lim → at₃ ≡ history_at lim
    → from₁ ≡ slot_facts_at lim → from₂ ≡ slot_depths_at lim → length w ≡ form_size lim → Counted lim s c k f w w₁
    → Region keys_at lim.keys k (numbers_at s 16 k) w₁ w₂ → Region at₁ lim.facts f (numbers_at s from₁ f) w₂ w₃
    → Region at₂ lim.elements c (take c (drop from₂ s)) w₃ w₄ → Region at₃ lim.elements lim.elements (from 0 lim.elements) w₄ w₅ → Loaded lim s w₅
unfolding view_in
loaded lim s w w₁ w₂ w₃ w₄ w₅ c k f at₁ at₂ at₃ from₁ from₂ p₁ p₂ p₃ q₁ q₂ size m a b d n =
    load_made lim s w w₁ w₂ w₃ w₄ w₅ size m.made (rw m.keys at a) (rw (p₁, q₁, m.facts) at b) (rw (p₂, q₂, m.created) at d) (rw p₃ at n)
