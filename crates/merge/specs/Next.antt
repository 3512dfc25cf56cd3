-- The pairs one after another: the newest is taken, and its two elements become one if they are not one already.
use Rattle.std.specs.Prelude.{◌≡◌, refl, ℕ, ◌+◌, ◌-◌, ◌/◌, ◌%◌, ◌≤◌, ◌<◌, min, max, List, [], ◌∷◌, get_or, drop, eqb}
use Rattle.std.proofs.Math.Path.{sym, ap, ap₂}
use Rattle.std.proofs.Common.{◌∙◌, arith, add-one, drop_of_length-le, drop-cons, eqb→eq}
use Rattle.std.proofs.Math.Dec.{not_T}
use Rattle.base.specs.BranchLaws.{if_true, if_false, eq→eqb}
use Rattle.rules.specs.Sheet.{Limits}
use Rattle.rules.specs.Image.{part}
use Rattle.limits.specs.Limits.{keys_at}
use Rattle.sheets.specs.Form.{Formed}
use Rattle.images.specs.Kept.{part_at, part_size}
use Rattle.joining.specs.Work.{Work, into_in, next_in, merge_all_in, rounds, all_next, all_end}
use Rattle.merge.specs.Into.{keys_room, work_at, Orderly, Fewer, fewer_same, fewer_then, IntoForm}

-- Pairs stand from top on, with room before them for all that can follow.
pub record Stacked (lim : Limits) (top : ℕ) (w : List ℕ) : Type 0 where
  pub formed : Formed lim w
  pub orderly : Orderly lim w
  pub high : top ≤ keys_room lim
  pub room : get_or w 3 0 + lim.keys ≤ top

-- One round: the pairs that are left give what all would, and keys and pairs are one fewer.
pub record NextForm (lim : Limits) (top : ℕ) (w : List ℕ) (up : ℕ) (w' : List ℕ) : Type 0 where
  pub stacked : Stacked lim up w'
  pub fewer : Fewer w w'
  pub rest : merge_all_in (rounds (work_at lim top w)) (work_at lim top w) ≡ merge_all_in (rounds (work_at lim up w')) (work_at lim up w')
  pub sum : get_or w' 3 0 + top < get_or w 3 0 + up

module _ (lim : Limits) (top : ℕ) (w : List ℕ) (g : Stacked lim top w) (some : top < keys_room lim) where
  abbrev p : ℕ
  p = get_or w (keys_at + top) 0

  newest : drop top (part keys_at (keys_room lim) w) ≡ p ∷ drop (top + 1) (part keys_at (keys_room lim) w)
  newest =
      rw add-one (drop-cons (part keys_at (keys_room lim) w) top 0 (omega (arith, part_size keys_at (keys_room lim) w (omega (arith, g.formed.size)))))
      ∙ ap (λ x. x ∷ drop (top + 1) (part keys_at (keys_room lim) w)) (part_at keys_at (keys_room lim) w top some)

  round : merge_all_in (rounds (work_at lim top w)) (work_at lim top w) ≡ merge_all_in (rounds (next_in p (work_at lim (top + 1) w))) (next_in p (work_at lim (top + 1) w))
  round = all_next (work_at lim top w) p (drop (top + 1) (part keys_at (keys_room lim) w)) newest

  -- The two are one already.
  pub next_same : p / 256 ≡ p % 256 → NextForm lim top w (top + 1) w
  unfolding next_in
  next_same e = record {
    stacked = record { formed = g.formed; orderly = g.orderly; high = omega arith; room = omega (arith, g.room) };
    fewer = fewer_same w;
    rest = round ∙ ap (λ (v : Work). merge_all_in (rounds v) v) (if_true (eqb (p / 256) (p % 256)) (λ _. work_at lim (top + 1) w) _ (eq→eqb (p / 256) (p % 256) e));
    sum = omega arith;
  }

  -- The smaller stays.
  pub next_into : (s l up : ℕ) (w' : List ℕ) → (p / 256 ≡ p % 256 → ⊥) → s ≡ min (p / 256) (p % 256) → l ≡ max (p / 256) (p % 256)
      → IntoForm lim s l (top + 1) w up w' → NextForm lim top w up w'
  unfolding next_in
  next_into s l up w' n es el i = record {
    stacked = record { formed = i.formed; orderly = i.orderly; high = omega (arith, i.below); room = omega (arith, i.sum, g.room) };
    fewer = i.fewer;
    rest = round ∙ ap (λ (v : Work). merge_all_in (rounds v) v)
        (if_false (eqb (p / 256) (p % 256)) _ (λ _. into_in (min (p / 256) (p % 256)) (max (p / 256) (p % 256)) (work_at lim (top + 1) w)) (not_T (eqb (p / 256) (p % 256)) (λ q. n (eqb→eq (p / 256) (p % 256) q)))
        ∙ ap₂ (λ (a b : ℕ). into_in a b (work_at lim (top + 1) w)) (sym es) (sym el) ∙ sym i.work);
    sum = omega (arith, i.sum);
  }

-- ---- the loop

pub record AllForm (lim : Limits) (top : ℕ) (w w' : List ℕ) : Type 0 where
  pub formed : Formed lim w'
  pub fewer : Fewer w w'
  pub work : work_at lim (keys_room lim) w' ≡ merge_all_in (rounds (work_at lim top w)) (work_at lim top w)

pub record Merging (lim : Limits) (top₀ : ℕ) (w₀ : List ℕ) (top : ℕ) (w : List ℕ) : Type 0 where
  pub stacked : Stacked lim top w
  pub fewer : Fewer w₀ w
  pub rest : merge_all_in (rounds (work_at lim top₀ w₀)) (work_at lim top₀ w₀) ≡ merge_all_in (rounds (work_at lim top w)) (work_at lim top w)

-- How many rounds are left at most.
abbrev pub remaining : Limits → ℕ → List ℕ → ℕ
remaining lim top w = get_or w 3 0 + (keys_room lim - top)

module _ (lim : Limits) (top₀ : ℕ) (w₀ : List ℕ) where
  pub merging_start : Stacked lim top₀ w₀ → Merging lim top₀ w₀ top₀ w₀
  merging_start g = record { stacked = g; fewer = fewer_same w₀; rest = refl }

  pub merging_next : (top : ℕ) (w : List ℕ) (up : ℕ) (w' : List ℕ) → Merging lim top₀ w₀ top w → NextForm lim top w up w' → Merging lim top₀ w₀ up w'
  merging_next top w up w' g n = record { stacked = n.stacked; fewer = fewer_then g.fewer n.fewer; rest = g.rest ∙ n.rest }

  pub merging_less : (top : ℕ) (w : List ℕ) (up : ℕ) (w' : List ℕ) → Merging lim top₀ w₀ top w → NextForm lim top w up w' → remaining lim up w' < remaining lim top w
  merging_less top w up w' g n = less (get_or w' 3 0) (get_or w 3 0) (keys_room lim) n.sum g.stacked.high n.stacked.high
    where
      less : (a b r : ℕ) → a + top < b + up → top ≤ r → up ≤ r → a + (r - up) < b + (r - top)
      less a b r h i j = omega arith

  pub merging_end : (top : ℕ) (w : List ℕ) → Merging lim top₀ w₀ top w → keys_room lim ≤ top → AllForm lim top₀ w₀ w
  merging_end top w g h =
      let e : top ≡ keys_room lim = omega (arith, g.stacked.high) in
      let none : drop (keys_room lim) (part keys_at (keys_room lim) w) ≡ [] = drop_of_length-le (part keys_at (keys_room lim) w) {i = keys_room lim} (omega (arith, part_size keys_at (keys_room lim) w (omega (arith, g.stacked.formed.size)))) in
      record {
        formed = g.stacked.formed;
        fewer = g.fewer;
        work = sym (g.rest ∙ ap (λ j. merge_all_in (rounds (work_at lim j w)) (work_at lim j w)) e ∙ all_end (rounds (work_at lim (keys_room lim) w)) (work_at lim (keys_room lim) w) none);
      }
