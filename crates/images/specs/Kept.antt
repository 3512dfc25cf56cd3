-- A list of which n entries from a on may have changed and all others are kept.
use Rattle.std.specs.Prelude.{◌≡◌, refl, ℕ, zero, suc, ◌+◌, ◌-◌, ◌≤◌, ◌<◌, List, [], ◌∷◌, length, get_or, drop, set}
use Rattle.std.proofs.Common.{sym, ◌∙◌, length-set, length-drop, length-take}
use Rattle.std.proofs.Math.Path.{ap}
use native.Mathlib.Omega.{arith}
use Rattle.std.proofs.Math.ListN.{take, get_or-eq_default}
use lib.Seq.{take-set-le, drop-set-lt, take-set-lt, drop-set-add, get_or-take, get_or-drop, drop-drop, take-nil, length-take-le}
use Rattle.rules.specs.Image.{part}

pub record Kept (a n : ℕ) (w w' : List ℕ) : Type 0 where
  pub size : length w' ≡ length w
  pub front : take a w' ≡ take a w
  pub behind : drop (a + n) w' ≡ drop (a + n) w

pub kept_none : (a n : ℕ) (w : List ℕ) → Kept a n w w
kept_none a n w = record { size = refl; front = refl; behind = refl }

pub kept_then : {a n : ℕ} {u v w : List ℕ} → Kept a n u v → Kept a n v w → Kept a n u w
kept_then p q = record { size = q.size ∙ p.size; front = q.front ∙ p.front; behind = q.behind ∙ p.behind }

pub kept_set : (a n : ℕ) (w : List ℕ) (v y : ℕ) → v < n → Kept a n w (set w (a + v) y)
kept_set a n w v y h = record {
  size = length-set w (a + v) y;
  front = take-set-le a w (a + v) y (omega arith);
  behind = drop-set-lt (a + n) w (a + v) y (omega arith);
}

-- The region after a write in it.
pub part_set : (a n : ℕ) (w : List ℕ) (v y : ℕ) → v < n → part a n (set w (a + v) y) ≡ set (part a n w) v y
unfolding part
part_set a n w v y h = ap (take n) (drop-set-add a w v y) ∙ take-set-lt n (drop a w) v y h

-- An entry of the region.
pub part_at : (a n : ℕ) (w : List ℕ) (v : ℕ) → v < n → get_or (part a n w) v 0 ≡ get_or w (a + v) 0
unfolding part
part_at a n w v h = get_or-take n (drop a w) v 0 h ∙ get_or-drop a w v 0

pub part_size : (a n : ℕ) (w : List ℕ) → a + n ≤ length w → length (part a n w) ≡ n
unfolding part
part_size a n w h = length-take-le n (drop a w) (omega (arith, length-drop a w))

pub part_out : (a n : ℕ) (w : List ℕ) (v : ℕ) → n ≤ v → 0 ≡ get_or (part a n w) v 0
unfolding part
part_out a n w v h = sym (get_or-eq_default (take n (drop a w)) 0 {n = v} (simp length-take (omega arith)))

-- What a front has from a place on.
pub drop_take : (b a : ℕ) (t : List ℕ) → drop b (take a t) ≡ take (a - b) (drop b t)
drop_take zero a t = let e : a - 0 ≡ a = omega arith in ap (λ m. take m t) (sym e)
drop_take (suc b) zero t = let e : 0 - suc b ≡ 0 = omega arith in ap (λ m. take m (drop (suc b) t)) (sym e)
drop_take (suc b) (suc a) [] = sym (take-nil (suc a - suc b))
drop_take (suc b) (suc a) (x ∷ t) = let e : suc a - suc b ≡ a - b = omega arith in drop_take b a t ∙ ap (λ m. take m (drop b t)) (sym e)

-- The rest of a part.
pub part_drop : (a n k : ℕ) (w : List ℕ) → drop k (part a n w) ≡ part (a + k) (n - k) w
unfolding part
part_drop a n k w = drop_take k n (drop a w) ∙ ap (take (n - k)) (drop-drop k a w)

part_in : (b m a : ℕ) (t : List ℕ) → b + m ≤ a → part b m t ≡ drop b (take (b + m) (take a t))
unfolding part
part_in b m a t h =
    let e : b + m - b ≡ m = omega arith in
    sym (drop_take b (b + m) (take a t) ∙ ap (λ k. take k (drop b (take a t))) e ∙ ap (take m) (drop_take b a t) ∙ lib.Seq.take-take m (a - b) (drop b t) (omega arith))

module _ {a n : ℕ} {w w' : List ℕ} (k : Kept a n w w') where
  -- An entry before the region, a part before it, and a part behind it.
  pub kept_count : (i : ℕ) → i < a → get_or w' i 0 ≡ get_or w i 0
  kept_count i h = sym (get_or-take a w' i 0 h) ∙ ap (λ (l : List ℕ). get_or l i 0) k.front ∙ get_or-take a w i 0 h

  pub kept_before : (b m : ℕ) → b + m ≤ a → part b m w' ≡ part b m w
  kept_before b m h = part_in b m a w' h ∙ ap (λ (l : List ℕ). drop b (take (b + m) l)) k.front ∙ sym (part_in b m a w h)

  pub kept_behind : (b m : ℕ) → a + n ≤ b → part b m w' ≡ part b m w
  unfolding part
  kept_behind b m h =
      let e : a + n + (b - (a + n)) ≡ b = omega arith in
      ap (λ j. take m (drop j w')) (sym e)
      ∙ ap (take m) (sym (drop-drop (b - (a + n)) (a + n) w') ∙ ap (drop (b - (a + n))) k.behind ∙ drop-drop (b - (a + n)) (a + n) w)
      ∙ ap (λ j. take m (drop j w)) e
