-- What a packed key gives its value, and depths lowered by it, by a pass over the keys, and by passes until none lowers.
use Rattle.std.specs.Prelude.{◌≡◌, refl, ℕ, zero, suc, ◌+◌, ◌≤◌, ◌<◌, min, max, List, [], ◌∷◌, map, get_or, take, set, eqb, ltb}
use Rattle.std.specs.List.{range_with_len, fold}
use Rattle.std.proofs.Math.Path.{sym, ap}
use native.Mathlib.Omega.{arith}
use Rattle.std.proofs.Common.{◌∙◌, take_all, lt→ltb, eqb→eq}
use Rattle.std.proofs.Math.Dec.{ltb→lt, not_T}
use Rattle.base.specs.Branch.{if}
use Rattle.base.specs.BranchLaws.{if_true, if_false, eq→eqb}
use Rattle.rules.specs.Merge.{sum}
use Rattle.packing.specs.Replace.{count_of, arg_of, value_of}

-- The depth of the i-th argument; of none that is there, 0.
unfoldable pub arg_depth : List ℕ → ℕ → ℕ → ℕ
arg_depth ds x i = if (ltb i (count_of x)) (λ _. get_or ds (arg_of x i) 0) (λ _. 0)

-- The greatest depth of an argument.
unfoldable pub deepest : List ℕ → ℕ → ℕ
deepest ds x = max (max (arg_depth ds x 0) (arg_depth ds x 1)) (max (arg_depth ds x 2) (arg_depth ds x 3))

-- "0 without arguments, else 1 + the greatest argument depth."
unfoldable pub over_in : List ℕ → ℕ → ℕ
over_in ds x = if (eqb (count_of x) 0) (λ _. 0) (λ _. suc (deepest ds x))

-- The value's depth, no more than what the key gives it.
unfoldable pub lowest : List ℕ → ℕ → ℕ
lowest ds x = min (get_or ds (value_of x) 0) (over_in ds x)

unfoldable pub lower_at : ℕ → List ℕ → List ℕ
lower_at x ds = set ds (value_of x) (lowest ds x)

unfoldable pub lower_by_in : List ℕ → List ℕ → List ℕ
lower_by_in [] ds = ds
lower_by_in (x ∷ xs) ds = lower_by_in xs (lower_at x ds)

unfoldable pub lower_in : ℕ → List ℕ → List ℕ → List ℕ
lower_in zero ks ds = ds
lower_in (suc n) ks ds = let r = lower_by_in ks ds in if (eqb (sum r) (sum ds)) (λ _. ds) (λ _. lower_in n ks r)

-- ---- the ways out of reading depths

-- The first n of four places.
of_four : (n : ℕ) → take n (range_with_len 0 4) ≡ range_with_len 0 (min n 4)
of_four zero = refl
of_four (suc zero) = refl
of_four (suc (suc zero)) = refl
of_four (suc (suc (suc zero))) = refl
of_four (suc (suc (suc (suc n)))) =
    let m : 4 ≡ min (suc (suc (suc (suc n)))) 4 = omega arith in
    take_all (suc (suc (suc (suc n)))) (range_with_len 0 4) (omega arith) ∙ ap (range_with_len 0) m

module _ (ds : List ℕ) (x : ℕ) where
  pub arg_there : (i : ℕ) → i < count_of x → arg_depth ds x i ≡ get_or ds (arg_of x i) 0
  unfolding arg_depth
  arg_there i h = if_true (ltb i (count_of x)) _ _ (lt→ltb i (count_of x) h)

  pub arg_none : (i : ℕ) → count_of x ≤ i → 0 ≡ arg_depth ds x i
  unfolding arg_depth
  arg_none i h = sym (if_false (ltb i (count_of x)) _ _ (not_T (ltb i (count_of x)) (λ t. let l = ltb→lt i (count_of x) t in omega arith)))

  -- The greatest over the arguments that are there.
  pub greatest_is : (n : ℕ) → n ≡ min (count_of x) 4 → fold max 0 (map (λ i. get_or ds (arg_of x i) 0) (range_with_len 0 n)) ≡ deepest ds x
  unfolding deepest
  greatest_is zero e = omega (arith, arg_none 0 (omega arith), arg_none 1 (omega arith), arg_none 2 (omega arith), arg_none 3 (omega arith))
  greatest_is (suc zero) e = omega (arith, arg_there 0 (omega arith), arg_none 1 (omega arith), arg_none 2 (omega arith), arg_none 3 (omega arith))
  greatest_is (suc (suc zero)) e = omega (arith, arg_there 0 (omega arith), arg_there 1 (omega arith), arg_none 2 (omega arith), arg_none 3 (omega arith))
  greatest_is (suc (suc (suc zero))) e = omega (arith, arg_there 0 (omega arith), arg_there 1 (omega arith), arg_there 2 (omega arith), arg_none 3 (omega arith))
  greatest_is (suc (suc (suc (suc zero)))) e = omega (arith, arg_there 0 (omega arith), arg_there 1 (omega arith), arg_there 2 (omega arith), arg_there 3 (omega arith))
  greatest_is (suc (suc (suc (suc (suc n))))) e = absurd (omega arith)

  -- The same over as many of the four places.
  pub greatest_of : (n : ℕ) → n ≡ count_of x → fold max 0 (map (λ i. get_or ds (arg_of x i) 0) (take n (range_with_len 0 4))) ≡ deepest ds x
  greatest_of n e = ap (λ (is : List ℕ). fold max 0 (map (λ i. get_or ds (arg_of x i) 0) is)) (of_four n) ∙ greatest_is (min n 4) (omega arith)

  pub over_none : count_of x ≡ 0 → over_in ds x ≡ 0
  unfolding over_in
  over_none h = if_true (eqb (count_of x) 0) _ _ (eq→eqb (count_of x) 0 h)

  pub over_some : (count_of x ≡ 0 → ⊥) → over_in ds x ≡ suc (deepest ds x)
  unfolding over_in
  over_some h = if_false (eqb (count_of x) 0) _ _ (not_T (eqb (count_of x) 0) (λ t. h (eqb→eq (count_of x) 0 t)))

  pub lowest_none : count_of x ≡ 0 → 0 ≡ lowest ds x
  unfolding lowest
  lowest_none h = let o = over_none h in omega arith

  pub lowest_some : (count_of x ≡ 0 → ⊥) → lowest ds x ≡ min (get_or ds (value_of x) 0) (suc (deepest ds x))
  unfolding lowest
  lowest_some h = ap (min (get_or ds (value_of x) 0)) (over_some h)

  -- What the key gives is less, or it is not.
  pub lowest_less : (count_of x ≡ 0 → ⊥) → deepest ds x < get_or ds (value_of x) 0 → deepest ds x + 1 ≡ lowest ds x
  unfolding lowest
  lowest_less h l = let o = over_some h in omega arith

  pub lowest_same : (count_of x ≡ 0 → ⊥) → get_or ds (value_of x) 0 ≤ deepest ds x → get_or ds (value_of x) 0 ≡ lowest ds x
  unfolding lowest
  lowest_same h l = let o = over_some h in omega arith
