-- Lowering through packed keys is the document's.
use Rattle.std.specs.Prelude.{◌≡◌, refl, ℕ, zero, suc, ◌≤◌, ◌<◌, min, max, List, [], ◌∷◌, map, length, set, eqb, ltb}
use Rattle.std.proofs.Common.{sym, ap, ◌∙◌, arith}
use Rattle.std.proofs.Math.Path.{ap₂}
use Rattle.std.proofs.Math.ListN.{get_or}
use Rattle.base.specs.Branch.{if}
use Rattle.base.specs.Lists.{All}
use Rattle.rules.specs.Sheet.{Entry}
use Rattle.rules.specs.Bound.{depth_over}
use Rattle.rules.specs.Merge.{sum, lower_by, lower}
use Rattle.packing.specs.Pack.{pack_entry}
use Rattle.packing.specs.Replace.{value_of, Eight, count_of_lem, arg_of_lem, value_of_lem}
use Rattle.lowering.specs.Lower.{arg_depth, deepest, over_in, lowest, lower_at, lower_by_in, lower_in}

-- The depth at the i-th of some elements, 0 behind them.
abbrev depth_at : List ℕ → List ℕ → ℕ → ℕ
depth_at ds xs i = if (ltb i (length xs)) (λ _. get_or ds (get_or xs i 0) 0) (λ _. 0)

join_two : (a b z : ℕ) → max (suc a) (max (suc b) z) ≡ max (suc (max a b)) z
join_two a b z = omega arith

last_two : (a b : ℕ) → max (suc a) (max (suc b) 0) ≡ suc (max a b)
last_two a b = omega arith

all_four : (a b c d : ℕ) → suc (max (max a b) (max c d)) ≡ max (suc a) (max (suc b) (max (suc c) (max (suc d) 0)))
all_four a b c d =
    let p : suc (max (max a b) (max c d)) ≡ max (suc (max a b)) (suc (max c d)) = raised (max a b) (max c d) in
    p ∙ ap (max (suc (max a b))) (sym (last_two c d)) ∙ sym (join_two a b (max (suc c) (max (suc d) 0)))
  where
    raised : (x y : ℕ) → suc (max x y) ≡ max (suc x) (suc y)
    raised x y = omega arith

-- At most four elements: 0 over none, else one more than the greatest of the four.
over_four : (ds xs : List ℕ) → length xs ≤ 4
    → if (eqb (length xs) 0) (λ _. 0) (λ _. suc (max (max (depth_at ds xs 0) (depth_at ds xs 1)) (max (depth_at ds xs 2) (depth_at ds xs 3)))) ≡ depth_over (map (λ e. get_or ds e 0) xs)
unfolding depth_over if
over_four ds [] h = refl
over_four ds (a ∷ []) h = omega arith
over_four ds (a ∷ b ∷ []) h = omega arith
over_four ds (a ∷ b ∷ c ∷ []) h = omega arith
over_four ds (a ∷ b ∷ c ∷ d ∷ []) h = all_four _ _ _ _
over_four ds (a ∷ b ∷ c ∷ d ∷ e ∷ xs) h = absurd (omega arith)

module _ (x : Entry) (p : Eight x) (ds : List ℕ) where
  arg_depth_is : (i : ℕ) → i < 4 → arg_depth ds (pack_entry x) i ≡ depth_at ds x.0.args i
  unfolding arg_depth
  arg_depth_is i h = ap₂ (λ (n e : ℕ). if (ltb i n) (λ _. get_or ds e 0) (λ _. 0)) (count_of_lem x p) (arg_of_lem x p i h)

  pub over_is : over_in ds (pack_entry x) ≡ depth_over (map (λ e. get_or ds e 0) x.0.args)
  unfolding over_in deepest
  over_is =
      let a0 = arg_depth_is 0 (omega arith) in
      let a1 = arg_depth_is 1 (omega arith) in
      let a2 = arg_depth_is 2 (omega arith) in
      let a3 = arg_depth_is 3 (omega arith) in
      let n = count_of_lem x p in
      rw (n, a0, a1, a2, a3) (over_four ds x.0.args p.few)

pub lower_by_is : (ks : List Entry) → All Eight ks → (ds : List ℕ) → lower_by_in (map pack_entry ks) ds ≡ lower_by ks ds
unfolding lower_by_in lower_by lower_at lowest
lower_by_is [] a ds = refl
lower_by_is (x ∷ xs) a ds =
    let v = value_of_lem x a.0.bytes.value in
    let o = over_is x a.0 ds in
    let e : set ds (value_of (pack_entry x)) (min (get_or ds (value_of (pack_entry x)) 0) (over_in ds (pack_entry x))) ≡ set ds x.1 (min (get_or ds x.1 0) (depth_over (map (λ e. get_or ds e 0) x.0.args))) =
    ap₂ (λ (i n : ℕ). set ds i (min (get_or ds i 0) n)) v o in
    ap (lower_by_in (map pack_entry xs)) e ∙ lower_by_is xs a.1 _

pub lower_is : (n : ℕ) (ks : List Entry) → All Eight ks → (ds : List ℕ) → lower_in n (map pack_entry ks) ds ≡ lower n ks ds
unfolding lower_in lower
lower_is zero ks a ds = refl
lower_is (suc n) ks a ds =
    ap₂ (λ (r q : List ℕ). if (eqb (sum r) (sum ds)) (λ _. ds) (λ _. q)) (lower_by_is ks a ds)
    (ap (lower_in n (map pack_entry ks)) (lower_by_is ks a ds) ∙ lower_is n ks a (lower_by ks ds))
