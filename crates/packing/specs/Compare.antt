-- What comparing two numbers gives, and branching on it: each of the three cases comes with its fact.
use Rattle.std.specs.Prelude.{◌≡◌, refl, not, T, leb, eqb}
use Rattle.std.proofs.Common.{sym, ap, subst, arith, leb→le, le→leb, eqb→eq}
use Prim.Native.Nat.{ℕ, ◌≤◌, ◌<◌, compare, Ordering}
use Rattle.std.proofs.Math.Dec.{is_le, compare_is_eq, nleb→lt, eqb_refl, not_T}
use Rattle.base.specs.Branch.{three}

-- ---- the facts behind the three answers

below : (o : Ordering) → T (is_le o) → T (not (compare_is_eq o)) → o ≡ Ordering.lt
below Ordering.lt p q = refl
below Ordering.eq p q = absurd q
below Ordering.gt p q = absurd p

level : (o : Ordering) → T (compare_is_eq o) → o ≡ Ordering.eq
level Ordering.lt p = absurd p
level Ordering.eq p = refl
level Ordering.gt p = absurd p

above : (o : Ordering) → T (not (is_le o)) → o ≡ Ordering.gt
above Ordering.lt p = absurd p
above Ordering.eq p = absurd p
above Ordering.gt p = refl

pub compare_lt : (x y : ℕ) → x < y → compare x y ≡ Ordering.lt
compare_lt x y h = below (compare x y) (le→leb x y (omega arith)) (not_T (eqb x y) (λ t. let e = eqb→eq x y t in omega arith))

pub compare_eq : (x y : ℕ) → x ≡ y → compare x y ≡ Ordering.eq
compare_eq x y e = level (compare x y) (subst (λ z. T (eqb x z)) e (eqb_refl x))

pub compare_gt : (x y : ℕ) → y < x → compare x y ≡ Ordering.gt
compare_gt x y h = above (compare x y) (not_T (leb x y) (λ t. let e = leb→le x y t in omega arith))

-- What holds in each case, given its fact, holds of the comparison.
pub ways {κ} : (P : Ordering → Type κ) (x y : ℕ) → (x < y → P Ordering.lt) → (x ≡ y → P Ordering.eq) → (y < x → P Ordering.gt) → P (compare x y)
ways P x y f g h = go (compare x y) refl
  where
    go : (o : Ordering) → compare x y ≡ o → P o
    go Ordering.lt e =
        let q : x ≤ y = leb→le x y (subst (λ o. T (is_le o)) (sym e) tt) in
        let n : x ≡ y → ⊥ = λ i. subst (λ o. T (compare_is_eq o)) e (subst (λ z. T (eqb x z)) i (eqb_refl x)) in
        f (strict q n)
      where
        strict : x ≤ y → (x ≡ y → ⊥) → x < y
        strict q n = omega arith
    go Ordering.eq e = g (eqb→eq x y (subst (λ o. T (compare_is_eq o)) (sym e) tt))
    go Ordering.gt e = h (nleb→lt x y (subst (λ o. T (not (is_le o))) (sym e) tt))

pub compare_is_lt : (x y : ℕ) → compare x y ≡ Ordering.lt → x < y
compare_is_lt x y = ways (λ o. o ≡ Ordering.lt → x < y) x y (λ h _. h) (λ h e. absurd (never (sym e))) (λ h e. absurd (never' (sym e)))
  where
    never : Ordering.lt ≡ Ordering.eq → ⊥
    never e = subst (λ o. T (not (compare_is_eq o))) e tt

    never' : Ordering.lt ≡ Ordering.gt → ⊥
    never' e = subst (λ o. T (is_le o)) e tt

-- ---- branching

pub three_ways {ℓ κ} : {A : Type ℓ} (P : A → Type κ) (x y : ℕ) (f g h : Unit {0} → A)
    → (x < y → P (f tt)) → (x ≡ y → P (g tt)) → (y < x → P (h tt)) → P (three (compare x y) f g h)
unfolding three
three_ways P x y f g h p q r = ways (λ o. P (three o f g h)) x y p q r

pub three_gt {ℓ} : {A : Type ℓ} (x y : ℕ) (f g h : Unit {0} → A) → y < x → three (compare x y) f g h ≡ h tt
unfolding three
three_gt x y f g h p = ap (λ o. three o f g h) (compare_gt x y p)
