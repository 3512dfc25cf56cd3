-- One law for each way of branching: what holds of every branch, given its test, holds of the whole. And what tests say.
use Rattle.std.specs.Prelude.{◌≡◌, refl, Bool, true, false, not, ◌&&◌, ◌||◌, ◌⊎◌, List, [], ◌∷◌, T, eqb}
use Rattle.std.proofs.Common.{sym, ap, ◌∙◌, subst, le_of_suc-le-suc, arith, inl, inr, T_not, eqb→eq}
use Prim.Native.Nat.compare
use Prim.Native.Nat.{ℕ, zero, suc, ◌<◌, compare, Ordering}
use Rattle.std.proofs.Math.Option.{Option, none, some}
use Rattle.std.proofs.Math.Dec.{eqb_refl, compare_is_eq}
use Rattle.base.specs.Branch.{if, case_o, case_l, three, or_then, order, is_lt}

-- ---- the branches

pub if_elim {ℓ κ} : {A : Type ℓ} (P : A → Type κ) (b : Bool) (f g : Unit {0} → A) → (T b → P (f tt)) → (T (not b) → P (g tt)) → P (if b f g)
unfolding if
if_elim P true f g p q = p tt
if_elim P false f g p q = q tt

pub case_o_elim {ℓ κ ν} : {A : Type ℓ} {B : Type κ} (P : B → Type ν) (o : Option A) (f : Unit {0} → B) (g : A → B)
    → (o ≡ none → P (f tt)) → ((a : A) → o ≡ some a → P (g a)) → P (case_o o f g)
unfolding case_o
case_o_elim P none f g p q = p refl
case_o_elim P (some a) f g p q = q a refl

pub case_l_elim {ℓ κ ν} : {A : Type ℓ} {B : Type κ} (P : B → Type ν) (l : List A) (f : Unit {0} → B) (g : A → List A → B)
    → (l ≡ [] → P (f tt)) → ((x : A) (xs : List A) → l ≡ x ∷ xs → P (g x xs)) → P (case_l l f g)
unfolding case_l
case_l_elim P [] f g p q = p refl
case_l_elim P (x ∷ xs) f g p q = q x xs refl

pub three_elim {ℓ κ} : {A : Type ℓ} (P : A → Type κ) (o : Ordering) (f g h : Unit {0} → A)
    → (o ≡ Ordering.lt → P (f tt)) → (T (compare_is_eq o) → P (g tt)) → (o ≡ Ordering.gt → P (h tt)) → P (three o f g h)
unfolding three
three_elim P Ordering.lt f g h p q r = p refl
three_elim P Ordering.eq f g h p q r = q tt
three_elim P Ordering.gt f g h p q r = r refl

-- The taken branch, where the test is known.
pub if_true {ℓ} : {A : Type ℓ} (b : Bool) (f g : Unit {0} → A) → T b → if b f g ≡ f tt
unfolding if
if_true true f g t = refl
if_true false f g t = absurd t

pub if_false {ℓ} : {A : Type ℓ} (b : Bool) (f g : Unit {0} → A) → T (not b) → if b f g ≡ g tt
unfolding if
if_false true f g t = absurd t
if_false false f g t = refl

-- ---- tests

pub and_l : (a b : Bool) → T (a && b) → T a
and_l true b t = tt
and_l false b t = t

pub and_r : (a b : Bool) → T (a && b) → T b
and_r true b t = t
and_r false b t = absurd t

pub and_i : (a b : Bool) → T a → T b → T (a && b)
and_i true b s t = t
and_i false b s t = s

pub or_is : (a b : Bool) → T (a || b) → T a ⊎ T b
or_is true b t = inl tt
or_is false b t = inr t

pub or_l : (a b : Bool) → T a → T (a || b)
or_l true b t = tt
or_l false b t = absurd t

pub or_r : (a b : Bool) → T b → T (a || b)
or_r true b t = tt
or_r false b t = t

-- Neither of two.
pub or_no : (a b : Bool) → T (not (a || b)) → T (not a) × T (not b)
or_no true b t = absurd t
or_no false b t = (tt, t)

-- A test passes or not.
pub decided : (b : Bool) → T b ⊎ T (not b)
decided true = inl tt
decided false = inr tt

pub neqb→ne : (a b : ℕ) → T (not (eqb a b)) → a ≡ b → ⊥
neqb→ne a b t e = T_not (eqb a b) t (subst (λ z. T (eqb a z)) e (eqb_refl a))

pub eq→eqb : (a b : ℕ) → a ≡ b → T (eqb a b)
eq→eqb a b e = subst (λ z. T (eqb a z)) e (eqb_refl a)

-- ---- orders

pub is_lt_is : (o : Ordering) → T (is_lt o) → o ≡ Ordering.lt
is_lt_is Ordering.lt t = refl
is_lt_is Ordering.eq t = absurd t
is_lt_is Ordering.gt t = absurd t

pub is_is_lt : (o : Ordering) → o ≡ Ordering.lt → T (is_lt o)
is_is_lt o e = subst (λ z. T (is_lt z)) (sym e) tt

both_eq : (o : Ordering) (f : Unit {0} → Ordering) → T (compare_is_eq (or_then o f)) → T (compare_is_eq o) × T (compare_is_eq (f tt))
both_eq Ordering.lt f t = absurd t
both_eq Ordering.eq f t = (tt, t)
both_eq Ordering.gt f t = absurd t

-- Lists that compare as equal are equal.
pub order_eq : (a b : List ℕ) → T (compare_is_eq (order a b)) → a ≡ b
unfolding order
order_eq [] [] t = refl
order_eq [] (y ∷ ys) t = absurd t
order_eq (x ∷ xs) [] t = absurd t
order_eq (x ∷ xs) (y ∷ ys) t =
    let p = both_eq (compare x y) (λ _. order xs ys) t in
    let e : x ≡ y = eqb→eq x y p.0 in
    let es : xs ≡ ys = order_eq xs ys p.1 in
    cc

compare_self : (x : ℕ) → compare x x ≡ Ordering.eq
compare_self zero = compare.zero-zero
compare_self (suc x) = compare.suc-suc x x ∙ compare_self x

pub order_self : (a : List ℕ) → T (compare_is_eq (order a a))
unfolding order
order_self [] = tt
order_self (x ∷ xs) = subst (λ o. T (compare_is_eq (or_then o (λ _. order xs xs)))) (sym (compare_self x)) (order_self xs)

lt_is : (x y : ℕ) → compare x y ≡ Ordering.lt → x < y
lt_is zero zero e = let z : ◌≡◌ {A = ℕ} 0 1 = cc compare.zero-zero in omega arith
lt_is zero (suc y) e = omega arith
lt_is (suc x) zero e = let z : ◌≡◌ {A = ℕ} 0 1 = cc (compare.suc-zero x) in omega arith
lt_is (suc x) (suc y) e = let r = lt_is x y (sym (compare.suc-suc x y) ∙ e) in omega arith

is_lt_lem : (x y : ℕ) → x < y → compare x y ≡ Ordering.lt
is_lt_lem zero zero l = absurd (omega arith)
is_lt_lem zero (suc y) l = compare.zero-suc y
is_lt_lem (suc x) zero l = absurd (omega arith)
is_lt_lem (suc x) (suc y) l = compare.suc-suc x y ∙ is_lt_lem x y (le_of_suc-le-suc l)

gt_is : (x y : ℕ) → compare x y ≡ Ordering.gt → y < x
gt_is zero zero e = let z : ◌≡◌ {A = ℕ} 0 1 = cc compare.zero-zero in omega arith
gt_is zero (suc y) e = let z : ◌≡◌ {A = ℕ} 0 1 = cc (compare.zero-suc y) in omega arith
gt_is (suc x) zero e = omega arith
gt_is (suc x) (suc y) e = let r = gt_is x y (sym (compare.suc-suc x y) ∙ e) in omega arith

-- What a comparison that is lt, or gt, says of its parts.
lt_parts : (o : Ordering) (f : Unit {0} → Ordering) → or_then o f ≡ Ordering.lt → (o ≡ Ordering.lt) ⊎ (T (compare_is_eq o) × (f tt ≡ Ordering.lt))
lt_parts Ordering.lt f e = inl refl
lt_parts Ordering.eq f e = inr (tt, e)
lt_parts Ordering.gt f e = let z : ◌≡◌ {A = ℕ} 0 1 = cc in absurd (omega arith)

gt_parts : (o : Ordering) (f : Unit {0} → Ordering) → or_then o f ≡ Ordering.gt → (o ≡ Ordering.gt) ⊎ (T (compare_is_eq o) × (f tt ≡ Ordering.gt))
gt_parts Ordering.gt f e = inl refl
gt_parts Ordering.eq f e = inr (tt, e)
gt_parts Ordering.lt f e = let z : ◌≡◌ {A = ℕ} 0 1 = cc in absurd (omega arith)

first_lt : (x z : ℕ) (f : Unit {0} → Ordering) → x < z → or_then (compare x z) f ≡ Ordering.lt
first_lt x z f l = ap (λ o. or_then o f) (is_lt_lem x z l)

rest_lt : (x z : ℕ) (f : Unit {0} → Ordering) → x ≡ z → f tt ≡ Ordering.lt → or_then (compare x z) f ≡ Ordering.lt
rest_lt x z f p e = ap (λ o. or_then o f) (subst (λ y. compare x y ≡ Ordering.eq) p (compare_self x)) ∙ e

pub order_trans : (a b c : List ℕ) → order a b ≡ Ordering.lt → order b c ≡ Ordering.lt → order a c ≡ Ordering.lt
unfolding order
order_trans [] [] c p q = q
order_trans [] (y ∷ b) [] p q = let z : ◌≡◌ {A = ℕ} 0 1 = cc in absurd (omega arith)
order_trans [] (y ∷ b) (z ∷ c) p q = refl
order_trans (x ∷ a) [] c p q = let z : ◌≡◌ {A = ℕ} 0 1 = cc in absurd (omega arith)
order_trans (x ∷ a) (y ∷ b) [] p q = q
order_trans (x ∷ a) (y ∷ b) (z ∷ c) p q =
    go (lt_parts (compare x y) (λ _. order a b) p) (lt_parts (compare y z) (λ _. order b c) q) (λ u v. order_trans a b c u v)
  where
    go : (compare x y ≡ Ordering.lt) ⊎ (T (compare_is_eq (compare x y)) × (order a b ≡ Ordering.lt)) → (compare y z ≡ Ordering.lt) ⊎ (T (compare_is_eq (compare y z)) × (order b c ≡ Ordering.lt))
        → (order a b ≡ Ordering.lt → order b c ≡ Ordering.lt → order a c ≡ Ordering.lt) → order (x ∷ a) (z ∷ c) ≡ Ordering.lt
    go (inl u) (inl v) r = let i = lt_is x y u in let j = lt_is y z v in first_lt x z (λ _. order a c) (omega arith)
    go (inl u) (inr v) r = let i = lt_is x y u in let j = eqb→eq y z v.0 in first_lt x z (λ _. order a c) (omega arith)
    go (inr u) (inl v) r = let i = eqb→eq x y u.0 in let j = lt_is y z v in first_lt x z (λ _. order a c) (omega arith)
    go (inr u) (inr v) r = rest_lt x z (λ _. order a c) (eqb→eq x y u.0 ∙ eqb→eq y z v.0) (r u.1 v.1)

pub order_flip : (a b : List ℕ) → order a b ≡ Ordering.gt → order b a ≡ Ordering.lt
unfolding order
order_flip [] [] p = let z : ◌≡◌ {A = ℕ} 0 1 = cc in absurd (omega arith)
order_flip [] (y ∷ b) p = let z : ◌≡◌ {A = ℕ} 0 1 = cc in absurd (omega arith)
order_flip (x ∷ a) [] p = refl
order_flip (x ∷ a) (y ∷ b) p = go (gt_parts (compare x y) (λ _. order a b) p) (λ u. order_flip a b u)
  where
    go : (compare x y ≡ Ordering.gt) ⊎ (T (compare_is_eq (compare x y)) × (order a b ≡ Ordering.gt)) → (order a b ≡ Ordering.gt → order b a ≡ Ordering.lt) → order (y ∷ b) (x ∷ a) ≡ Ordering.lt
    go (inl u) r = first_lt y x (λ _. order b a) (gt_is x y u)
    go (inr u) r = rest_lt y x (λ _. order b a) (sym (eqb→eq x y u.0)) (r u.1)
