-- Branching that computes only the branch that is taken: on a Boolean, an option, a list, an order.
-- Each is shut and has its laws in BranchLaws: a proof goes by those, and only a computed example opens it.
use Prim.Native.Nat.{ℕ, Ordering, compare}
use Rattle.std.specs.Prelude.{Bool, true, false, List, [], ◌∷◌}
use Rattle.std.proofs.Math.Option.{Option, none, some}

unfoldable pub if {ℓ} : {A : Type ℓ} → Bool → (Unit {0} → A) → (Unit {0} → A) → A
if true f g = f tt
if false f g = g tt

unfoldable pub case_o {ℓ κ} : {A : Type ℓ} {B : Type κ} → Option A → (Unit {0} → B) → (A → B) → B
case_o none f g = f tt
case_o (some a) f g = g a

unfoldable pub case_l {ℓ κ} : {A : Type ℓ} {B : Type κ} → List A → (Unit {0} → B) → (A → List A → B) → B
case_l [] f g = f tt
case_l (x ∷ xs) f g = g x xs

unfoldable pub three {ℓ} : {A : Type ℓ} → Ordering → (Unit {0} → A) → (Unit {0} → A) → (Unit {0} → A) → A
three Ordering.lt f g h = f tt
three Ordering.eq f g h = g tt
three Ordering.gt f g h = h tt

-- The first order that is not "equal" decides.
abbrev pub or_then : Ordering → (Unit {0} → Ordering) → Ordering
or_then Ordering.lt f = Ordering.lt
or_then Ordering.eq f = f tt
or_then Ordering.gt f = Ordering.gt

-- Lists of numbers, left to right.
unfoldable pub order : List ℕ → List ℕ → Ordering
order [] [] = Ordering.eq
order [] (y ∷ ys) = Ordering.lt
order (x ∷ xs) [] = Ordering.gt
order (x ∷ xs) (y ∷ ys) = or_then (compare x y) (λ _. order xs ys)

abbrev pub is_lt : Ordering → Bool
is_lt Ordering.lt = true
is_lt Ordering.eq = false
is_lt Ordering.gt = false
