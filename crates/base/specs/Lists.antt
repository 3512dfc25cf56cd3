-- Lists: statements and tests about all or some of the entries, membership, first appearances, and small list makers.
use Rattle.std.specs.Prelude.{ℕ, zero, suc, Bool, true, false, ◌&&◌, ◌||◌, not, List, [], ◌∷◌, ◌++◌, ◌⊎◌, take, drop, eqb}
use Rattle.std.proofs.Math.Option.{Option, none, some}
use Rattle.std.proofs.Math.Logic.{Lift}
use Rattle.base.specs.Branch.{if}

-- A statement about every entry, and about some entry.
abbrev pub All {ℓ κ} : {A : Type ℓ} → (A → Type κ) → List A → Type κ
All P [] = Unit
All P (x ∷ xs) = P x × All P xs

abbrev pub Some {ℓ κ} : {A : Type ℓ} → (A → Type κ) → List A → Type κ
Some P [] = Lift ⊥
Some P (x ∷ xs) = P x ⊎ Some P xs

-- The same as tests.
abbrev pub all {ℓ} : {A : Type ℓ} → (A → Bool) → List A → Bool
all p [] = true
all p (x ∷ xs) = p x && all p xs

abbrev pub any {ℓ} : {A : Type ℓ} → (A → Bool) → List A → Bool
any p [] = false
any p (x ∷ xs) = p x || any p xs

-- Is the number in the list?
unfoldable pub mem : ℕ → List ℕ → Bool
mem e xs = any (eqb e) xs

unfoldable pub without : ℕ → List ℕ → List ℕ
without e [] = []
without e (x ∷ xs) = if (eqb e x) (λ _. without e xs) (λ _. x ∷ without e xs)

-- Each number once, in order of first appearance.
unfoldable pub firsts : List ℕ → List ℕ
firsts [] = []
firsts (x ∷ xs) = x ∷ without x (firsts xs)

-- No number twice.
unfoldable pub distinct : List ℕ → Bool
distinct [] = true
distinct (x ∷ xs) = not (mem x xs) && distinct xs

-- The entries that pass a test, in order.
unfoldable pub keep {ℓ} : {A : Type ℓ} → (A → Bool) → List A → List A
keep p [] = []
keep p (x ∷ xs) = if (p x) (λ _. x ∷ keep p xs) (λ _. keep p xs)

-- The first entry that passes a test.
unfoldable pub first_of {ℓ} : {A : Type ℓ} → (A → Bool) → List A → Option A
first_of p [] = none
first_of p (x ∷ xs) = if (p x) (λ _. some x) (λ _. first_of p xs)

-- n numbers from a on.
unfoldable pub from : ℕ → ℕ → List ℕ
from a zero = []
from a (suc n) = a ∷ from (suc a) n

-- The entries at some places; a place out of range has none.
unfoldable pub entries {ℓ} : {A : Type ℓ} → List A → List ℕ → List A
entries c [] = []
entries c (i ∷ is) = take 1 (drop i c) ++ entries c is

unfoldable pub flat {ℓ} : {A : Type ℓ} → List (List A) → List A
flat [] = []
flat (l ∷ ls) = l ++ flat ls

abbrev pub is_nil {ℓ} : {A : Type ℓ} → List A → Bool
is_nil [] = true
is_nil (x ∷ xs) = false

-- Two lists of numbers are equal.
unfoldable pub equal : List ℕ → List ℕ → Bool
equal [] [] = true
equal [] (y ∷ ys) = false
equal (x ∷ xs) [] = false
equal (x ∷ xs) (y ∷ ys) = if (eqb x y) (λ _. equal xs ys) (λ _. false)
