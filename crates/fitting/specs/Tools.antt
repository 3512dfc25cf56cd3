-- General laws that base and laws lack: what a lookup that came out says of its parts, all of an image, the entries at some places.
use Rattle.std.specs.Prelude.{◌≡◌, refl, ℕ, zero, suc, Bool, false, List, [], ◌∷◌, ◌++◌, map, take, drop, T}
use Rattle.std.proofs.Common.{ap₂, ◌∙◌}
use Rattle.std.proofs.Math.Option.{Option, none, some, none-ne-some}
use Rattle.base.specs.Branch.{if, case_o}
use Rattle.base.specs.Lists.{All, entries}
use Rattle.base.specs.BranchLaws.{if_elim, case_o_elim}
use Rattle.base.specs.ListLaws.{map_append}

-- ---- a branch that came out

pub if_some {ℓ} : {A : Type ℓ} (b : Bool) (o : Option A) (a : A) → if b (λ _. o) (λ _. none) ≡ some a → o ≡ some a
if_some b o a e = if_elim (λ p. p ≡ some a → o ≡ some a) b _ _ (λ _ q. q) (λ _ q. absurd (none-ne-some a q)) e

pub case_o_some {ℓ κ} : {A : Type ℓ} {B : Type κ} (o : Option A) (f : A → Option B) (b : B)
    → case_o o (λ _. none) f ≡ some b → (a : A) × (o ≡ some a) × (f a ≡ some b)
case_o_some {A} o f b e =
    case_o_elim (λ p. p ≡ some b → (a : A) × (o ≡ some a) × (f a ≡ some b)) o _ _
    (λ _ q. absurd (none-ne-some b q)) (λ a p q. (a, p, q)) e

pub case_o_true {ℓ} : {A : Type ℓ} (o : Option A) (f : A → Bool) → T (case_o o (λ _. false) f) → (a : A) × (o ≡ some a) × T (f a)
case_o_true {A} o f t = case_o_elim (λ b. T b → (a : A) × (o ≡ some a) × T (f a)) o _ _ (λ _ u. absurd u) (λ a p u. (a, p, u)) t

-- ---- lists

pub all_image {ℓ κ ν} : {A : Type ℓ} {B : Type κ} (P : B → Type ν) (f : A → B) → ((x : A) → P (f x)) → (xs : List A) → All P (map f xs)
all_image P f p [] = tt
all_image P f p (x ∷ xs) = (p x, all_image P f p xs)

entry_map : (h : ℕ → ℕ) (i : ℕ) (c : List ℕ) → map h (take 1 (drop i c)) ≡ take 1 (drop i (map h c))
entry_map h zero [] = refl
entry_map h zero (x ∷ c) = refl
entry_map h (suc i) [] = refl
entry_map h (suc i) (x ∷ c) = entry_map h i c

pub entries_map : (h : ℕ → ℕ) (c is : List ℕ) → map h (entries c is) ≡ entries (map h c) is
unfolding entries
entries_map h c [] = refl
entries_map h c (i ∷ is) = map_append h (take 1 (drop i c)) (entries c is) ∙ ap₂ (λ (a b : List ℕ). a ++ b) (entry_map h i c) (entries_map h c is)
