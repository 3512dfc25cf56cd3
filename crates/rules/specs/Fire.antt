-- Which sequent fires, at which choice (01, "How a step goes"; `strategy.rs` and `evaluate` in the Rust).
use Rattle.std.specs.Prelude.{ℕ, zero, suc, ◌%◌, max, Bool, not, ◌&&◌, List, [], ◌∷◌, ◌++◌, map, take, drop}
use Rattle.std.proofs.Math.Option.{Option, none, some}
use Rattle.base.specs.Branch.{case_o}
use Rattle.base.specs.Lists.{all, any, flat, first_of}
use Rattle.rules.specs.Book.{Disjunct, Sequent}
use Rattle.rules.specs.Sheet.{Model, domain}
use Rattle.rules.specs.Look.{body_meanings, head_meanings, observed}

-- "Choices over the domain, first variable fastest." Over an empty domain a sequent with free variables has none, and one
-- without has one.
unfoldable pub choices : ℕ → List ℕ → List (List ℕ)
choices zero d = [] ∷ []
choices (suc v) d = flat (map (λ (c : List ℕ). map (λ (e : ℕ). e ∷ c) d) (choices v d))

unfoldable pub body_observed : Model → Sequent → List ℕ → Bool
body_observed m s c = all (observed m (body_meanings c)) s.body

unfoldable pub disjunct_observed : Model → List ℕ → Disjunct → Bool
disjunct_observed m c d = all (observed m (head_meanings c d)) d.literals

unfoldable pub head_observed : Model → Sequent → List ℕ → Bool
head_observed m s c = any (disjunct_observed m c) s.head

-- "Body observed and no disjunct fully observed."
unfoldable pub fires : Model → Sequent → List ℕ → Bool
fires m s c = body_observed m s c && not (head_observed m s c)

-- The sequents of a book with their numbers.
unfoldable pub numbered : ℕ → List Sequent → List (ℕ × Sequent)
numbered i [] = []
numbered i (s ∷ ss) = (i, s) ∷ numbered (suc i) ss

-- What fires: a sequent with its number, and the choice.
pub record Firing : Type 0 where
  pub index : ℕ
  pub sequent : Sequent
  pub choice : List ℕ

-- The first sequent of those visited, and the first choice, that fires.
unfoldable pub firing : Model → List (ℕ × Sequent) → Option Firing
firing m [] = none
firing m (s ∷ ss) = case_o (first_of (fires m s.1) (choices s.1.free (domain m)))
    (λ _. firing m ss) (λ c. some (record { index = s.0; sequent = s.1; choice = c }))

pub data Strategy : Type 0 where
  linear fair : Strategy

-- The sequents in the order in which a sheet at a place visits them.
unfoldable pub visits : Strategy → ℕ → List Sequent → List (ℕ × Sequent)
visits linear p ss = numbered 0 ss
visits fair p ss = drop p (numbered 0 ss) ++ take p (numbered 0 ss)

-- How many places there are over n sequents: "0 under Linear or without sequents".
unfoldable pub places : Strategy → ℕ → ℕ
places linear n = 1
places fair n = max 1 n

-- "Linear children start at sequent 0, Fair ones after the one fired, wrapping": the place after the i-th of n sequents fired.
unfoldable pub place_after : Strategy → ℕ → ℕ → ℕ
place_after linear i n = 0
place_after fair i n = suc i % n
