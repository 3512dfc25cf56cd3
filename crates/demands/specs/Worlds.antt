-- What a caller does after an opening, and what can be seen of it: the pool's bytes, and the sheets that takes wrote, read off the
-- bytes that they wrote. Each call has an outcome that its promise allows; refused ones are included.
use Rattle.std.specs.Prelude.{◌≡◌, ℕ, zero, suc, List, [], ◌∷◌, eqb}
use Rattle.base.specs.Branch.{if}
use Rattle.base.specs.Lists.{Some}
use Rattle.rules.specs.Reading.{Bytes}
use Rattle.rules.specs.Sheet.{Model, Sheet, limits}
use Rattle.rules.specs.Pool.{State, sheet_at}
use Rattle.rules.specs.Image.{sheet_in, pool_in}
use Rattle.rules.specs.Calls.{StepPromise, RunPromise, TakePromise}

-- A call after the opening, with all that the caller chooses: any bound, number, budget, list and output.
pub data Call : Type 0 where
  stepping : (bound number : ℕ) → Call
  running : (bound number budget : ℕ) → Call
  taking : (list : ℕ) (out : Bytes) → Call

pub record World : Type 0 where
  pub pool : Bytes
  pub took_complete : List Sheet
  pub took_bounded : List Sheet

-- The pool as a call left it; nothing was taken.
unfoldable pub left : Bytes → World → World
left p w = record { pool = p; took_complete = w.took_complete; took_bounded = w.took_bounded }

-- A take from list 0, complete, or another: the sheet is what it wrote at the front of the output.
unfoldable pub took_from : ℕ → Bytes → Bytes → World → World
took_from zero p written w = record { pool = p; took_complete = sheet_in limits written ∷ w.took_complete; took_bounded = w.took_bounded }
took_from (suc n) p written w = record { pool = p; took_complete = w.took_complete; took_bounded = sheet_in limits written ∷ w.took_bounded }

-- A take that answered 0 took a sheet; a refused one took none.
unfoldable pub took : ℕ → ℕ → Bytes → Bytes → World → World
took answer list p written w = if (eqb answer 0) (λ _. took_from list p written w) (λ _. left p w)

-- One call with the opening's book, and the pool as the last call left it.
pub data After (book : Bytes) (w : World) : Call → World → Type 0 where
  stepped : (bound number answer : ℕ) (after : Bytes) → StepPromise book w.pool bound number answer after
      → After book w (stepping bound number) (left after w)
  ran : (bound number budget stop steps : ℕ) (after : Bytes) → RunPromise book w.pool bound number budget stop steps after
      → After book w (running bound number budget) (left after w)
  handed : (list : ℕ) (out : Bytes) (answer : ℕ) (after written : Bytes) → TakePromise book w.pool list out answer after written
      → After book w (taking list out) (took answer list after written w)

-- Any list of calls, one after another.
pub data Played (book : Bytes) : World → List Call → World → Type 0 where
  nothing : (w : World) → Played book w [] w
  next : (u v w : World) (c : Call) (cs : List Call) → After book u c v → Played book v cs w → Played book u (c ∷ cs) w

-- Right after an opening.
unfoldable pub begun : Bytes → World
begun p = record { pool = p; took_complete = []; took_bounded = [] }

-- ---- what is said of a world

abbrev pub state_of : World → State
state_of w = pool_in limits w.pool

-- Some sheet that is waiting, complete, bounded or taken has P.
pub data Somewhere {ℓ} (P : Model → Type ℓ) (w : World) : Type ℓ where
  waits : Some (λ j. P (sheet_at (state_of w) j).model) (state_of w).waiting → Somewhere P w
  is_complete : Some (λ j. P (sheet_at (state_of w) j).model) (state_of w).complete → Somewhere P w
  is_bounded : Some (λ j. P (sheet_at (state_of w) j).model) (state_of w).bounded → Somewhere P w
  was_complete : Some (λ (x : Sheet). P x.model) w.took_complete → Somewhere P w
  was_bounded : Some (λ (x : Sheet). P x.model) w.took_bounded → Somewhere P w

-- Nothing waits, and no sheet is complete or bounded, nor was one taken.
pub record Empty (w : World) : Type 0 where
  pub waiting : (state_of w).waiting ≡ []
  pub complete : (state_of w).complete ≡ []
  pub bounded : (state_of w).bounded ≡ []
  pub took_complete : w.took_complete ≡ []
  pub took_bounded : w.took_bounded ≡ []
