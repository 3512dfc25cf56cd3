-- The pool's state (01, "The pool"): settings, the next model number, three lists of slots, and the slots.
-- A slot that no list names is free and holds the blank sheet.
use Rattle.std.specs.Prelude.{ℕ, zero, suc, not, List, [], ◌∷◌, ◌++◌, map, length, get_or, set, replicate}
use Rattle.base.specs.Lists.{mem, keep, from}
use Rattle.rules.specs.Sheet.{Sheet, blank}
use Rattle.rules.specs.Fire.{Strategy, linear, fair}

-- The settings are kept as numbers, so that a pool with unknown ones can be read and refused.
pub record State : Type 0 where
  pub scheduler : ℕ
  pub strategy : ℕ
  pub next : ℕ
  pub waiting : List ℕ
  pub complete : List ℕ
  pub bounded : List ℕ
  pub slots : List Sheet

pub data Scheduler : Type 0 where
  fifo lifo : Scheduler

-- "Scheduler 0 FIFO, 1 LIFO; strategy 0 Linear, 1 Fair": how many are known, and which is meant.
unfoldable pub schedulers : ℕ
schedulers = 2

unfoldable pub scheduler_of : ℕ → Scheduler
scheduler_of zero = fifo
scheduler_of (suc n) = lifo

unfoldable pub strategies : ℕ
strategies = 2

unfoldable pub strategy_of : ℕ → Strategy
strategy_of zero = linear
strategy_of (suc n) = fair

-- Model numbers are 0 to 65,535; from here on they are used up.
unfoldable pub numbers : ℕ
numbers = 65536

unfoldable pub sheet_at : State → ℕ → Sheet
sheet_at s i = get_or s.slots i blank

unfoldable pub sheets_at : State → List ℕ → List Sheet
sheets_at s is = map (sheet_at s) is

-- The slots in use.
unfoldable pub used : State → List ℕ
used s = s.waiting ++ (s.complete ++ s.bounded)

-- The slots that are not in use, lowest first.
unfoldable pub free : State → List ℕ
free s = keep (λ i. not (mem i (used s))) (from 0 (length s.slots))

-- "Open replaces the whole pool with one waiting, empty model 0": in slot 0.
unfoldable pub opened : ℕ → ℕ → ℕ → State
opened scheduler strategy n = record
    { scheduler = scheduler; strategy = strategy; next = 1; waiting = 0 ∷ []; complete = []; bounded = []; slots = replicate n blank }

-- The lists changed, and with them the next number and the slots; the settings stay.
unfoldable pub changed : State → ℕ → List ℕ → List ℕ → List ℕ → List Sheet → State
changed s n w c b xs = record
    { scheduler = s.scheduler; strategy = s.strategy; next = n; waiting = w; complete = c; bounded = b; slots = xs }

-- A slot given back: all zero.
unfoldable pub freed : ℕ → List Sheet → List Sheet
freed i xs = set xs i blank
