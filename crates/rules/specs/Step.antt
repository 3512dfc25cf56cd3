-- A step, a run and a take on the pool's state (01, "How a step goes" and "Refusal numbers" 14 to 17; `chase_step` and
-- `chase_all` in the Rust).
use Rattle.std.specs.Prelude.{ℕ, zero, suc, ◌+◌, Bool, List, [], ◌∷◌, ◌++◌, map, length, set, ltb, eqb}
use Rattle.base.specs.Branch.{if, case_o, case_l}
use Rattle.base.specs.Lists.{any, is_nil}
use Rattle.rules.specs.Book.{Sequent}
use Rattle.rules.specs.Sheet.{Sheet, Limits}
use Rattle.rules.specs.Fire.{visits, place_after, firing}
use Rattle.rules.specs.Bound.{Bound}
use Rattle.rules.specs.Child.{Child, child}
use Rattle.rules.specs.Pool.{State, Scheduler, fifo, lifo, scheduler_of, strategy_of, numbers, sheet_at, free, changed, freed}

-- A child's sheet with the slot that it goes into, and whether it is bounded.
pub record Placed : Type 0 where
  pub slot : ℕ
  pub cut : Bool
  pub sheet : Sheet

-- "Lowest free slot first, in disjunct order. Model numbers follow disjunct order, open and bounded alike": from free slots, the
-- place that all get, and the next number.
unfoldable pub placed : List ℕ → ℕ → ℕ → List Child → List Placed
placed [] p n ks = []
placed (i ∷ is) p n [] = []
placed (i ∷ is) p n (k ∷ ks) =
    record { slot = i; cut = k.cut; sheet = record { number = n; place = p; model = k.model } } ∷ placed is p (suc n) ks

-- Each into its own slot.
unfoldable pub stored : List Placed → List Sheet → List Sheet
stored [] xs = xs
stored (x ∷ rest) xs = stored rest (set xs x.slot x.sheet)

unfoldable pub open_slots : List Placed → List ℕ
open_slots [] = []
open_slots (x ∷ xs) = if x.cut (λ _. open_slots xs) (λ _. x.slot ∷ open_slots xs)

unfoldable pub cut_slots : List Placed → List ℕ
cut_slots [] = []
cut_slots (x ∷ xs) = if x.cut (λ _. x.slot ∷ cut_slots xs) (λ _. cut_slots xs)

-- LIFO: "each at the front".
unfoldable pub pushed : List ℕ → List ℕ → List ℕ
pushed [] ws = ws
pushed (x ∷ xs) ws = pushed xs (x ∷ ws)

-- "FIFO at the back, LIFO each at the front."
unfoldable pub schedule : Scheduler → List ℕ → List ℕ → List ℕ
schedule fifo xs ws = ws ++ xs
schedule lifo xs ws = pushed xs ws

-- A refusal's number or 0, and the state afterwards.
pub record Answer : Type 0 where
  pub refusal : ℕ
  pub state : State

unfoldable pub refuse : ℕ → State → Answer
refuse n s = record { refusal = n; state = s }

unfoldable pub done : State → Answer
done s = record { refusal = 0; state = s }

-- The children stored, from the state in which the base is gone.
unfoldable pub with_placed : State → List Placed → Answer
with_placed s new = done (changed s (s.next + length new) (schedule (scheduler_of s.scheduler) (open_slots new) s.waiting)
    s.complete (s.bounded ++ cut_slots new) (stored new s.slots))

-- The state without the base: its slot freed, the others waiting.
unfoldable pub without_base : State → ℕ → List ℕ → State
without_base s i ws = changed s s.next ws s.complete s.bounded (freed i s.slots)

-- 15, 16 and 17 in this order; then the base's slot is freed, and the children are stored. The place is the one that all get.
unfoldable pub with_children : State → ℕ → List ℕ → ℕ → List Child → Answer
with_children s i ws place ks =
    if (any (λ (k : Child). k.over) ks) (λ _. refuse 15 s) (λ _.
    if (ltb (suc (length (free s))) (length ks)) (λ _. refuse 16 s) (λ _.
    if (ltb numbers (s.next + length ks)) (λ _. refuse 17 s) (λ _.
    with_placed (without_base s i ws) (placed (free (without_base s i ws)) place s.next ks))))

-- "Empty head: failed, dropped. Otherwise one child per disjunct. None fires: complete."
unfoldable pub step_on : Limits → Bound → List Sequent → State → ℕ → List ℕ → Answer
step_on lim b rs s i ws =
    let x = sheet_at s i in
    let st = strategy_of s.strategy in
    case_o (firing x.model (visits st x.place rs))
    (λ _. done (changed s s.next ws (s.complete ++ (i ∷ [])) s.bounded s.slots))
    (λ f. if (is_nil f.sequent.head)
    (λ _. done (without_base s i ws))
    (λ _. with_children s i ws (place_after st f.index (length rs)) (map (child lim b x.model f.choice) f.sequent.head)))

-- 14: nothing waiting.
unfoldable pub step : Limits → Bound → List Sequent → State → Answer
step lim b rs s = case_l s.waiting (λ _. refuse 14 s) (λ i ws. step_on lim b rs s i ws)

-- The stop, the number of steps made, and the state.
pub record Ran : Type 0 where
  pub stop : ℕ
  pub steps : ℕ
  pub state : State

-- "A spent budget stops before 14 to 17."
unfoldable pub run : Limits → ℕ → Bound → List Sequent → State → Ran
run lim zero b rs s = record { stop = 0; steps = 0; state = s }
run lim (suc n) b rs s =
    let r = step lim b rs s in
    if (eqb r.refusal 0)
    (λ _. let q = run lim n b rs r.state in record { stop = q.stop; steps = suc q.steps; state = q.state })
    (λ _. record { stop = r.refusal; steps = 0; state = s })

-- "List 0 complete, 1 bounded": how many are known.
unfoldable pub lists : ℕ
lists = 2

-- The list to take from.
unfoldable pub list_of : ℕ → State → List ℕ
list_of zero s = s.complete
list_of (suc n) s = s.bounded

-- The state without the first sheet of a list: its slot is freed.
unfoldable pub taken : ℕ → State → ℕ → List ℕ → State
taken zero s i is = changed s s.next s.waiting is s.bounded (freed i s.slots)
taken (suc n) s i is = changed s s.next s.waiting s.complete is (freed i s.slots)
