-- By which numbers a step is refused and a run stops: 0, or 14 to 17.
use Rattle.std.specs.Prelude.{◌≡◌, refl, ℕ, zero, suc, ◌≤◌, ◌⊎◌, List}
use Rattle.std.proofs.Common.{arith, inl, inr}
use Rattle.base.specs.BranchLaws.{if_elim, case_l_elim, case_o_elim}
use Rattle.rules.specs.Book.{Sequent}
use Rattle.rules.specs.Sheet.{Limits}
use Rattle.rules.specs.Bound.{Bound}
use Rattle.rules.specs.Pool.{State}
use Rattle.rules.specs.Step.{Answer, refuse, done, with_placed, with_children, step_on, step, Ran, run}

abbrev pub Stops : ℕ → Type 0
Stops n = (n ≡ 0) ⊎ ((14 ≤ n) × (n ≤ 17))

abbrev P : Answer → Type 0
P a = Stops a.refusal

pub step_stops : (lim : Limits) (bd : Bound) (rs : List Sequent) (s : State) → Stops (step lim bd rs s).refusal
unfolding step step_on with_children with_placed refuse done
step_stops lim bd rs s =
    case_l_elim P _ _ _ (λ _. inr (omega arith, omega arith)) (λ i ws e. case_o_elim P _ _ _ (λ q. inl refl) (λ f q. if_elim P _ _ _ (λ t. inl refl) (λ _.
    if_elim P _ _ _ (λ _. inr (omega arith, omega arith)) (λ _. if_elim P _ _ _ (λ _. inr (omega arith, omega arith)) (λ _. if_elim P _ _ _ (λ _. inr (omega arith, omega arith)) (λ _. inl refl))))))

pub run_stops : (lim : Limits) (n : ℕ) (bd : Bound) (rs : List Sequent) (s : State) → Stops (run lim n bd rs s).stop
unfolding run
run_stops lim zero bd rs s = inl refl
run_stops lim (suc n) bd rs s =
    if_elim (λ (y : Ran). Stops y.stop) _ _ _ (λ _. run_stops lim n bd rs (step lim bd rs s).state) (λ _. step_stops lim bd rs s)
