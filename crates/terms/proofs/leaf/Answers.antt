use Rattle.rules.specs.Reading.{giving}
use Rattle.refusals.specs.Numbers.{passed_on}
use Rattle.terms.proofs.leaf.Goals as goal

pub returns-in_err-e : goal.returns-in_err-e
unfolding giving
returns-in_err-e c = rw (passed_on _ _ c.from_residual.ensures.1, ← c.in_err-e.ensures)

pub returns : goal.returns
unfolding giving
returns c = rw (← c.in_ok-e.ensures)
