-- One exit for each test, in the order of the definition.
use Rattle.std.proofs.Common.{eq-eqb, ne_eqb}
use Rattle.base.specs.Branch.{if}
use Rattle.rules.specs.Reading.{version, and_then}
use Rattle.refusals.specs.Numbers.{passed_on}
use Rattle.numbers.proofs.read_version.Goals as goal

pub returns-in_err-x : goal.returns-in_err-x
unfolding version and_then
returns-in_err-x c = rw (passed_on _ _ c.from_residual.ensures.1, ← c.in_err-x.ensures)

pub returns-then-x-ne1 : goal.returns-then-x-ne1
unfolding version and_then if
returns-then-x-ne1 c = rw (c.refuse.ensures, ← c.in_ok-x.ensures, ne_eqb _ _ c.if-x-ne1.true)

pub returns : goal.returns
unfolding version and_then if
returns c = rw (← c.in_ok-x.ensures, eq-eqb _ _ c.if-x-ne1.false)
