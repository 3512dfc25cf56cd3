-- One exit for each test, in the order of the definition.
use Rattle.std.proofs.Common.{lt-ltb, le-ltb}
use Rattle.base.specs.Branch.{if}
use Rattle.rules.specs.Reading.{declared, and_then}
use Rattle.refusals.specs.Numbers.{passed_on}
use Rattle.numbers.proofs.read_declared.Goals as goal

pub returns-in_err-x : goal.returns-in_err-x
unfolding declared and_then
returns-in_err-x c = rw (passed_on _ _ c.from_residual.ensures.1, ← c.in_err-x.ensures)

pub returns-then-x-count : goal.returns-then-x-count
unfolding declared and_then if
returns-then-x-count c = rw (c.refuse.ensures, ← c.in_ok-x.ensures, le-ltb _ _ c.if-x-count.true)

pub returns : goal.returns
unfolding declared and_then if
returns c = rw (← c.in_ok-x.ensures, lt-ltb _ _ c.if-x-count.false)
