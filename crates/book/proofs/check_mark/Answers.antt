-- One byte after another.
use Rattle.rules.specs.Reading.{mark, and_then}
use Rattle.refusals.specs.Numbers.{passed_on}
use Rattle.book.proofs.check_mark.Goals as goal

pub returns-in_err-a : goal.returns-in_err-a
unfolding mark and_then
returns-in_err-a c = rw (passed_on _ _ c.from_residual.ensures.1, ← c.in_err-a.ensures)

pub returns-in_err-b : goal.returns-in_err-b
unfolding mark and_then
returns-in_err-b c = rw (passed_on _ _ c.from_residual-in_err-b.ensures.1, ← c.in_ok-a.ensures, ← c.in_err-b.ensures)

pub returns : goal.returns
unfolding mark and_then
returns c = rw (c.read_mark-3.ensures, ← c.in_ok-a.ensures, ← c.in_ok-b.ensures)
