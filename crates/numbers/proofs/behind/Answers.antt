use Rattle.rules.specs.Reading.{giving}
use Rattle.refusals.specs.Numbers.{passed_on}
use Rattle.numbers.specs.Answers.{checked}
use Rattle.numbers.proofs.behind.Goals as goal

pub returns-in_err-read : goal.returns-in_err-read
unfolding checked giving
returns-in_err-read c = rw (passed_on _ _ c.from_residual.ensures.1, c.in_err-read.was)

pub returns : goal.returns
unfolding checked giving
returns c = rw c.in_ok-read.was
