-- One kind or the other.
use Rattle.rules.specs.Reading.{witnesses}
use Rattle.base.specs.Branch.{if}
use Rattle.counts.proofs.witnesses_of.Goals as goal

pub returns-in-Constant : goal.returns-in-Constant
unfolding witnesses if
returns-in-Constant c = rw c.in-Constant.is c.constant_witnesses.ensures

pub returns-in-Function : goal.returns-in-Function
unfolding witnesses if
returns-in-Function c = rw c.in-Function.is c.function_witnesses.ensures
