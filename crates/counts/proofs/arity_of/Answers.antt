-- A constant witness has no arguments.
use Rattle.std.proofs.Common.{refl, arith}
use Rattle.rules.specs.Reading.{witness_arity}
use Rattle.base.specs.Branch.{if}
use Rattle.counts.proofs.arity_of.Goals as goal

pub returns-in-Constant : goal.returns-in-Constant
unfolding witness_arity if
returns-in-Constant c = rw c.in-Constant.is (refl, omega arith)

pub returns-in-Function : goal.returns-in-Function
unfolding witness_arity if
returns-in-Function c = rw c.in-Function.is c.witness_arity.ensures
