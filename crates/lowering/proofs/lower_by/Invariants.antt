use Rattle.lowering.specs.Rest.{Lowering}
use Rattle.lowering.proofs.lower_by.Given as goal

abbrev pub invariant-loop-x : goal.invariant-loop-x
invariant-loop-x l = Lowering l.keys l.initial.depths l.depths l.x-index l.fell
