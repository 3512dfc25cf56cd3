use Rattle.lowering.specs.Rest.{Passing, left}
use Rattle.lowering.proofs.lower.Given as goal

abbrev pub invariant-loop-fell : goal.invariant-loop-fell
invariant-loop-fell l = Passing l.keys l.initial.depths l.depths l.fell

abbrev pub decreases-loop-fell : goal.decreases-loop-fell
decreases-loop-fell l = left l.fell l.depths
