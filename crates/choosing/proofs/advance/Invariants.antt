use Rattle.choosing.specs.Choosing.{Below}
use Rattle.choosing.specs.Steps.{Carries}
use Rattle.choosing.proofs.advance.Given as goal

abbrev pub invariant-loop-i : goal.invariant-loop-i
invariant-loop-i l = Carries l.nd l.initial.idx l.i l.idx × Below l.nd l.idx
