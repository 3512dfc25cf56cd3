use Rattle.choosing.specs.Steps.{Chooses}
use Rattle.choosing.proofs.choose.Given as goal

abbrev pub invariant-loop-i : goal.invariant-loop-i
invariant-loop-i l = Chooses l.dom l.idx l.i l.env
