use Rattle.filing.specs.File.{Refacting}
use Rattle.filing.proofs.refact.Given as goal

abbrev pub invariant-loop-i : goal.invariant-loop-i
invariant-loop-i l = Refacting l.initial.t l.t l.count l.i
