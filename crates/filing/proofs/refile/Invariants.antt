use Rattle.filing.specs.File.{Refiling}
use Rattle.filing.proofs.refile.Given as goal

abbrev pub invariant-loop-i : goal.invariant-loop-i
invariant-loop-i l = Refiling l.initial.t l.fn.ends.count l.fn.ends.top l.t l.filed.count l.filed.top l.i
