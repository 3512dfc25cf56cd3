use Rattle.std.proofs.Common.{◌+◌}
use Rattle.renaming.specs.Bringing.{Bringing}
use Rattle.renaming.proofs.bring_back.Given as goal

abbrev pub invariant-loop-j : goal.invariant-loop-j
invariant-loop-j l = Bringing l.initial.table l.went l.i l.j l.table

abbrev pub decreases-loop-j : goal.decreases-loop-j
decreases-loop-j l = l.i + l.j
