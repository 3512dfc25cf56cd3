use Rattle.std.proofs.Common.{◌≡◌}
use Rattle.takings.specs.Moves.{copied}
use Rattle.takings.proofs.copy_slot.Given as goal

abbrev pub invariant-loop-j : goal.invariant-loop-j
invariant-loop-j l = l.to-items ≡ copied l.pool l.a l.j l.initial.to-items
