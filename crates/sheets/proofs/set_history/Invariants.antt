use Rattle.std.proofs.Common.{◌≡◌, ◌++◌, drop}
use Rattle.base.specs.Lists.{from}
use Rattle.sheets.proofs.set_history.Given as goal

abbrev pub invariant-loop-i : goal.invariant-loop-i
invariant-loop-i l = l.t ≡ from 0 l.i ++ drop l.i l.initial.t
