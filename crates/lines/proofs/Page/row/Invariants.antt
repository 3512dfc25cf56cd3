-- The fields of the bytes passed are written.
use Rattle.std.proofs.Common.{◌+◌, ◌*◌, ◌≤◌, take}
use Rattle.lines.specs.Text.{fields}
use Rattle.lines.specs.Writes.{Writes}
use Rattle.lines.proofs.Page.row.Given as goal

abbrev pub invariant-loop-b : goal.invariant-loop-b
invariant-loop-b l = Writes l.initial.self (fields (take l.b-index l.s)) l.self × (l.self.end ≤ l.initial.self.end + 4 * l.b-index)
