-- The sheets of the slots passed are written.
use Rattle.std.proofs.Common.{◌+◌, ◌*◌, ◌≤◌, take}
use Rattle.lines.specs.Writes.{Writes}
use Rattle.pages.specs.Tables.{slots_text}
use Rattle.pages.proofs.list_lines.Given as goal

abbrev pub invariant-loop-i : goal.invariant-loop-i
invariant-loop-i l =
    Writes l.initial.page (slots_text l.standing l.pool (take l.i-index l.list)) l.page × (l.page.end ≤ l.initial.page.end + 8468 * l.i-index)
