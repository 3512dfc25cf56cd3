-- The parts of the page, one behind the other.
use Rattle.std.proofs.Common.{[]}
use Rattle.lines.specs.Text.{newline}
use Rattle.lines.specs.Writes.{writes_next, writes_as}
use Rattle.pages.specs.Sheets.{sheet_parts}
use Rattle.pages.proofs.sheet_lines.Goals as goal

pub returns-clause-text : goal.returns-clause-text
unfolding newline
returns-clause-text c =
    let number = rw c.num16.ensures.0 at c.field.ensures.text in
    let w = writes_next (writes_next (writes_next c.word.ensures number) c.word-2.ensures) c.model_lines.ensures.text in
    writes_as _ (sheet_parts [] c.args.standing.now c.args.s.now) w
