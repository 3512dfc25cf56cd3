-- The parts of the line, one behind the other.
use Rattle.std.proofs.Common.{[]}
use Rattle.lines.specs.Text.{waiting_word, newline}
use Rattle.lines.specs.Writes.{writes_next, writes_as}
use Rattle.pages.specs.Tables.{waiting_parts}
use Rattle.pages.proofs.waiting_line.Goals as goal

pub returns-clause-text : goal.returns-clause-text
unfolding waiting_word newline
returns-clause-text c =
    writes_as _ (waiting_parts [] c.args.waiting) (writes_next (writes_next c.word.ensures c.field.ensures.text) c.word-2.ensures)
