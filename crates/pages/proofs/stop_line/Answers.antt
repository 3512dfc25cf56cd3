-- The parts of the line, one behind the other.
use Rattle.std.proofs.Common.{[]}
use Rattle.lines.specs.Text.{stop_word, steps_word, newline}
use Rattle.lines.specs.Writes.{writes_next, writes_as}
use Rattle.pages.specs.Tables.{stop_parts}
use Rattle.pages.proofs.stop_line.Goals as goal

pub returns-clause-text : goal.returns-clause-text
unfolding stop_word steps_word newline
returns-clause-text c =
    let w = writes_next (writes_next (writes_next (writes_next c.word.ensures c.field.ensures.text) c.word-2.ensures) c.field-2.ensures.text) c.word-3.ensures in
    writes_as _ (stop_parts [] c.args.stop c.args.steps) w
