-- The parts of the line, one behind the other.
use Rattle.std.proofs.Common.{[]}
use Rattle.lines.specs.Text.{depth_word, newline}
use Rattle.lines.specs.Writes.{writes_next, writes_as}
use Rattle.lines.specs.Lines.{depth_parts}
use Rattle.lines.proofs.Page.depth_line.Goals as goal

pub returns-clause-text : goal.returns-clause-text
unfolding depth_word newline
returns-clause-text c =
    let w = writes_next (writes_next (writes_next c.word.ensures c.field.ensures.text) c.field-2.ensures.text) c.word-2.ensures in
    writes_as _ (depth_parts [] c.args.element c.args.depth) w
