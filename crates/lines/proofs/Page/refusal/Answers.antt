-- The parts of the line, one behind the other.
use Rattle.std.proofs.Common.{[]}
use Rattle.lines.specs.Text.{refused_word, newline}
use Rattle.lines.specs.Writes.{writes_next, writes_as}
use Rattle.lines.specs.Lines.{refusal_parts}
use Rattle.lines.proofs.Page.refusal.Goals as goal

pub returns-clause-text : goal.returns-clause-text
unfolding refused_word newline
returns-clause-text c =
    writes_as _ (refusal_parts [] c.args.x) (writes_next (writes_next c.word.ensures c.field.ensures.text) c.word-2.ensures)
