-- The parts of the line, one behind the other.
use Rattle.std.proofs.Common.{[]}
use Rattle.lines.specs.Text.{key_word, equals_word, newline}
use Rattle.lines.specs.Writes.{writes_next, writes_as}
use Rattle.lines.specs.Lines.{key_parts}
use Rattle.lines.proofs.Page.key_line.Goals as goal

pub returns-clause-text : goal.returns-clause-text
unfolding key_word equals_word newline
returns-clause-text c =
    let arguments = rw c.arguments.ensures.value at c.row-2.ensures.text in
    let w = writes_next (writes_next (writes_next (writes_next (writes_next c.word.ensures c.row.ensures.text) arguments) c.word-2.ensures) c.row-3.ensures.text) c.word-3.ensures in
    writes_as _ (key_parts c.args.entry.now c.requires.0 []) w
