-- A space, then the number, whose digits are few.
use Rattle.std.proofs.Common.{[], arith}
use Rattle.std.proofs.lemmas.Fmt.{length-decimal-le}
use Rattle.lines.specs.Writes.{writes_next, writes_as}
use Rattle.lines.specs.Writing.{field_parts}
use Rattle.lines.proofs.Page.field.Goals as goal

pub word-requires-2 : goal.word-requires-2
word-requires-2 g c =
    let few = length-decimal-le g.row.DIGITS c.args.x c.requires.0 c.requires.1 (omega arith) in
    rw (c.as_bytes.ensures.value, c.format.ensures.text) (omega (arith, few, c.word.ensures.2.end, c.word.ensures.3))

pub returns-clause-text : goal.returns-clause-text
returns-clause-text g c =
    let digits = rw (c.as_bytes.ensures.value, c.format.ensures.text) at c.word-2.ensures in
    writes_as _ (field_parts [] c.args.x (omega arith)) (writes_next c.word.ensures digits)

pub returns-clause-short : goal.returns-clause-short
returns-clause-short g c =
    let few = length-decimal-le g.row.DIGITS c.args.x c.requires.0 c.requires.1 (omega arith) in
    let digits = rw (c.as_bytes.ensures.value, c.format.ensures.text) at c.word-2.ensures in
    omega (arith, few, c.word.ensures.2.end, digits.2.end)
