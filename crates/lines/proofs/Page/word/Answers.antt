-- The bytes that were lent came back as the word.
use Rattle.std.proofs.Common.{arith}
use Rattle.lines.specs.Writes.{writes_lent}
use Rattle.lines.proofs.Page.word.Goals as goal

pub returns : goal.returns
returns c = writes_lent (omega arith) (omega arith) (omega arith) (omega arith) c.copy_from_slice.ensures.after
