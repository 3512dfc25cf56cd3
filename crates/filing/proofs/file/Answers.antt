-- Of two values for one key the pair is kept.
use Rattle.std.proofs.Common.{arith}
use Rattle.filing.specs.File.{filed_new, filed_pair}
use Rattle.filing.proofs.file.Goals as goal

pub returns-in-Some : goal.returns-in-Some
returns-in-Some c =
    rw c.value.ensures.0
    (filed_pair c.args.x c.args.ends.count c.args.ends.top _ c.args.t.now _ c.put_last-count.ensures (omega arith) c.requires.0 c.requires.1.0 c.requires.1.1.0 c.in-Some.v
    (rw c.key.ensures at c.in-Some.ensures.0))

pub returns-in_default : goal.returns-in_default
returns-in_default c =
    filed_new c.args.x c.args.ends.count c.args.ends.top _ c.args.t.now _ c.put_last-count.ensures (omega arith) c.requires.0 c.requires.1.0 c.requires.1.1.0 (rw c.key.ensures at c.in_default.ensures)
