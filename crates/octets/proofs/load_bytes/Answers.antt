-- One more byte is read at the front of what is left of the table.
use Rattle.std.proofs.Common.{arith}
use Rattle.octets.specs.Words.{bytes_set}
use Rattle.octets.proofs.load_bytes.Goals as goal

pub loop-i-preserved : goal.loop-i-preserved
loop-i-preserved c = rw (c.loop-i.invariant, c.from.ensures) (bytes_set c.args.s.now c.args.at c.loop-i.i c.args.t.now (omega arith) (omega arith))
