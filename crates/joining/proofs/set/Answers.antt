-- A place behind the last entry is set to no effect.
use lib.Seq.{set_out}
use native.Mathlib.Omega.{arith}
use mathlib.Core.Path.{sym}
use Rattle.joining.proofs.set.Goals as goal

pub returns-else-i-t : goal.returns-else-i-t
returns-else-i-t c = sym (set_out c.args.t.now c.args.i c.args.v (omega arith))
