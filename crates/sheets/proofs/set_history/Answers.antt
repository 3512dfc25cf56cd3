-- One element more is itself.
use Rattle.std.proofs.Common.{arith, refl}
use Rattle.base.specs.Lists.{from}
use Rattle.sheets.specs.Load.{from_set}
use Rattle.sheets.proofs.set_history.Goals as goal

pub loop-i-init : goal.loop-i-init
unfolding from
loop-i-init c = refl

pub loop-i-preserved : goal.loop-i-preserved
loop-i-preserved c = rw c.loop-i.invariant (from_set c.loop-i.i c.args.t.now (omega arith))
