-- What is left of the pass gives what the whole would.
use Rattle.std.proofs.Common.{arith}
use Rattle.lowering.specs.Rest.{lowering_next}
use Rattle.lowering.proofs.lower_by.Goals as goal

pub loop-x-preserved : goal.loop-x-preserved
loop-x-preserved c =
    lowering_next c.args.keys.now c.args.depths.now c.loop-x.depths _ c.loop-x.x-index c.loop-x.fell _ c.loop-x.invariant (omega arith) c.lower_at-fell.ensures
