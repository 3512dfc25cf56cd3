-- What is left gives what the whole would.
use Rattle.std.proofs.Common.{arith}
use Rattle.filing.specs.File.{refacting_start, refacting_none, refacting_next, refacting_end}
use Rattle.filing.proofs.refact.Goals as goal

pub loop-i-init : goal.loop-i-init
loop-i-init c = refacting_start c.args.t.now c.requires

pub put_last-count-requires : goal.put_last-count-requires
put_last-count-requires c =
    (omega arith, (c.loop-i.invariant.rising, refacting_none c.args.t.now c.loop-i.t c.loop-i.count c.loop-i.i c.loop-i.invariant (omega arith)))

pub loop-i-preserved : goal.loop-i-preserved
loop-i-preserved c = refacting_next c.args.t.now c.loop-i.t _ c.loop-i.count c.loop-i.i _ c.loop-i.invariant (omega arith) c.put_last-count.ensures

pub returns : goal.returns
returns c = refacting_end c.args.t.now c.loop-i.t c.loop-i.count c.loop-i.i c.loop-i.invariant (omega arith) (omega arith)
