-- What is left gives what the whole would.
use Rattle.std.proofs.Common.{arith}
use Rattle.filing.specs.File.{refiling_start, refiling_none, refiling_next, refiling_end}
use Rattle.filing.proofs.refile.Goals as goal

pub loop-i-init : goal.loop-i-init
loop-i-init c = refiling_start c.args.t.now c.args.ends.count c.args.ends.top c.requires.0 c.requires.1.0 c.requires.1.1

pub file-filed-requires : goal.file-filed-requires
file-filed-requires c =
    (omega arith, (omega arith, (c.loop-i.invariant.rising, refiling_none c.args.t.now c.args.ends.count c.args.ends.top c.requires.0 c.requires.1.0 c.loop-i.t c.loop-i.filed.count c.loop-i.filed.top c.loop-i.i c.loop-i.invariant (omega arith))))

pub loop-i-preserved : goal.loop-i-preserved
loop-i-preserved c =
    refiling_next c.args.t.now c.args.ends.count c.args.ends.top c.requires.0 c.requires.1.0 c.loop-i.t _ c.loop-i.filed.count c.loop-i.filed.top c.loop-i.i _ _ c.loop-i.invariant (omega arith) (omega arith) c.file-filed.ensures

pub returns : goal.returns
returns c =
    refiling_end c.args.t.now c.args.ends.count c.args.ends.top c.requires.0 c.requires.1.0 c.loop-i.t c.loop-i.filed.count c.loop-i.filed.top c.loop-i.i c.loop-i.invariant (omega arith)
