-- The pairs that are left give what all would; keys and pairs together become fewer.
use Rattle.merge.specs.Next.{merging_start, merging_next, merging_less, merging_end}
use Rattle.limits.specs.Limits.{limits_of}
use native.Mathlib.Omega.{arith}
use mathlib.Core.Path.{sym, ◌∙◌}
use Rattle.merge.proofs.merge_all.Goals as goal

pub loop-top-init : goal.loop-top-init
loop-top-init c =
    merging_start (limits_of c.args.limits) c.args.start c.args.w.now c.requires

pub merge_next-top-requires : goal.merge_next-top-requires
merge_next-top-requires c = (c.loop-top.invariant.stacked, omega arith)

pub loop-top-smaller : goal.loop-top-smaller
loop-top-smaller c =
    merging_less (limits_of c.args.limits) c.args.start c.args.w.now c.loop-top.top c.loop-top.w _ _ c.loop-top.invariant c.merge_next-top.ensures

pub loop-top-preserved : goal.loop-top-preserved
loop-top-preserved c =
    merging_next (limits_of c.args.limits) c.args.start c.args.w.now c.loop-top.top c.loop-top.w _ _ c.loop-top.invariant c.merge_next-top.ensures

pub shape_of-w : goal.shape_of-w
shape_of-w c =
    c.loop-top.invariant.stacked.formed.size ∙ sym c.requires.formed.size

pub returns : goal.returns
returns c =
    merging_end (limits_of c.args.limits) c.args.start c.args.w.now c.loop-top.top c.loop-top.w c.loop-top.invariant (omega arith)
