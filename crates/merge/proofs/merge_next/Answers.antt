-- The two ways out: one already, or the smaller stays.
use Rattle.merge.specs.Next.{next_same, next_into}
use Rattle.limits.specs.Limits.{limits_of}
use native.Mathlib.Omega.{arith}
use Rattle.merge.proofs.merge_next.Goals as goal

pub returns-then-x-y : goal.returns-then-x-y
returns-then-x-y c =
    next_same (limits_of c.args.limits) c.args.top c.args.w.now c.requires.0 c.requires.1 c.if-x-y.true

pub merge_into-requires : goal.merge_into-requires
merge_into-requires c =
    let g = c.requires.0 in
    (g.formed, (g.orderly, (omega (arith, g.room), (omega arith, omega arith))))

pub returns : goal.returns
returns c =
    next_into (limits_of c.args.limits) c.args.top c.args.w.now c.requires.0 c.requires.1 _ _ _ _ c.if-x-y.false (omega arith) (omega arith) c.merge_into.ensures
