use native.Mathlib.Omega.{arith}
use mathlib.Core.Path.{ap}
use Rattle.limits.specs.Limits.{limits_of}
use Prim.Native.Nat.{◌%◌}
use Rattle.enter.specs.Args.{depth_bound}
use Rattle.bound.specs.Seen.{depth_element, depth_large, depth_witness}
use Rattle.bound.proofs.depth_meaning.Goals as goal

pub returns-then-x-lt256 : goal.returns-then-x-lt256
returns-then-x-lt256 c =
    depth_element (limits_of c.args.limits) c.args.x c.args.w.now c.requires c.if-x-lt256.true _ _ c.now_of.ensures.0 (ap (λ n. n % 65536) c.depth_at.ensures)

pub returns-then-x-ge-KEY_END : goal.returns-then-x-ge-KEY_END
returns-then-x-ge-KEY_END c =
    depth_large (limits_of c.args.limits) c.args.x c.args.w.now c.requires c.if-x-ge-KEY_END.true

pub returns : goal.returns
returns c =
    depth_witness (limits_of c.args.limits) c.args.x c.args.w.now c.requires (omega arith) _ _ c.resolve-q.ensures.0 c.depth_over.ensures (rw c.depth_over.ensures (depth_bound _ _))
