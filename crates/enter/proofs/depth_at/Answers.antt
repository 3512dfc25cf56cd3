use mathlib.Core.Path.{sym}
use native.Mathlib.Omega.{arith}
use Rattle.limits.specs.Limits.{limits_of, depths_at}
use Rattle.sheets.specs.Form.{view_of}
use Rattle.images.specs.Kept.{part_at, part_out}
use Rattle.enter.proofs.depth_at.Goals as goal

pub returns-then-e-w : goal.returns-then-e-w
unfolding view_of
returns-then-e-w c =
    part_out (depths_at (limits_of c.args.limits)) _ c.args.w.now c.args.e c.if-e-w.true

pub returns : goal.returns
unfolding view_of
returns c =
    rw c.depths_at.ensures (sym (part_at (depths_at (limits_of c.args.limits)) _ c.args.w.now c.args.e (omega arith)))
