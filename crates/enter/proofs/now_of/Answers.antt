use native.Mathlib.Omega.{arith}
use mathlib.Core.Path.{sym, ap}
use Prim.Native.Nat.{◌%◌}
use Rattle.limits.specs.Limits.{limits_of, history_at}
use Rattle.sheets.specs.Form.{view_of}
use Rattle.images.specs.Kept.{part_at, part_out}
use Rattle.enter.proofs.now_of.Goals as goal

pub returns-then-e-limits : goal.returns-then-e-limits
unfolding view_of
returns-then-e-limits c =
    (ap (λ n. n % 256) (part_out (history_at (limits_of c.args.limits)) _ c.args.w.now c.args.e c.if-e-limits.true), omega arith)

pub returns : goal.returns
unfolding view_of
returns c =
    (rw c.history_at.ensures (ap (λ n. n % 256) (sym (part_at (history_at (limits_of c.args.limits)) _ c.args.w.now c.args.e (omega arith)))), omega arith)
