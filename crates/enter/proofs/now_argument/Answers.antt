use Rattle.limits.specs.Limits.{limits_of}
use Rattle.sheets.specs.Form.{view_of}
use native.Mathlib.Omega.{arith}
use borrow.Author.Tests.{lt-ltb, le-ltb}
use mathlib.Core.Path.{ap, ◌∙◌}
use Prim.Native.Nat.{◌%◌}
use lib.ListN.{get_or}
use Rattle.base.specs.Branch.{if}
use Rattle.enter.specs.Args.{now_at}
use Rattle.enter.proofs.now_argument.Goals as goal

pub returns-then-i-count : goal.returns-then-i-count
unfolding now_at if
returns-then-i-count c =
    let q = rw c.count.ensures.0 at c.if-i-count.true in
    (c.now_of.ensures.0 ∙ (rw (lt-ltb _ _ q) (ap (λ j. get_or (view_of (limits_of c.args.limits) c.args.w.now).history j 0 % 256) c.argument.ensures.0)), c.now_of.ensures.1)

pub returns : goal.returns
unfolding now_at if
returns c =
    let q = rw c.count.ensures.0 at c.if-i-count.false in
    (rw (le-ltb _ _ q), omega arith)
