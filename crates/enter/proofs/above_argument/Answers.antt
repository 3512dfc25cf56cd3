use Rattle.limits.specs.Limits.{limits_of}
use Rattle.sheets.specs.Form.{view_of}
use borrow.Author.Tests.{lt-ltb, le-ltb}
use mathlib.Core.Path.{ap, ◌∙◌}
use lib.ListN.{get_or}
use Rattle.base.specs.Branch.{if}
use Rattle.enter.specs.Args.{one_more, above}
use Rattle.enter.proofs.above_argument.Goals as goal

pub returns-then-i-count : goal.returns-then-i-count
unfolding above if
returns-then-i-count c =
    let q = rw c.count.ensures.0 at c.if-i-count.true in
    c.one_more.ensures ∙ (rw (lt-ltb _ _ q) (ap one_more (c.depth_at.ensures
    ∙ ap (λ j. get_or (view_of (limits_of c.args.limits) c.args.w.now).depths j 0) c.argument.ensures.0)))

pub returns : goal.returns
unfolding above if
returns c =
    let q = rw c.count.ensures.0 at c.if-i-count.false in
    rw (le-ltb _ _ q)
