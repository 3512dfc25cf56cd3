use native.Mathlib.Omega.{arith}
use Rattle.std.specs.Prelude.{Err}
use Rattle.refusals.specs.Numbers.{passed_on}
use Rattle.child.specs.Whole.{child_short, child_cut_off, child_over, child_made}
use Rattle.child.proofs.child.Goals as goal

pub returns-then-text-at-lt2-clause-child : goal.returns-then-text-at-lt2-clause-child
returns-then-text-at-lt2-clause-child c = child_short _ _ _ _ _ _ c.requires.1.1.1.few _ _ c.if-text-at-lt2.true (Err (record {})) c.args.w.now

pub returns-then-text-middle-lt2-clause-child : goal.returns-then-text-middle-lt2-clause-child
returns-then-text-middle-lt2-clause-child c =
    let k = rw c.num16-count.ensures.0 at c.skip_origins-middle.ensures.1 in
    child_cut_off _ _ _ _ _ _ c.requires.1.1.1.few _ _ _ k c.if-text-middle-lt2.true (Err (record {})) c.args.w.now

pub returns-in_err-cut-clause-child : goal.returns-in_err-cut-clause-child
returns-in_err-cut-clause-child c =
    let k = rw c.num16-count.ensures.0 at c.skip_origins-middle.ensures.1 in
    rw (passed_on _ _ c.from_residual.ensures.1)
    (child_over _ _ _ _ _ _ c.requires.1.1.1.few _ _ _ k _ c.num16-n.ensures.0 c.in_err-cut.field-0.0 c.tells.new.w c.in_err-cut.ensures.tells)

pub tell_owns-requires : goal.tell_owns-requires
tell_owns-requires c =
    (omega arith, (omega (arith, c.num16-count.ensures.1, c.requires.1.0), (omega (arith, c.requires.1.1.0), c.in_ok-cut.ensures.sturdy)))

pub returns-clause-child : goal.returns-clause-child
returns-clause-child c =
    let k = rw c.num16-count.ensures.0 at c.skip_origins-middle.ensures.1 in
    child_made _ _ _ _ _ _ c.requires.1.1.1.few _ _ _ k _ c.num16-n.ensures.0 _ _ c.in_ok-cut.ensures.tells _ _ (rw c.num16-count.ensures.0 at c.tell_owns.ensures.owns)
