-- What is left of the definition's run; the pool stands before each step.
use Rattle.std.proofs.Common.{refl, sym, ◌∙◌, arith}
use Rattle.refusals.specs.Numbers.{not_done}
use Rattle.bound.specs.Bounds.{bound_is}
use Rattle.children.specs.Lent.{same_next, room_kept}
use Rattle.running.specs.Runs.{run_start, run_stopped, run_stands, run_next, run_spent}
use Rattle.running.proofs.run_in.Goals as goal

pub loop-k-init : goal.loop-k-init
loop-k-init c = (c.requires, run_start c.args.book.now c.args.pool.now (bound_is c.args.bound) c.args.budget, ((refl, refl), (refl, refl), (refl, refl)))

pub step_in-requires : goal.step_in-requires
step_in-requires c =
    let lent = c.loop-k.invariant.2 in
    let lend = c.lend-base.ensures in
    let long = c.loop-k.auto.base in
    let room = room_kept _ _ c.lend-base.result.1 c.loop-k.m lent lend.scratch.1 in
    (c.loop-k.invariant.0, long ∙ lend.base, omega (arith, lent.1.1, lend.scratch.0), (room.0, room.1 ∙ sym long))

pub returns-in-Err : goal.returns-in-Err
returns-in-Err c =
    rw c.from.ensures (run_stopped c.args.book.now c.args.pool.now (bound_is c.args.bound) c.args.budget c.loop-k.k c.loop-k.pool c.loop-k.invariant.1 c.loop-k-test.true _ _
    c.in-Err.ensures.stepped (not_done c.in-Err.refusal))

pub loop-k-preserved : goal.loop-k-preserved
loop-k-preserved c =
    let w = c.in_default.ensures.stepped in (
      run_stands c.args.book.now c.args.pool.now (bound_is c.args.bound) c.args.budget c.loop-k.k c.loop-k.pool c.loop-k.invariant.1 c.loop-k-test.true _ c.step_in.new.pool w c.loop-k.invariant.0,
      run_next c.args.book.now c.args.pool.now (bound_is c.args.bound) c.args.budget c.loop-k.k c.loop-k.pool c.loop-k.invariant.1 c.loop-k-test.true _ c.step_in.new.pool w refl,
      same_next c.lend-base.result.1 c.loop-k.m c.step_in.new.m c.loop-k.invariant.2 c.in_default.ensures.lent,
    )

pub returns : goal.returns
returns c =
    run_spent c.args.book.now c.args.pool.now (bound_is c.args.bound) c.args.budget c.loop-k.k c.loop-k.pool c.loop-k.invariant.1 (omega (arith, c.loop-k-test.false)) (omega (arith, c.loop-k.auto.k-end))
