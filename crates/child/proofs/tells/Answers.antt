use native.Mathlib.Omega.{arith}
use mathlib.Core.Bool.{false}
use Rattle.refusals.specs.Numbers.{passed_on}
use Rattle.child.specs.Tells.{left_start, left_end, left_over, left_next}
use Rattle.child.proofs.tells.Goals as goal

pub loop-init : goal.loop-init
loop-init c = record { within = c.requires.0; room = c.requires.1.0; sturdy = c.requires.1.1; left = left_start _ _ _ _ _ _ _ false c.args.w.now }

pub returns-in_err-cut-clause-tells : goal.returns-in_err-cut-clause-tells
returns-in_err-cut-clause-tells c =
    rw (passed_on _ _ c.from_residual.ensures.1)
    (left_over _ _ _ _ _ _ _ false c.args.w.now c.loop.counter c.loop.p c.loop.cut _ c.loop.invariant.left (omega arith)
    c.in_err-cut.field-0.0 c.tell.new.w c.in_err-cut.ensures.told)

pub loop-preserved : goal.loop-preserved
loop-preserved c = record {
  within = c.skip_literal-p.ensures.0.1;
  room = omega (arith, c.tell.auto.dom, c.loop.invariant.room);
  sturdy = c.in_ok-cut.ensures.sturdy;
  left = left_next _ _ _ _ _ _ _ false c.args.w.now c.loop.counter c.loop.p c.loop.cut _ c.loop.invariant.left (omega arith) _ _ c.in_ok-cut.ensures.told _ c.skip_literal-p.ensures.1;
}

pub returns-clause-tells : goal.returns-clause-tells
returns-clause-tells c = left_end _ _ _ _ _ _ _ false c.args.w.now c.loop.counter c.loop.p c.loop.cut _ c.loop.invariant.left (omega arith)
