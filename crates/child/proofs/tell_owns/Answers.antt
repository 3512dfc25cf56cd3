use native.Mathlib.Omega.{arith}
use Rattle.refusals.specs.Numbers.{passed_on}
use Rattle.child.specs.Owns.{left_start, left_end, left_over, left_next}
use Rattle.child.proofs.tell_owns.Goals as goal

pub loop-i-init : goal.loop-i-init
loop-i-init c = record { room = c.requires.1.1.0; sturdy = c.requires.1.1.1; left = left_start _ _ _ _ _ _ _ _ _ _ _ }

pub returns-in_err-cut-clause-owns : goal.returns-in_err-cut-clause-owns
returns-in_err-cut-clause-owns c =
    rw (passed_on _ _ c.from_residual.ensures.1)
    (left_over _ _ _ _ _ _ _ _ _ _ _ c.loop-i.i c.loop-i.cut _ c.loop-i.invariant.left (omega arith)
    c.in_err-cut.field-0.0 c.tell_existential.new.w c.in_err-cut.ensures.existential)

pub loop-i-preserved : goal.loop-i-preserved
loop-i-preserved c = record {
  room = omega (arith, c.tell_existential.auto.dom, c.loop-i.invariant.room);
  sturdy = c.in_ok-cut.ensures.sturdy;
  left = left_next _ _ _ _ _ _ _ _ _ _ _ c.loop-i.i c.loop-i.cut _ c.loop-i.invariant.left (omega arith) _ _ c.in_ok-cut.ensures.existential;
}

pub returns-clause-owns : goal.returns-clause-owns
returns-clause-owns c = left_end _ _ _ _ _ _ _ _ _ _ _ c.loop-i.i c.loop-i.cut _ c.loop-i.invariant.left (omega arith)
