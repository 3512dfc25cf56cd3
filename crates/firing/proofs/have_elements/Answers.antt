-- Each variable is looked up, until one has no element.
use native.Mathlib.Omega.{arith}
use borrow.Author.Rules.{rules}
use borrow.Author.Count.{below_more}
use Prim.Native.Nat.{ℕ}
use mathlib.Core.Bool.{true}
use Rattle.firing.specs.Loops.{Seen, elements_all, elements_not}
use Rattle.firing.proofs.have_elements.Goals as goal

pub returns-then-is_none : goal.returns-then-is_none
returns-then-is_none c =
    elements_not c.args.v c.args.k c.args.env.now c.args.t.now.keys.now c.args.t.now.domain.now c.loop-i.i c.loop-i-test.true (record { answer = c.look_variable.result; is = c.look_variable.ensures.0; tests = c.if-is_none.ensures })

pub loop-i-init : goal.loop-i-init
loop-i-init c = λ j h. absurd (omega arith)

pub loop-i-preserved : goal.loop-i-preserved
loop-i-preserved c = below_more (λ (j : ℕ). Seen c.args.v c.args.k c.args.env.now c.args.t.now.keys.now c.args.t.now.domain.now j true) c.loop-i.i c.loop-i.invariant (record { answer = c.look_variable.result; is = c.look_variable.ensures.0; tests = search rules })

pub returns : goal.returns
returns c = elements_all c.args.v c.args.k c.args.env.now c.args.t.now.keys.now c.args.t.now.domain.now (λ i h. c.loop-i.invariant i (omega arith))
