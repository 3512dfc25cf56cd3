-- The literals still to come have the answer of all.
use native.Mathlib.Omega.{arith}
use Rattle.firing.specs.Loops.{literals_start, literals_stop, literals_next, literals_end}
use Rattle.firing.proofs.literals_observed.Goals as goal

pub loop-init : goal.loop-init
loop-init c = record { within = c.requires; left = literals_start c.args.s.now.book.now c.args.s.now.bytes.now c.args.at c.args.n c.args.env.now c.args.t.now.keys.now c.args.t.now.facts.now c.args.t.now.domain.now }

pub returns-then-not-observed : goal.returns-then-not-observed
returns-then-not-observed c =
    literals_stop c.args.s.now.book.now c.args.s.now.bytes.now c.args.at c.args.n c.args.env.now c.args.t.now.keys.now c.args.t.now.facts.now c.args.t.now.domain.now c.loop.counter c.loop.p c.loop.invariant.left (omega arith) (rw (c.if-not-observed.true) at c.observed.ensures)

pub loop-preserved : goal.loop-preserved
loop-preserved c = record {
  within = c.skip_literal-p.ensures.0.1;
  left = literals_next c.args.s.now.book.now c.args.s.now.bytes.now c.args.at c.args.n c.args.env.now c.args.t.now.keys.now c.args.t.now.facts.now c.args.t.now.domain.now c.loop.counter c.loop.p c.loop.invariant.left c.skip_literal-p.result (omega arith)
      (rw (c.if-not-observed.false) at c.observed.ensures) c.skip_literal-p.ensures.1;
}

pub returns : goal.returns
returns c = literals_end c.args.s.now.book.now c.args.s.now.bytes.now c.args.at c.args.n c.args.env.now c.args.t.now.keys.now c.args.t.now.facts.now c.args.t.now.domain.now c.loop.counter c.loop.p c.loop.invariant.left (omega arith)
