-- The terms still to come are counted; each turn reads one and adds those directly below it.
use native.Mathlib.Omega.{arith}
use Rattle.texts.specs.Names.{names_in}
use Rattle.skips.specs.Terms.{awaits_next, awaits_short, awaits_end}
use Rattle.skips.proofs.skip_terms.Goals as goal

pub returns-then-s-p : goal.returns-then-s-p
returns-then-s-p c =
    ((omega arith, omega arith), awaits_short (names_in c.args.s.now.book.now) c.args.s.now.bytes.now c.args.at c.args.n c.loop-left.p c.loop-left.left _ c.if-s-p.true c.loop-left.invariant.1)

pub loop-left-preserved : goal.loop-left-preserved
loop-left-preserved c =
    ((omega arith, omega arith), rw c.below.ensures.0 (awaits_next (names_in c.args.s.now.book.now) c.args.s.now.bytes.now c.args.at c.args.n c.loop-left.p c.loop-left.left (omega arith) c.loop-left.invariant.1))

pub returns : goal.returns
returns c =
    (c.loop-left.invariant.0, awaits_end (names_in c.args.s.now.book.now) c.args.s.now.bytes.now c.args.at c.args.n c.loop-left.p c.loop-left.left (omega arith) c.loop-left.invariant.1)
