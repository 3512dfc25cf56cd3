use Rattle.std.proofs.Common.{arith, rules}
use Rattle.numbers.specs.Rows.{at_start, at_end, at_fault, at_next}
use Rattle.refusals.specs.Numbers.{passed_on}
use Rattle.numbers.proofs.check_many.Goals as goal

pub loop-init : goal.loop-init
loop-init g c = (omega arith, search rules, at_start c.args.count 0 c.args.at)

pub returns-in_err-p : goal.returns-in_err-p
returns-in_err-p g c =
    rw (passed_on _ _ c.from_residual.ensures.1) (c.loop.invariant.2 _ (at_fault c.args.count c.loop.counter c.loop.p _ c.loop-test.true c.loop.invariant.1 (c.in_err-p.ensures)))

pub loop-preserved : goal.loop-preserved
loop-preserved g c = (omega arith, search rules, λ r h. c.loop.invariant.2 r (at_next c.args.count c.loop.counter c.loop.p _ r c.loop-test.true c.loop.invariant.1 (c.in_ok-p.ensures) h))

pub returns : goal.returns
returns g c = c.loop.invariant.2 _ (at_end c.args.count c.loop.counter c.loop.p (omega arith))
