-- A law for each way out.
use Rattle.std.proofs.Common.{arith}
use Rattle.lines.specs.Writes.{writes_as}
use Rattle.printing.specs.Stops.{ran_refused, ran_listed}
use Rattle.printing.proofs.ran_text.Goals as goal

pub returns-then-refuses_call : goal.returns-then-refuses_call
returns-then-refuses_call c =
    let b = rw c.if-refuses_call.true at c.refuses_call.ensures in
    writes_as _ (ran_refused c.args.stop c.args.steps c.args.pool.now (λ z. absurd (omega (arith, b.0))) (omega (arith, b.1))) c.refusal.ensures.text

pub returns-else-refuses_call : goal.returns-else-refuses_call
returns-else-refuses_call c =
    let b = rw c.if-refuses_call.false at c.refuses_call.ensures in
    writes_as _ (ran_listed c.args.stop c.args.steps c.args.pool.now b) c.listing.ensures
