use Rattle.refusals.specs.Numbers.{not_done, passed_on}
use Rattle.running.specs.Verdict.{step_refused, step_went}
use Rattle.running.proofs.step.Goals as goal

pub returns-in_err-known : goal.returns-in_err-known
returns-in_err-known c =
    rw (passed_on _ _ c.from_residual.ensures.1) (step_refused c.args.book.now c.args.pool.now c.args.bound c.args.number _ c.in_err-known.ensures (not_done c.in_err-known.field-0.0))

pub returns : goal.returns
returns c = step_went c.args.book.now c.args.pool.now c.args.bound c.args.number c.in_ok-known.ensures.0 _ c.in_ok-known.ensures.1 _ _ c.step_in.ensures.stepped
