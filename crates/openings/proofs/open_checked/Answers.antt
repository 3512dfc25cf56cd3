-- `open_checked` meets its contract: each way out by its law.
use Rattle.refusals.specs.Numbers.{passed_on}
use Rattle.openings.specs.Open.{length_least, right_true, open_eleven, no_scheduler, no_strategy, opens}
use Rattle.openings.proofs.open_checked.Goals as goal

pub returns-in_err-check_length : goal.returns-in_err-check_length
returns-in_err-check_length c =
    rw (passed_on _ _ c.from_residual.ensures.1, c.in_err-check_length.ensures.0) (open_eleven c.args.pool.now c.args.scheduler c.args.strategy c.in_err-check_length.ensures.1)

pub returns-in_err-scheduler : goal.returns-in_err-scheduler
returns-in_err-scheduler c =
    rw (passed_on _ _ c.from_residual-in_err-scheduler.ensures.1, c.in_err-scheduler.ensures.0)
    (no_scheduler c.args.pool.now c.args.scheduler c.args.strategy c.in_ok-check_length.ensures c.in_err-scheduler.ensures.1)

pub returns-in_err-strategy : goal.returns-in_err-strategy
returns-in_err-strategy c =
    rw (passed_on _ _ c.from_residual-in_err-strategy.ensures.1, c.in_err-strategy.ensures.0)
    (no_strategy c.args.pool.now c.args.scheduler c.args.strategy c.in_ok-check_length.ensures c.in_ok-scheduler.scheduler c.in_ok-scheduler.ensures c.in_err-strategy.ensures.1)

pub write_open-requires : goal.write_open-requires
write_open-requires c = (length_least _ c.in_ok-check_length.ensures, right_true _ c.in_ok-check_length.ensures)

pub returns : goal.returns
returns c =
    opens c.args.pool.now c.args.scheduler c.args.strategy c.in_ok-check_length.ensures
    c.in_ok-scheduler.scheduler c.in_ok-scheduler.ensures c.in_ok-strategy.strategy c.in_ok-strategy.ensures _ c.write_open.ensures
