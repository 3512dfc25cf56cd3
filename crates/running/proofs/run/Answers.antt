use Rattle.refusals.specs.Numbers.{not_done}
use Rattle.running.specs.Runs.{run_refused, run_went}
use Rattle.running.proofs.run.Goals as goal

pub returns-in-Ok : goal.returns-in-Ok
returns-in-Ok c = run_went c.args.book.now c.args.pool.now c.args.bound c.args.number c.args.budget c.in-Ok.ensures.0 _ c.in-Ok.ensures.1 _ _ _ c.run_in.ensures

pub returns-in-Err : goal.returns-in-Err
returns-in-Err c =
    rw c.from.ensures (run_refused c.args.book.now c.args.pool.now c.args.bound c.args.number c.args.budget _ c.in-Err.ensures (not_done c.in-Err.refusal))
