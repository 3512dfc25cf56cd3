-- Each way out of the checks behind the book's.
use Rattle.refusals.specs.Numbers.{passed_on}
use Rattle.openings.specs.Open.{right_true}
use Rattle.running.specs.Verdict.{verdict_eleven, verdict_twelve, verdict_sound, verdict_unsound}
use Rattle.running.proofs.check_pool.Goals as goal

pub returns-in_err-check_length : goal.returns-in_err-check_length
returns-in_err-check_length c =
    rw (passed_on _ _ c.from_residual.ensures.1, c.in_err-check_length.ensures.0)
    (verdict_eleven c.args.book.now c.args.pool.now c.args.bound c.args.number _ _ c.requires.reads c.in_err-check_length.ensures.1)

pub returns-in_err-known : goal.returns-in_err-known
returns-in_err-known c =
    rw (passed_on _ _ c.from_residual-in_err-known.ensures.1, c.in_err-known.ensures.0)
    (verdict_twelve c.args.book.now c.args.pool.now c.args.bound c.args.number _ _ c.requires.reads c.in_ok-check_length.ensures c.in_err-known.ensures.1)

pub pool_sound-requires : goal.pool_sound-requires
pool_sound-requires c = right_true _ c.in_ok-check_length.ensures

pub returns-then-pool_sound : goal.returns-then-pool_sound
returns-then-pool_sound c = (
  verdict_sound c.args.book.now c.args.pool.now c.args.bound c.args.number _ _ c.requires.reads c.in_ok-check_length.ensures c.in_ok-known.ensures.0 _ c.pool_sound.ensures c.if-pool_sound.true,
  c.in_ok-known.ensures.1,
)

pub returns-else-pool_sound : goal.returns-else-pool_sound
returns-else-pool_sound c =
    verdict_unsound c.args.book.now c.args.pool.now c.args.bound c.args.number _ _ c.requires.reads c.in_ok-check_length.ensures c.in_ok-known.ensures.0 _ c.pool_sound.ensures c.if-pool_sound.false
