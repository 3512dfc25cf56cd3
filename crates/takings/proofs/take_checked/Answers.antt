-- `take_checked` meets its contract: each way out by its law.
use Rattle.std.proofs.Common.{rules}
use Rattle.refusals.specs.Numbers.{passed_on}
use Rattle.openings.specs.Open.{right_true}
use Rattle.takings.specs.Calls.{rest_eleven, rest_twelve, ready, rest_going, rest_unsound}
use Rattle.takings.proofs.take_checked.Goals as goal

pub returns-in_err-check_length : goal.returns-in_err-check_length
returns-in_err-check_length c =
    rw (passed_on _ _ c.from_residual.ensures.1, c.in_err-check_length.ensures.0)
    (rest_eleven c.args.book.now c.args.pool.now c.args.list c.args.out.now c.in_err-check_length.ensures.1)

pub returns-in_err-source : goal.returns-in_err-source
returns-in_err-source c =
    rw (passed_on _ _ c.from_residual-in_err-source.ensures.1, c.in_err-source.ensures.0)
    (rest_twelve c.args.book.now c.args.pool.now c.args.list c.args.out.now c.in_ok-check_length.ensures c.in_err-source.ensures.1)

pub pool_sound-requires : goal.pool_sound-requires
pool_sound-requires c = right_true _ c.in_ok-check_length.ensures

pub take_sound-requires : goal.take_sound-requires
take_sound-requires c =
    ready c.args.book.now c.args.pool.now c.args.list c.args.out.now c.in_ok-check_length.ensures c.requires (λ j. search rules) _ c.pool_sound.ensures c.if-not-pool_sound.false

pub returns : goal.returns
returns c =
    rest_going c.args.book.now c.args.pool.now c.args.list c.args.out.now c.in_ok-check_length.ensures c.in_ok-source.source c.in_ok-source.ensures
    _ c.pool_sound.ensures c.if-not-pool_sound.false _ _ _ c.take_sound.ensures

pub returns-then-not-pool_sound : goal.returns-then-not-pool_sound
returns-then-not-pool_sound c =
    rest_unsound c.args.book.now c.args.pool.now c.args.list c.args.out.now c.in_ok-check_length.ensures c.in_ok-source.source c.in_ok-source.ensures
    _ c.pool_sound.ensures c.if-not-pool_sound.true
