use Rattle.refusals.specs.Numbers.{passed_on}
use Rattle.numbers.specs.Answers.{checked_ends, checked_refused}
use Rattle.texts.specs.Heads.{read_as}
use Rattle.running.specs.Verdict.{verdict_book}
use Rattle.running.proofs.check_call.Goals as goal

pub check_pool-requires : goal.check_pool-requires
check_pool-requires c = read_as _ _ _ (checked_ends _ _ c.in_ok-check_book.ensures).read

pub returns-in_err-check_book : goal.returns-in_err-check_book
returns-in_err-check_book c =
    rw (passed_on _ _ c.from_residual.ensures.1)
    (verdict_book c.args.book.now c.args.pool.now c.args.bound c.args.number _ _ (checked_refused _ _ _ c.in_err-check_book.ensures))
