-- `take` meets its contract: each way out by its law.
use Rattle.refusals.specs.Numbers.{passed_on}
use Rattle.numbers.specs.Answers.{checked_ends, checked_refused}
use Rattle.texts.specs.Heads.{read_as}
use Rattle.takings.specs.Calls.{take_going_lem, take_refused}
use Rattle.takings.proofs.take.Goals as goal

pub take_checked-requires : goal.take_checked-requires
take_checked-requires c = read_as _ _ _ (checked_ends _ _ c.in_ok-check_book.ensures).read

pub returns-in_err-check_book : goal.returns-in_err-check_book
returns-in_err-check_book c =
    rw (passed_on _ _ c.from_residual.ensures.1)
    (take_refused c.args.book.now c.args.pool.now _ c.args.out.now _ _ (checked_refused _ _ _ c.in_err-check_book.ensures))

pub returns : goal.returns
returns c =
    let d = checked_ends _ _ c.in_ok-check_book.ensures in
    take_going_lem c.args.book.now c.args.pool.now _ c.args.out.now _ _ d.read _ _ _ c.take_checked.ensures
