-- The book's check, then what follows it.
use Rattle.refusals.specs.Numbers.{passed_on}
use Rattle.numbers.specs.Answers.{checked_ends, checked_refused}
use Rattle.openings.specs.Open.{open_going, open_refused}
use Rattle.openings.proofs.open.Goals as goal

pub returns-in_err-check_book : goal.returns-in_err-check_book
returns-in_err-check_book c =
    rw (passed_on _ _ c.from_residual.ensures.1) (open_refused c.args.book.now c.args.pool.now _ _ _ _ (checked_refused _ _ _ c.in_err-check_book.ensures))

pub returns : goal.returns
returns c =
    let d = checked_ends _ _ c.in_ok-check_book.ensures in
    open_going c.args.book.now c.args.pool.now _ _ d.thing _ d.read _ _ c.open_checked.ensures
