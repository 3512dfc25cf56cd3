-- The book is read, in front of the sheet's check.
use Rattle.numbers.specs.Answers.{checked_ends}
use Rattle.texts.specs.Heads.{read_as}
use Rattle.evaluates.proofs.report.Goals as goal

pub check_sheet-requires : goal.check_sheet-requires
check_sheet-requires c =
    let d = checked_ends _ _ c.in-Ok-check_book.ensures in
    read_as _ _ _ d.read
