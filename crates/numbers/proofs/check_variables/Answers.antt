use Rattle.std.proofs.Common.{rules}
use Rattle.numbers.specs.Rows.{row_reads}
use Rattle.rules.specs.Reading.{declared}
use Rattle.numbers.proofs.check_variables.Goals as goal

pub returns : goal.returns
returns c = row_reads (declared c.args.v c.args.book.now) (λ p r lt one. search rules) c.check_many.ensures
