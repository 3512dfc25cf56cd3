use Rattle.std.proofs.Common.{rules}
use Rattle.numbers.specs.Rows.{row_reads}
use Rattle.rules.specs.Reading.{ranged}
use Rattle.numbers.proofs.check_ranges.Goals as goal

pub returns : goal.returns
returns c = row_reads (ranged c.args.low c.args.high c.args.book.now) (λ p r lt one. search rules) c.check_many.ensures
