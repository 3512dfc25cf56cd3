use Rattle.std.proofs.Common.{rules}
use Rattle.rules.specs.Reading.{origin_at}
use Rattle.texts.specs.Names.{names_in}
use Rattle.numbers.specs.Rows.{row_reads}
use Rattle.book.proofs.check_origins.Goals as goal

pub returns : goal.returns
returns c = row_reads (origin_at (names_in c.args.book.now) c.args.v c.args.book.now) (λ p r lt one. search rules) c.check_many.ensures
