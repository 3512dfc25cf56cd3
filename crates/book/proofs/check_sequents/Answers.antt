use Rattle.std.proofs.Common.{rules}
use Rattle.rules.specs.Reading.{sequent_at}
use Rattle.texts.specs.Names.{names_in}
use Rattle.numbers.specs.Rows.{row_reads}
use Rattle.book.proofs.check_sequents.Goals as goal

pub returns : goal.returns
returns c = row_reads (sequent_at (names_in c.args.book.now) c.args.book.now) (λ p r lt one. search rules) c.check_many.ensures
