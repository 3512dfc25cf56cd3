use Rattle.std.proofs.Common.{rules}
use Rattle.rules.specs.Reading.{term_at, levels}
use Rattle.texts.specs.Names.{names_in}
use Rattle.numbers.specs.Rows.{row_reads}
use Rattle.terms.proofs.check_terms.Goals as goal

pub returns : goal.returns
unfolding levels
returns c = row_reads (term_at levels (names_in c.args.book.now) c.args.v c.args.book.now) (λ p r lt one. search rules) c.check_many.ensures
