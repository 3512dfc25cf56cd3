-- The levels fall; the arguments, each with a level less, give the answer of all.
use Rattle.std.proofs.Common.{◌-◌, ap, sym, rules, ◌∙◌}
use Rattle.rules.specs.Reading.{term_at, and_then}
use Rattle.texts.specs.Names.{names_in}
use Rattle.refusals.specs.Numbers.{passed_on}
use Rattle.numbers.specs.Answers.{checked}
use Rattle.numbers.specs.Rows.{row_reads}
use Rattle.terms.specs.Head.{level_left, term_none, term_ends}
use Rattle.terms.proofs.+check_term+fn-check_term-argument.Goals as goal

pub returns-then-left-eq0 : goal.returns-then-left-eq0
returns-then-left-eq0 t c =
    rw c.refuse.ensures (sym (term_none c.args.left (names_in c.args.book.now) c.args.v c.args.book.now c.args.at c.if-left-eq0.true))

pub returns-in_err-count : goal.returns-in_err-count
unfolding and_then
returns-in_err-count t c =
    rw (passed_on _ _ c.from_residual.ensures.1)
    (sym c.in_err-count.ensures ∙ ap (λ l. checked (term_at l (names_in c.args.book.now) c.args.v c.args.book.now c.args.at)) (level_left c.args.left c.if-left-eq0.false))

pub returns : goal.returns
unfolding and_then
returns t c =
    term_ends c.args.left (names_in c.args.book.now) c.args.v c.args.book.now c.args.at _ _ _ c.if-left-eq0.false c.in_ok-count.ensures
    (row_reads (term_at (c.args.left - 1) (names_in c.args.book.now) c.args.v c.args.book.now) (λ p r lt one. search rules) c.check_many.ensures)
