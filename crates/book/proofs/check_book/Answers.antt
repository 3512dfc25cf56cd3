-- 1 first; then head, sequent count, sequents, end.
use Rattle.std.proofs.Common.{lt-ltb, le-ltb, eq-eqb, ne_eqb, sym, ap, ◌∙◌}
use Rattle.rules.specs.Reading.{giving, ended}
use Rattle.texts.specs.Heads.{read_parts, sequents_from}
use Rattle.refusals.specs.Numbers.{passed_on}
use Rattle.numbers.specs.Answers.{checked}
use Rattle.numbers.specs.Chains.{after_is, after_fault, after_ends, after_refused, on_true, on_false}
use Rattle.book.specs.Steps.{front_names}
use Rattle.book.proofs.check_book.Goals as goal

pub returns-then-book-gt-LONGEST_BOOK : goal.returns-then-book-gt-LONGEST_BOOK
unfolding checked giving
returns-then-book-gt-LONGEST_BOOK c =
    rw c.refuse.ensures
    (sym (
    ap checked (read_parts c.args.book.now)
    ∙ on_true _ _ _ (lt-ltb _ _ c.if-book-gt-LONGEST_BOOK.true)))

pub returns-in_err-c : goal.returns-in_err-c
returns-in_err-c c =
    rw (passed_on _ _ c.from_residual.ensures.1)
    (sym (
    ap checked (read_parts c.args.book.now)
    ∙ on_false _ _ _ (le-ltb _ _ c.if-book-gt-LONGEST_BOOK.false)
    ∙ after_refused _ _ _ _ c.in_err-c.ensures))

pub returns-in_err-k : goal.returns-in_err-k
unfolding sequents_from
returns-in_err-k c =
    rw (passed_on _ _ c.from_residual-in_err-k.ensures.1)
    (sym (
    ap checked (read_parts c.args.book.now)
    ∙ on_false _ _ _ (le-ltb _ _ c.if-book-gt-LONGEST_BOOK.false)
    ∙ front_names c.args.book.now _ c.in_ok-c.ensures
    ∙ after_fault _ _ _ _ c.in_err-k.ensures.reads))

pub returns-in_err-e : goal.returns-in_err-e
unfolding sequents_from
returns-in_err-e c =
    rw (passed_on _ _ c.from_residual-in_err-e.ensures.1)
    (sym (
    ap checked (read_parts c.args.book.now)
    ∙ on_false _ _ _ (le-ltb _ _ c.if-book-gt-LONGEST_BOOK.false)
    ∙ front_names c.args.book.now _ c.in_ok-c.ensures
    ∙ after_is _ _ _ _ c.in_ok-k.ensures.reads
    ∙ after_refused _ _ _ _ c.in_err-e.ensures))

pub returns-then-e-book : goal.returns-then-e-book
unfolding sequents_from ended checked giving
returns-then-e-book c =
    rw c.refuse-then-e-book.ensures
    (sym (
    ap checked (read_parts c.args.book.now)
    ∙ on_false _ _ _ (le-ltb _ _ c.if-book-gt-LONGEST_BOOK.false)
    ∙ front_names c.args.book.now _ c.in_ok-c.ensures
    ∙ after_is _ _ _ _ c.in_ok-k.ensures.reads
    ∙ after_ends _ _ _ c.in_ok-e.ensures
    ∙ on_false _ _ _ (ne_eqb _ _ c.if-e-book.true)))

pub returns : goal.returns
unfolding sequents_from ended checked giving
returns c =
    sym (
    ap checked (read_parts c.args.book.now)
    ∙ on_false _ _ _ (le-ltb _ _ c.if-book-gt-LONGEST_BOOK.false)
    ∙ front_names c.args.book.now _ c.in_ok-c.ensures
    ∙ after_is _ _ _ _ c.in_ok-k.ensures.reads
    ∙ after_ends _ _ _ c.in_ok-e.ensures
    ∙ on_true _ _ _ (eq-eqb _ _ c.if-e-book.false))
