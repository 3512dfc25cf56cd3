-- A fact, an identity, or an unknown kind.
use Rattle.std.proofs.Common.{eq-eqb, ne_eqb, arith, sym, ap, ◌∙◌}
use Rattle.rules.specs.Book.{same}
use Rattle.rules.specs.Reading.{literal_at, declared, giving, many, term_at, levels}
use Rattle.texts.specs.Names.{names_in}
use Rattle.refusals.specs.Numbers.{passed_on}
use Rattle.numbers.specs.Answers.{checked, checked_giving}
use Rattle.numbers.specs.Chains.{after_is, after_fault, on_true, on_false}
use Rattle.book.specs.Steps.{two}
use Rattle.book.proofs.check_literal.Goals as goal

pub returns-in_err-kind : goal.returns-in_err-kind
unfolding literal_at
returns-in_err-kind c =
    rw (passed_on _ _ c.from_residual.ensures.1)
    (sym (
    after_fault _ _ _ _ c.in_err-kind.ensures))

pub returns-in_err-r-in-0 : goal.returns-in_err-r-in-0
unfolding literal_at
returns-in_err-r-in-0 c =
    rw (passed_on _ _ c.from_residual-in_err-r-in-0.ensures.1)
    (sym (
    after_is _ _ _ _ c.in_ok-kind.ensures
    ∙ on_true _ _ _ (eq-eqb _ _ c.in-0.is)
    ∙ after_fault _ _ _ _ (c.in_err-r-in-0.ensures ∙ ap (λ k. declared k c.args.book.now c.in_ok-kind.e) c.relations.ensures.0)))

pub returns-in_ok-r-in-0 : goal.returns-in_ok-r-in-0
unfolding literal_at
returns-in_ok-r-in-0 c =
    let n = names_in c.args.book.now in
    sym (
    after_is _ _ _ _ c.in_ok-kind.ensures
    ∙ on_true _ _ _ (eq-eqb _ _ c.in-0.is)
    ∙ after_is _ _ _ _ (c.in_ok-r-in-0.ensures ∙ ap (λ k. declared k c.args.book.now c.in_ok-kind.e) c.relations.ensures.0)
    ∙ checked_giving _ _
    ∙ sym (c.check_terms.ensures ∙ ap (λ k. checked (many k (term_at levels n c.args.v c.args.book.now) c.in_ok-r-in-0.g)) c.relation_arity.ensures.0))

pub returns-in-1 : goal.returns-in-1
unfolding literal_at
returns-in-1 c =
    let s = c.args.book.now in
    sym (
    after_is _ _ _ _ c.in_ok-kind.ensures
    ∙ on_false _ _ _ (ne_eqb _ _ (λ q. omega (arith, c.in-1.is)))
    ∙ on_true _ _ _ (eq-eqb _ _ c.in-1.is)
    ∙ two same (term_at levels (names_in s) c.args.v s) c.in_ok-kind.e
    ∙ sym c.check_terms-in-1.ensures)

pub returns-in_default : goal.returns-in_default
unfolding literal_at checked giving
returns-in_default c =
    rw c.refuse.ensures
    (sym (
    after_is _ _ _ _ c.in_ok-kind.ensures
    ∙ on_false _ _ _ (ne_eqb _ _ (λ q. omega arith))
    ∙ on_false _ _ _ (ne_eqb _ _ (λ q. omega arith))))
