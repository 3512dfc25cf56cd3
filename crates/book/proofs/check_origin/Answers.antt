-- Kind, witness number, argument count, which is the witness's, then the arguments.
use Rattle.std.proofs.Common.{lt-ltb, le-ltb, eq-eqb, ne_eqb, sym, ap, ◌∙◌}
use Rattle.rules.specs.Reading.{origin_at, declared, giving}
use Rattle.refusals.specs.Numbers.{passed_on}
use Rattle.numbers.specs.Answers.{checked, checked_giving}
use Rattle.counts.specs.Kinds.{kind_low}
use Rattle.numbers.specs.Chains.{after_is, after_fault, on_true, on_false}
use Rattle.book.proofs.check_origin.Goals as goal

pub returns-in_err-number : goal.returns-in_err-number
unfolding origin_at
returns-in_err-number c =
    rw (passed_on _ _ c.from_residual.ensures.1)
    (sym (
    after_fault _ _ _ _ c.in_err-number.ensures))

pub returns-in_default : goal.returns-in_default
unfolding origin_at checked giving
returns-in_default c =
    rw c.refuse.ensures
    (sym (
    after_is _ _ _ _ c.in_ok-number.ensures
    ∙ on_true _ _ _ (lt-ltb _ _ c.in_default.ensures.1)))

pub returns-in_err-w : goal.returns-in_err-w
unfolding origin_at
returns-in_err-w c =
    rw (passed_on _ _ c.from_residual-in_err-w.ensures.1)
    (sym (
    after_is _ _ _ _ c.in_ok-number.ensures
    ∙ on_false _ _ _ (le-ltb _ _ (rw c.in-Ok.ensures at (kind_low c.in-Ok.kind)))
    ∙ after_fault _ _ _ _ (c.in_err-w.ensures ∙ ap (λ k. declared k c.args.book.now c.in_ok-number.a) (rw c.in-Ok.ensures at c.witnesses_of.ensures.0))))

pub returns-in_err-k : goal.returns-in_err-k
unfolding origin_at
returns-in_err-k c =
    rw (passed_on _ _ c.from_residual-in_err-k.ensures.1)
    (sym (
    after_is _ _ _ _ c.in_ok-number.ensures
    ∙ on_false _ _ _ (le-ltb _ _ (rw c.in-Ok.ensures at (kind_low c.in-Ok.kind)))
    ∙ after_is _ _ _ _ (c.in_ok-w.ensures ∙ ap (λ k. declared k c.args.book.now c.in_ok-number.a) (rw c.in-Ok.ensures at c.witnesses_of.ensures.0))
    ∙ after_fault _ _ _ _ c.in_err-k.ensures))

pub returns-then-k-arity_of : goal.returns-then-k-arity_of
unfolding origin_at checked giving
returns-then-k-arity_of c =
    rw c.refuse-then-k-arity_of.ensures
    (sym (
    after_is _ _ _ _ c.in_ok-number.ensures
    ∙ on_false _ _ _ (le-ltb _ _ (rw c.in-Ok.ensures at (kind_low c.in-Ok.kind)))
    ∙ after_is _ _ _ _ (c.in_ok-w.ensures ∙ ap (λ k. declared k c.args.book.now c.in_ok-number.a) (rw c.in-Ok.ensures at c.witnesses_of.ensures.0))
    ∙ after_is _ _ _ _ c.in_ok-k.ensures
    ∙ on_false _ _ _ (ne_eqb _ _ (λ q. c.if-k-arity_of.true (q ∙ sym (rw c.in-Ok.ensures at c.arity_of.ensures.0))))))

pub returns : goal.returns
unfolding origin_at
returns c =
    sym (
    after_is _ _ _ _ c.in_ok-number.ensures
    ∙ on_false _ _ _ (le-ltb _ _ (rw c.in-Ok.ensures at (kind_low c.in-Ok.kind)))
    ∙ after_is _ _ _ _ (c.in_ok-w.ensures ∙ ap (λ k. declared k c.args.book.now c.in_ok-number.a) (rw c.in-Ok.ensures at c.witnesses_of.ensures.0))
    ∙ after_is _ _ _ _ c.in_ok-k.ensures
    ∙ on_true _ _ _ (eq-eqb _ _ (c.if-k-arity_of.false ∙ (rw c.in-Ok.ensures at c.arity_of.ensures.0)))
    ∙ checked_giving _ _
    ∙ sym c.check_variables.ensures)
