-- Origins, then literals.
use Rattle.std.proofs.Common.{sym, ◌∙◌}
use Rattle.rules.specs.Reading.{disjunct_at}
use Rattle.refusals.specs.Numbers.{passed_on}
use Rattle.numbers.specs.Answers.{checked_giving}
use Rattle.numbers.specs.Chains.{after_is, after_fault, after_ends, after_refused}
use Rattle.book.proofs.check_disjunct.Goals as goal

pub returns-in_err-k : goal.returns-in_err-k
unfolding disjunct_at
returns-in_err-k c =
    rw (passed_on _ _ c.from_residual.ensures.1)
    (sym (
    after_fault _ _ _ _ c.in_err-k.ensures.reads))

pub returns-in_err-b : goal.returns-in_err-b
unfolding disjunct_at
returns-in_err-b c =
    rw (passed_on _ _ c.from_residual-in_err-b.ensures.1)
    (sym (
    after_is _ _ _ _ c.in_ok-k.ensures.reads
    ∙ after_refused _ _ _ _ c.in_err-b.ensures))

pub returns-in_err-l : goal.returns-in_err-l
unfolding disjunct_at
returns-in_err-l c =
    rw (passed_on _ _ c.from_residual-in_err-l.ensures.1)
    (sym (
    after_is _ _ _ _ c.in_ok-k.ensures.reads
    ∙ after_ends _ _ _ c.in_ok-b.ensures
    ∙ after_fault _ _ _ _ c.in_err-l.ensures.reads))

pub returns : goal.returns
unfolding disjunct_at
returns c =
    sym (
    after_is _ _ _ _ c.in_ok-k.ensures.reads
    ∙ after_ends _ _ _ c.in_ok-b.ensures
    ∙ after_is _ _ _ _ c.in_ok-l.ensures.reads
    ∙ checked_giving _ _
    ∙ sym c.check_literals.ensures)
