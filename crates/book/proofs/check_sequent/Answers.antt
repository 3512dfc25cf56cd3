-- Free variables, body, head.
use Rattle.std.proofs.Common.{sym, ◌∙◌}
use Rattle.rules.specs.Reading.{sequent_at}
use Rattle.refusals.specs.Numbers.{passed_on}
use Rattle.numbers.specs.Answers.{checked_giving}
use Rattle.numbers.specs.Chains.{after_is, after_fault, after_ends, after_refused}
use Rattle.book.proofs.check_sequent.Goals as goal

pub returns-in_err-v : goal.returns-in_err-v
unfolding sequent_at
returns-in_err-v c =
    rw (passed_on _ _ c.from_residual.ensures.1)
    (sym (
    after_fault _ _ _ _ c.in_err-v.ensures.reads))

pub returns-in_err-k : goal.returns-in_err-k
unfolding sequent_at
returns-in_err-k c =
    rw (passed_on _ _ c.from_residual-in_err-k.ensures.1)
    (sym (
    after_is _ _ _ _ c.in_ok-v.ensures.reads
    ∙ after_fault _ _ _ _ c.in_err-k.ensures.reads))

pub returns-in_err-c : goal.returns-in_err-c
unfolding sequent_at
returns-in_err-c c =
    rw (passed_on _ _ c.from_residual-in_err-c.ensures.1)
    (sym (
    after_is _ _ _ _ c.in_ok-v.ensures.reads
    ∙ after_is _ _ _ _ c.in_ok-k.ensures.reads
    ∙ after_refused _ _ _ _ c.in_err-c.ensures))

pub returns-in_err-d : goal.returns-in_err-d
unfolding sequent_at
returns-in_err-d c =
    rw (passed_on _ _ c.from_residual-in_err-d.ensures.1)
    (sym (
    after_is _ _ _ _ c.in_ok-v.ensures.reads
    ∙ after_is _ _ _ _ c.in_ok-k.ensures.reads
    ∙ after_ends _ _ _ c.in_ok-c.ensures
    ∙ after_fault _ _ _ _ c.in_err-d.ensures.reads))

pub returns : goal.returns
unfolding sequent_at
returns c =
    sym (
    after_is _ _ _ _ c.in_ok-v.ensures.reads
    ∙ after_is _ _ _ _ c.in_ok-k.ensures.reads
    ∙ after_ends _ _ _ c.in_ok-c.ensures
    ∙ after_is _ _ _ _ c.in_ok-d.ensures.reads
    ∙ checked_giving _ _
    ∙ sym c.check_disjuncts.ensures)
