-- Mark, version, names.
use Rattle.std.proofs.Common.{sym, ◌∙◌}
use Rattle.texts.specs.Heads.{front_at}
use Rattle.refusals.specs.Numbers.{passed_on}
use Rattle.numbers.specs.Chains.{after_is, after_fault}
use Rattle.book.specs.Steps.{names_start}
use Rattle.book.proofs.check_front.Goals as goal

pub returns-in_err-a : goal.returns-in_err-a
unfolding front_at
returns-in_err-a c =
    rw (passed_on _ _ c.from_residual.ensures.1)
    (sym (
    after_fault _ _ _ _ c.in_err-a.ensures))

pub returns-in_err-read_version : goal.returns-in_err-read_version
unfolding front_at
returns-in_err-read_version c =
    rw (passed_on _ _ c.from_residual-in_err-read_version.ensures.1)
    (sym (
    after_is _ _ _ _ c.in_ok-a.ensures
    ∙ after_fault _ _ _ _ c.in_err-read_version.ensures))

pub returns : goal.returns
unfolding front_at
returns c =
    sym (
    after_is _ _ _ _ c.in_ok-a.ensures
    ∙ after_is _ _ _ _ c.in_ok-read_version.ensures
    ∙ names_start c.args.book.now _ _ _ _ c.in_ok-a.ensures c.in_ok-read_version.ensures
    ∙ sym c.check_names.ensures)
