-- The counts, then the arities that they count.
use Rattle.std.proofs.Common.{sym, ap, ◌∙◌}
use Rattle.rules.specs.Reading.{many, ranged}
use Rattle.texts.specs.Names.{nums, functions_count, relations_count, witnesses_count}
use Rattle.texts.specs.Heads.{arities_at}
use Rattle.refusals.specs.Numbers.{passed_on}
use Rattle.numbers.specs.Answers.{checked, checked_giving}
use Rattle.numbers.specs.Chains.{after_ends, after_refused}
use Rattle.book.specs.Steps.{names_counted, names_refused}
use Rattle.book.proofs.check_names.Goals as goal

pub returns-in_err-e : goal.returns-in_err-e
returns-in_err-e c = rw (passed_on _ _ c.from_residual.ensures.1) (sym (names_refused c.args.book.now _ _ c.in_err-e.ensures))

pub returns-in_err-g : goal.returns-in_err-g
unfolding arities_at nums
returns-in_err-g c =
    let s = c.args.book.now in
    rw (passed_on _ _ c.from_residual-in_err-g.ensures.1)
    (sym (
    names_counted s _ c.in_ok-e.ensures
    ∙ after_refused _ _ _ _ (c.in_err-g.ensures ∙ ap (λ k. checked (many k (ranged 0 4 s) c.in_ok-e.e)) (c.functions.ensures.0 ∙ functions_count s))))

pub returns-in_err-h : goal.returns-in_err-h
unfolding arities_at nums
returns-in_err-h c =
    let s = c.args.book.now in
    rw (passed_on _ _ c.from_residual-in_err-h.ensures.1)
    (sym (
    names_counted s _ c.in_ok-e.ensures
    ∙ after_ends _ _ _ (c.in_ok-g.ensures ∙ ap (λ k. checked (many k (ranged 0 4 s) c.in_ok-e.e)) (c.functions.ensures.0 ∙ functions_count s))
    ∙ after_refused _ _ _ _ (c.in_err-h.ensures ∙ ap (λ k. checked (many k (ranged 0 4 s) c.in_ok-g.g)) (c.relations.ensures.0 ∙ relations_count s))))

pub returns : goal.returns
unfolding arities_at nums
returns c =
    let s = c.args.book.now in
    sym (
    names_counted s _ c.in_ok-e.ensures
    ∙ after_ends _ _ _ (c.in_ok-g.ensures ∙ ap (λ k. checked (many k (ranged 0 4 s) c.in_ok-e.e)) (c.functions.ensures.0 ∙ functions_count s))
    ∙ after_ends _ _ _ (c.in_ok-h.ensures ∙ ap (λ k. checked (many k (ranged 0 4 s) c.in_ok-g.g)) (c.relations.ensures.0 ∙ relations_count s))
    ∙ checked_giving _ _
    ∙ sym (c.check_ranges-4.ensures ∙ ap (λ k. checked (many k (ranged 1 4 s) c.in_ok-h.h)) (c.function_witnesses.ensures.0 ∙ witnesses_count s)))
