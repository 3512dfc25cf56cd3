-- Behind the function's number: 8 at the last level with arguments, else its arguments.
use Rattle.std.proofs.Common.{arith, ap, sym, ◌∙◌}
use Rattle.rules.specs.Reading.{declared, and_then}
use Rattle.texts.specs.Names.{names_in}
use Rattle.refusals.specs.Numbers.{passed_on}
use Rattle.terms.specs.Head.{args_at, app_fault, app_deep, app_goes}
use Rattle.terms.proofs.application.Goals as goal
use Rattle.terms.proofs.application.Goals.{else-deeper-eq0-via-then-deeper-eq0+else-arity-gt0, else-deeper-eq0-via-else-deeper-eq0}

pub returns-in_err-f : goal.returns-in_err-f
unfolding and_then
returns-in_err-f c =
    rw (passed_on _ _ c.from_residual.ensures.1)
    (app_fault c.args.deeper (names_in c.args.book.now) c.args.v c.args.book.now c.args.at _ _
    (c.in_err-f.ensures ∙ ap (λ k. declared k c.args.book.now c.args.at) c.functions.ensures.0))

pub returns-then-arity-gt0 : goal.returns-then-arity-gt0
unfolding and_then
returns-then-arity-gt0 c =
    let k = c.function_arity-arity.ensures.0 in
    rw c.refuse.ensures
    (app_deep c.args.deeper (names_in c.args.book.now) c.args.v c.args.book.now c.args.at _ _
    (c.in_ok-f.ensures ∙ ap (λ k. declared k c.args.book.now c.args.at) c.functions.ensures.0) c.if-deeper-eq0.true (omega arith))

pub returns : goal.returns
unfolding and_then
returns c =
    let k = c.function_arity-arity.ensures.0 in
    app_goes c.args.deeper (names_in c.args.book.now) c.args.v c.args.book.now c.args.at _ _
    (c.in_ok-f.ensures ∙ ap (λ k. declared k c.args.book.now c.args.at) c.functions.ensures.0)
    (λ z a. elim c.else-deeper-eq0.branch [
      | else-deeper-eq0-via-then-deeper-eq0+else-arity-gt0 w ↦ omega arith
      | else-deeper-eq0-via-else-deeper-eq0 w ↦ omega arith
    ])
    ∙ ap (λ k. args_at c.args.deeper (names_in c.args.book.now) c.args.v c.args.book.now k c.in_ok-f.e) (sym k)
