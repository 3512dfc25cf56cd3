-- Only an application has terms below it.
use Rattle.skips.specs.Terms.{below_some, below_none}
use Rattle.texts.specs.Names.{names_in}
use lib.ListN.{get_or}
use mathlib.Core.Path.{sym, ap, ◌∙◌}
use native.Mathlib.Omega.{arith}
use Rattle.skips.proofs.below.Goals as goal

pub returns-then-num16-eq2 : goal.returns-then-num16-eq2
returns-then-num16-eq2 c = (
  c.function_arity.ensures.0 ∙ ap (λ k. get_or (names_in c.args.s.now.book.now).functions k 0) c.num16-then-num16-eq2.ensures.0
      ∙ sym (below_some (names_in c.args.s.now.book.now) c.args.s.now.bytes.now c.args.at (sym c.num16.ensures.0 ∙ c.if-num16-eq2.true)),
  c.function_arity.ensures.1,
)

pub returns : goal.returns
returns c =
    (sym (below_none (names_in c.args.s.now.book.now) c.args.s.now.bytes.now c.args.at (λ z. c.if-num16-eq2.false (c.num16.ensures.0 ∙ z))), omega arith)
