-- A relation of kind 0, or a key's symbol.
use mathlib.Core.Path.{sym, ap, ◌∙◌}
use mathlib.Core.Bool.{◌&&◌}
use borrow.Author.Tests.{eq-eqb, ne_eqb}
use Rattle.texts.specs.Names.{names_in}
use Rattle.rules.specs.Sound.{has_arity}
use Rattle.sheetparts.specs.Tests.{named}
use Rattle.sheetparts.specs.Ways.{on, off}
use Rattle.sheetparts.proofs.Table.named.Goals as goal

pub returns-then-kind-eq0 : goal.returns-then-kind-eq0
unfolding named
returns-then-kind-eq0 c =
    c.related.ensures ∙ sym (on _ _ _ c.if-self.true ∙ ap (λ b. b && has_arity (names_in c.args.self.now.book.now).relations c.args.symbol c.args.n) (eq-eqb _ 0 c.if-kind-eq0.true))

pub returns-else-kind-eq0 : goal.returns-else-kind-eq0
unfolding named
returns-else-kind-eq0 c =
    let z = ne_eqb _ 0 c.if-kind-eq0.false in
    z ∙ sym (on _ _ _ c.if-self.true ∙ ap (λ b. b && has_arity (names_in c.args.self.now.book.now).relations c.args.symbol c.args.n) z)

pub returns-else-self : goal.returns-else-self
unfolding named
returns-else-self c = c.declared.ensures ∙ sym (off _ _ _ c.if-self.false)
