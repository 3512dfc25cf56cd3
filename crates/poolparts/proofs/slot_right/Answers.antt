-- A free slot, a slot named once, and any other.
use mathlib.Core.Path.{sym, ap, ◌∙◌}
use mathlib.Core.Bool.{◌&&◌}
use native.Mathlib.Omega.{arith}
use borrow.Author.Tests.{eq-eqb, ne_eqb}
use Rattle.texts.specs.Names.{names_in}
use Rattle.poolparts.specs.Tests.{held_right, slot_right}
use Rattle.sheetparts.specs.Ways.{on, off}
use Rattle.poolparts.proofs.slot_right.Goals as goal

pub returns-in-0 : goal.returns-in-0
unfolding slot_right
returns-in-0 c = let e = c.listed.ensures in rw c.slot_at.ensures at c.zeros.ensures ∙ sym (on _ _ _ (eq-eqb _ 0 (omega arith)))

pub returns-in-1 : goal.returns-in-1
unfolding slot_right
returns-in-1 c =
    let e = c.listed.ensures in
    c.held_right.ensures ∙ sym (off _ _ _ (ne_eqb _ 0 (λ z. omega arith)) ∙ ap (λ b. b && held_right (names_in c.args.book.now) c.args.places c.args.p.now c.args.i) (eq-eqb _ 1 (omega arith)))

pub returns-in_default : goal.returns-in_default
unfolding slot_right
returns-in_default c =
    let e = c.listed.ensures in
    sym (off _ _ _ (ne_eqb _ 0 (λ z. omega arith)) ∙ ap (λ b. b && held_right (names_in c.args.book.now) c.args.places c.args.p.now c.args.i) (ne_eqb _ 1 (λ z. omega arith)))
