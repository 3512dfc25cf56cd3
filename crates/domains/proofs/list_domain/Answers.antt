-- The numbers listed so far are the first appearances among the values passed.
use native.Mathlib.Omega.{arith}
use mathlib.Core.Path.{refl, sym, ◌∙◌}
use Rattle.domains.specs.Firsts.{listed_none, listed_old, listed_new}
use Rattle.domains.proofs.list_domain.Goals.{then-not-known, else-not-known}
use Rattle.domains.proofs.list_domain.Goals as goal

pub loop-x-init : goal.loop-x-init
loop-x-init c = record { below = omega arith; as_long = refl; listed = listed_none c.args.keys.now c.args.dom.now }

pub loop-x-preserved : goal.loop-x-preserved
loop-x-preserved c =
    let i = c.loop-x.invariant in
    elim c.if-not-known.branch [
      | then-not-known w ↦
          let l = listed_new c.args.keys.now c.loop-x.x-index c.loop-x.dom c.loop-x.nd (omega arith) i.listed (omega arith) (rw c.value-e.ensures.0 at (sym w.if-not-known.true ∙ c.known.ensures)) in
          record { below = omega arith; as_long = omega arith; listed = rw (w.dom-is, w.nd-is, c.value-e.ensures.0) l }
      | else-not-known w ↦
          let l = listed_old c.args.keys.now c.loop-x.x-index c.loop-x.dom c.loop-x.nd (omega arith) i.listed (rw c.value-e.ensures.0 at (sym w.if-not-known.false ∙ c.known.ensures)) in
          record { below = omega arith; as_long = omega arith; listed = rw (w.dom-is, w.nd-is) l }
    ]
