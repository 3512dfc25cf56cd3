-- After each place the table is in order, renamed at the places so far; all weights are some.
use Rattle.std.proofs.Common.{◌≡◌, ◌<◌, arith, refl, subst}
use Rattle.base.specs.ListLaws.{all_get_d}
use Rattle.renaming.specs.declared.TheConstants.{WEIGHTS}
use Rattle.renaming.specs.Table.{Renaming, renaming_start, renaming_sorted, renaming_next, renaming_end}
use Rattle.renaming.proofs.rename_table.Goals as goal

pub loop-p-init : goal.loop-p-init
loop-p-init c = renaming_start c.args.r.stays c.args.r.goes WEIGHTS c.args.table.now c.requires.1.1

pub rename_place-requires : goal.rename_place-requires
rename_place-requires c = (
  omega (arith, c.requires.0),
  (
    all_get_d (λ y. 0 < y) WEIGHTS c.loop-p.p-index 0 (omega arith) (omega arith, (omega arith, (omega arith, (omega arith, (omega arith, tt))))),
    (omega (arith, c.requires.1.0), renaming_sorted c.args.r.stays c.args.r.goes WEIGHTS c.args.table.now c.requires.1.1 c.loop-p.p-index c.loop-p.table c.loop-p.invariant),
  ),
)

pub loop-p-preserved : goal.loop-p-preserved
loop-p-preserved c =
    renaming_next c.args.r.stays c.args.r.goes WEIGHTS c.args.table.now c.requires.1.1 c.loop-p.p-index _ c.loop-p.table _ (omega arith) refl c.loop-p.invariant c.rename_place.ensures

pub returns : goal.returns
returns c =
    let e : c.loop-p.p-index ≡ 5 = omega arith in
    renaming_end c.args.r.stays c.args.r.goes c.args.table.now c.loop-p.table c.requires.1.0 c.args.r.octet
    (subst (λ i. Renaming c.args.r.stays c.args.r.goes WEIGHTS i c.args.table.now c.loop-p.table) e c.loop-p.invariant)
