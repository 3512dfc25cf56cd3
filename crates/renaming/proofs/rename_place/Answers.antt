-- The two parts are in order, and together they are the table renamed.
use Rattle.std.proofs.Common.{◌≡◌, arith, ◌∙◌, ◌-◌, length, take, length-take-le}
use Rattle.renaming.specs.Table.{stayed_sorted, gone_sorted, parts_made}
use Rattle.renaming.proofs.rename_place.Goals as goal

pub bring_back-requires : goal.bring_back-requires
bring_back-requires c =
    let q = c.set_apart-gone.ensures in
    let g = c.set_apart-gone.result in
    let w : length (take g c.set_apart-gone.new.spare) ≡ g = length-take-le g c.set_apart-gone.new.spare (omega (arith, c.requires.0, q.fewer)) in
    (omega (arith, q.fewer), (stayed_sorted c.args.p c.args.r.stays c.args.r.goes g _ c.args.table.now _ _ c.requires.1.1.1 q (omega arith), gone_sorted c.args.p c.args.r.stays c.args.r.goes g (length c.args.table.now - g) c.args.table.now _ _ c.requires.1.1.1 q (omega arith)))

pub returns : goal.returns
returns c =
    let q = c.set_apart-gone.ensures in
    let g = c.set_apart-gone.result in
    let w : length (take g c.set_apart-gone.new.spare) ≡ g = length-take-le g c.set_apart-gone.new.spare (omega (arith, c.requires.0, q.fewer)) in
    c.bring_back.ensures ∙ parts_made c.args.p c.args.r.stays c.args.r.goes g _ c.args.table.now _ _ c.requires.1.1.1 q (omega arith)
