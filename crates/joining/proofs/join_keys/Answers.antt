-- Both ends of the slice are renamed before the keys are filed anew.
use Rattle.std.proofs.Common.{◌≡◌, arith, sym, subst, length, take, length-take-le, rules}
use Rattle.packing.specs.Replace.{replaced}
use Rattle.renaming.specs.Order.{Sorted}
use Rattle.joining.specs.Leaf.{keys_sorted, joined_keys}
use Rattle.joining.specs.Windows.{through_front}
use Rattle.joining.proofs.join_keys.Goals as goal

pub rename_table-requires : goal.rename_table-requires
rename_table-requires c =
    let r = c.split_at_mut-table.ensures in
    let z : length (take c.args.ends.count c.split_at_mut-table.result.1.now) ≡ c.args.ends.count = length-take-le c.args.ends.count c.split_at_mut-table.result.1.now (omega arith) in
    (omega (arith, r.front_len), (c.requires.1.1.0, subst Sorted (sym r.front) c.requires.1.1.1))

pub refile-requires : goal.refile-requires
refile-requires c =
    let r = c.split_at_mut-table.ensures in
    let u = through_front (replaced c.args.r.stays c.args.r.goes) c.args.ends.count c.args.t.now _ _ c.rename_table.new.table c.rename_table.new.spare (omega arith) r.front r.back c.rename_table.auto.table c.rename_table.auto.spare c.rename_table.ensures in
    (c.requires.0, (search rules, keys_sorted c.args.r.stays c.args.r.goes c.args.ends.count c.args.ends.top _ c.args.t.now _ c.requires.0 c.requires.1.0 (omega (arith, u.elsewhere.size)) u _ c.rename_all.ensures))

pub returns : goal.returns
returns c =
    let r = c.split_at_mut-table.ensures in
    let u = through_front (replaced c.args.r.stays c.args.r.goes) c.args.ends.count c.args.t.now _ _ c.rename_table.new.table c.rename_table.new.spare (omega arith) r.front r.back c.rename_table.auto.table c.rename_table.auto.spare c.rename_table.ensures in
    joined_keys c.args.r.stays c.args.r.goes c.args.ends.count c.args.ends.top _ c.args.t.now _ c.requires.0 c.requires.1.0 (omega (arith, u.elsewhere.size)) u _ c.rename_all.ensures _ _ _ c.refile.ensures
