-- The four regions, the two counts, and what they say together.
use mathlib.Core.Path.{◌≡◌, sym, subst, refl}
use native.Mathlib.Omega.{arith}
use mathlib.Core.List.{map}
use Rattle.std.proofs.Common.{◌+◌, ◌-◌, get_or, length, take, length-take-le}
use borrow.Author.Rules.{rules}
use borrow.Rule.Slice.PartMut.{mid_len}
use Rattle.rules.specs.Image.{part}
use Rattle.rules.specs.Merge.{merge_depths}
use Rattle.packing.specs.Replace.{replaced}
use Rattle.renaming.specs.Order.{Sorted}
use Rattle.limits.specs.Limits.{limits_of, keys_at, depths_at, history_at}
use Rattle.joining.specs.Leaf.{JoinedKeys}
use Rattle.joining.specs.Lent.{lent}
use Rattle.merge.specs.Regions.{part_sorted}
use Rattle.merge.specs.Into.{keys_room, facts_lent, keys₁, into_made}
use Rattle.merge.proofs.merge_into.Goals as goal

pub join_facts-left-requires : goal.join_facts-left-requires
unfolding part
join_facts-left-requires c =
    let g = c.requires.0 in
    let o = c.requires.1.0 in
    let keys = get_or c.args.w.now 3 0 in
    let facts = get_or c.args.w.now 4 0 in
    let r = c.split_at_mut-front.ensures in
    let z : length (take facts c.split_at_mut-front.result.1.now) ≡ facts = length-take-le facts c.split_at_mut-front.result.1.now (omega (arith, r.back_len, g.size, g.facts)) in
    let m = mid_len (5 + keys) (5 + keys + facts) c.split_at_mut-front.result.0.now (omega (arith, r.front_len, g.keys, g.facts, o.even)) in
    (omega (arith, z, m), (c.requires.1.1.1.1, subst (λ x. Sorted (take facts x)) (sym (rw c.facts_at-f.ensures at r.back)) o.facts))

pub join_keys-ends-requires : goal.join_keys-ends-requires
join_keys-ends-requires c =
    let lim = limits_of c.args.limits in
    let g = c.requires.0 in
    let o = c.requires.1.0 in
    let keys = get_or c.args.w.now 3 0 in
    let r = c.split_at_mut-front.ensures in
    let f = facts_lent lim c.args.r.stays c.args.r.goes c.join_facts-left.result c.args.w.now g o c.facts_at-f.result _ _ _ c.join_facts-left.new.table c.join_facts-left.new.spare c.facts_at-f.ensures (omega arith) r.front r.back c.join_facts-left.auto.table c.join_facts-left.auto.spare c.join_facts-left.ensures in
    let k = part_sorted keys_at (keys_room lim) keys (c.facts_at-f.result - 5) _ (omega arith) (omega (arith, g.keys)) (subst Sorted (sym (keys₁ lim c.args.r.stays c.args.r.goes _ c.args.w.now _ g o f)) o.keys) in
    (omega (arith, g.keys, c.requires.1.1.0), (search rules, (c.requires.1.1.1.1, k)))

pub returns : goal.returns
returns c =
    let lim = limits_of c.args.limits in
    let g = c.requires.0 in
    let o = c.requires.1.0 in
    let s = c.args.r.stays in
    let l = c.args.r.goes in
    let created = get_or c.args.w.now 2 0 in
    let ends = c.join_keys-ends.result in
    let r = c.split_at_mut-front.ensures in
    let f = facts_lent lim s l c.join_facts-left.result c.args.w.now g o c.facts_at-f.result _ _ _ c.join_facts-left.new.table c.join_facts-left.new.spare c.facts_at-f.ensures (omega arith) r.front r.back c.join_facts-left.auto.table c.join_facts-left.auto.spare c.join_facts-left.ensures in
    let k = lent (λ t u. JoinedKeys s l (get_or c.args.w.now 3 0) c.args.top t ends.count ends.top u) keys_at (keys_room lim) keys_at (c.facts_at-f.result - 5) _ c.join_keys-ends.new.t c.join_keys-ends.auto.t c.join_keys-ends.ensures refl (omega arith) (omega (arith, g.size, f.elsewhere.size)) in
    let d = lent (λ t u. u ≡ merge_depths s l t) (depths_at lim) created c.depths_at-d.result (c.depths_at-d.result + created - c.depths_at-d.result) _ c.join_depths.new.t c.join_depths.auto.t c.join_depths.ensures c.depths_at-d.ensures (omega arith) (omega (arith, g.size, g.created, f.elsewhere.size, k.kept.size)) in
    let h = lent (λ t u. u ≡ map (replaced s l) t) (history_at lim) lim.elements c.history_at-h.result (c.history_at-h.result + lim.elements - c.history_at-h.result) _ c.rename_all.new.t c.rename_all.auto.t c.rename_all.ensures c.history_at-h.ensures (omega arith) (omega (arith, g.size, f.elsewhere.size, k.kept.size, d.kept.size)) in
    into_made lim s l c.args.top _ _ _ c.args.w.now _ _ _ _ g o c.requires.1.1.0 c.requires.1.1.1.0 f k d h
