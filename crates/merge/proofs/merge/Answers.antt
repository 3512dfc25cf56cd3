-- The pair alone at the end of its room, then all pairs, then the depths.
use Rattle.std.proofs.Common.{◌≡◌, ◌+◌, ◌-◌, arith, get_or, ◌∙◌, length-take-le}
use Rattle.limits.specs.Limits.{limits_of, keys_at}
use Rattle.merge.specs.Merged.{first_stacked, merged_made}
use Rattle.merge.specs.Regions.{lowered_cut}
use Rattle.merge.proofs.merge.Goals as goal

pub merge_all-requires : goal.merge_all-requires
merge_all-requires c =
    let e : c.keys_room-start.result - 1 ≡ c.args.limits.keys + c.args.limits.keys = omega arith in
    rw e (first_stacked (limits_of c.args.limits) c.args.a c.args.b c.args.w.now c.requires.0 c.requires.1.0)

pub returns : goal.returns
returns c =
    let e : c.keys_room-start.result - 1 ≡ c.args.limits.keys + c.args.limits.keys = omega arith in
    let w = c.merge_all.new.w in
    let g = c.merge_all.ensures.formed in
    let l = lowered_cut keys_at (get_or w 3 0) c.depths_at.result (get_or w 2 0) _ w _ _ c.lower.new.depths (omega arith) (omega arith) c.split_at_mut-front.ensures.front c.split_at_mut-front.ensures.back (omega arith) (c.lower.auto.depths ∙ length-take-le (get_or w 2 0) c.split_at_mut-front.result.1.now (omega arith)) c.lower.ensures in
    merged_made (limits_of c.args.limits) c.args.a c.args.b c.requires.1.1.0 c.requires.1.1.1 c.args.w.now c.requires.0 _ _ (rw e at c.merge_all.ensures) (rw c.depths_at.ensures at l)
