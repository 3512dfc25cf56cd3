use Rattle.limits.specs.Limits.{limits_of}
use Rattle.enter.specs.Marks.{recorded_large, recorded_put}
use Rattle.enter.proofs.record_key.Goals as goal

pub returns-then-q-ge-KEY_END : goal.returns-then-q-ge-KEY_END
returns-then-q-ge-KEY_END c =
    recorded_large (limits_of c.args.limits) c.args.q c.args.w.now c.requires c.if-q-ge-KEY_END.true

pub returns : goal.returns
returns c =
    recorded_put (limits_of c.args.limits) c.args.q c.args.w.now _ _ (rw c.depth_over-d.ensures at c.put_key.ensures)
