use native.Mathlib.Omega.{arith}
use Rattle.limits.specs.Limits.{limits_of}
use Rattle.enter.specs.Marks.{meant_element, meant_large, meant_witness}
use Rattle.enter.proofs.record_meaning.Goals as goal

pub returns-then-x-lt256 : goal.returns-then-x-lt256
returns-then-x-lt256 c =
    meant_element (limits_of c.args.limits) c.args.x c.args.w.now c.requires c.if-x-lt256.true _ c.now_of.ensures.0

pub returns-then-x-ge-KEY_END : goal.returns-then-x-ge-KEY_END
returns-then-x-ge-KEY_END c =
    meant_large (limits_of c.args.limits) c.args.x c.args.w.now c.requires c.if-x-ge-KEY_END.true

pub returns : goal.returns
returns c =
    meant_witness (limits_of c.args.limits) c.args.x c.args.w.now c.requires (omega arith) _ _ _ c.resolve-q.ensures.0 c.record_key.ensures
