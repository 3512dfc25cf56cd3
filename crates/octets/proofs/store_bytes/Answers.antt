-- The bytes that were passed stand as one patch, and zeros fill the rest of the room.
use Rattle.std.proofs.Common.{arith, sym, ◌∙◌, ◌+◌}
use Rattle.base.specs.Lists.{flat}
use Rattle.octets.specs.Patch.{patched_none, patched_one, patched_more, patched_table}
use Rattle.octets.specs.Words.{octet, octet_length}
use Rattle.octets.proofs.store_bytes.Goals as goal

pub loop-i-init : goal.loop-i-init
unfolding flat
loop-i-init c = sym (patched_none c.args.at c.args.s.now)

pub loop-i-preserved : goal.loop-i-preserved
unfolding octet
loop-i-preserved c =
    patched_one c.loop-i.s (c.args.at + c.loop-i.i) _ (omega arith)
    ∙ rw c.loop-i.invariant (patched_more 1 octet octet_length c.args.at c.args.t.now c.args.s.now c.loop-i.i (c.args.at + c.loop-i.i) (omega arith) (omega arith) (omega arith))

pub returns : goal.returns
returns c =
    patched_table 1 octet octet_length c.args.at c.args.room _ _ c.loop-i.i c.args.t.now c.args.s.now c.loop-i.s c.fill.new.self
    (omega arith) (omega arith) (omega arith) c.loop-i.invariant (omega arith) (omega arith) (c.fill.ensures.after (λ y e. e))
