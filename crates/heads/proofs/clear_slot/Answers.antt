use native.Mathlib.Omega.{arith}
use borrow.Rule.Slice.PartMut.{mid_of, mid_len}
use mathlib.Core.Path.{◌≡◌, ap, ap₂, ◌∙◌}
use Prim.Native.Nat.{◌+◌, ◌-◌}
use lib.ListN.{length, replicate}
use Rattle.octets.specs.Patch.{patched, patched_lent}
use Rattle.heads.proofs.clear_slot.Goals as goal

pub returns : goal.returns
returns c =
    let size = c.slot_size.result in
    let at = c.slot_at-a.result in
    let k : length (mid_of at (at + size - at) c.args.pool.now) ≡ size = mid_len at (at + size) c.args.pool.now (omega arith) ∙ omega arith in
    patched_lent at size _ _ c.args.pool.now (omega arith) c.clear.auto.s (c.clear.ensures ∙ ap (λ j. replicate j 0) k)
    ∙ ap₂ (λ a n. patched a (replicate n 0) c.args.pool.now) c.slot_at-a.ensures c.slot_size.ensures
