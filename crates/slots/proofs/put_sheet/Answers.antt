use mathlib.Core.Path.{ap, ◌∙◌}
use native.Mathlib.Omega.{arith}
use Rattle.limits.specs.Limits.{limits_of}
use Rattle.sheets.specs.Form.{view_of}
use Rattle.octets.specs.Patch.{patched, patched_lent}
use Rattle.slots.specs.Store.{view_bytes}
use Rattle.slots.proofs.put_sheet.Goals as goal

pub returns : goal.returns
returns c =
    patched_lent c.slot_at-a.result c.slot_size.result _ _ c.args.pool.now (omega arith) c.store_sheet.auto.slot c.store_sheet.ensures
    ∙ ap (λ a. patched a (view_bytes (limits_of c.args.limits) (view_of (limits_of c.args.limits) c.args.w.now)) c.args.pool.now) c.slot_at-a.ensures
