-- Each part that is lent is what the form shows.
use native.Mathlib.Omega.{arith}
use mathlib.Core.Path.{ap, ◌∙◌}
use Rattle.limits.specs.Limits.{limits_of}
use Rattle.octets.specs.Patch.{patched}
use Rattle.sheets.specs.Parts.{part_lent}
use Rattle.slots.specs.Store.{head_counted, table_bytes, depth_bytes, stored}
use Rattle.slots.proofs.store_sheet.Goals as goal

pub returns : goal.returns
unfolding table_bytes depth_bytes
returns c =
    stored (limits_of c.args.limits) c.args.w.now c.args.slot.now _ _ _ _ c.requires.0 c.requires.1
    (c.store_head.ensures ∙ ap (λ h. patched 0 h c.args.slot.now) (head_counted c.args.w.now (omega arith))) (rw part_lent at c.store_words.ensures)
    (rw (part_lent, c.facts_at-f.ensures, c.slot_facts_at.ensures) at c.store_words-2.ensures)
    (rw (part_lent, c.depths_at-d.ensures, c.slot_depths_at.ensures) at c.store_bytes.ensures)
