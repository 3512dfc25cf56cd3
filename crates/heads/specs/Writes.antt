-- A sheet written into its slot: the image of the state that has it there.
use Rattle.std.specs.Prelude.{◌≡◌, refl, ℕ, ◌+◌, ◌*◌, ◌<◌, ◌++◌, length, take, drop, set}
use Rattle.std.proofs.Common.{sym, ap, ◌∙◌}
use Rattle.rules.specs.Sheet.{Sheet, Limits}
use Rattle.rules.specs.Pool.{State, changed}
use Rattle.rules.specs.Image.{pool_head, pool_bytes, sheet_bytes, head_size, sheet_size}
use Rattle.images.specs.Storable.{StorableSheet, StorableState}
use Rattle.images.specs.Sheets.{sheet_length}
use Rattle.images.specs.Slots.{slot_set}
use Rattle.octets.specs.Patch.{patched}

pub slot_written : (lim : Limits) (s : State) (i : ℕ) (x : Sheet) → StorableState lim s → i < length s.slots → StorableSheet lim x
    → patched (head_size + sheet_size lim * i) (sheet_bytes lim x) (pool_bytes lim s)
    ≡ pool_bytes lim (changed s s.next s.waiting s.complete s.bounded (set s.slots i x))
unfolding patched changed pool_head
slot_written lim s i x st h sx =
    ap (λ n. take (head_size + sheet_size lim * i) (pool_bytes lim s) ++ sheet_bytes lim x ++ drop (head_size + sheet_size lim * i + n) (pool_bytes lim s)) (sheet_length lim x sx)
    ∙ sym (slot_set lim s st i h x (changed s s.next s.waiting s.complete s.bounded (set s.slots i x)) refl refl)
