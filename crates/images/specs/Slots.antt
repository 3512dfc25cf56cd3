-- The part of a pool's image that code reads and writes in place: the bytes of one slot.
-- An image is cut around the slot, what stands before it having the length that its index says.
use Rattle.std.specs.Prelude.{◌≡◌, ℕ, suc, ◌+◌, ◌*◌, ◌<◌, length, get_or, take, drop, set}
use Rattle.std.proofs.Math.Path.{sym, ap, ap₂}
use Rattle.std.proofs.Common.{◌∙◌, arith, length-append, take_at, drop_at, drop-drop}
use mathlib.Core.List.{List, ◌++◌, map, append_assoc}
use Rattle.base.specs.Lists.{flat}
use Rattle.base.specs.ListLaws.{all_get_d}
use Rattle.rules.specs.Reading.{Bytes}
use Rattle.rules.specs.Sheet.{Sheet, blank, Limits}
use Rattle.rules.specs.Pool.{State}
use Rattle.rules.specs.Image.{sheet_bytes, pool_head, pool_bytes, head_size, sheet_size}
use Rattle.images.specs.Regions.{table_before, table_split, table_set}
use Rattle.images.specs.Storable.{StorableSheet, StorableState}
use Rattle.images.specs.Sheets.{sheet_length}
use Rattle.images.specs.Pools.{head_length}

module _ (lim : Limits) (s : State) (st : StorableState lim s) (i : ℕ) (h : i < length s.slots) where
  -- What stands before the slot, and behind it.
  abbrev before : Bytes
  before = pool_head s ++ flat (map (sheet_bytes lim) (take i s.slots))

  abbrev behind : Bytes
  behind = flat (map (sheet_bytes lim) (drop (suc i) s.slots))

  abbrev here : Bytes
  here = sheet_bytes lim (get_or s.slots i blank)

  abbrev start : ℕ
  start = head_size + sheet_size lim * i

  before_length : length before ≡ start
  before_length =
      length-append (pool_head s) _ ∙ ap₂ (λ a b. a + b) (head_length lim s st)
      (table_before (sheet_size lim) (StorableSheet lim) (sheet_bytes lim) (sheet_length lim) s.slots i (omega arith) st.slots)

  here_length : length here ≡ sheet_size lim
  here_length = sheet_length lim (get_or s.slots i blank) (all_get_d (StorableSheet lim) s.slots i blank h st.slots)

  cut : pool_bytes lim s ≡ before ++ (here ++ behind)
  unfolding pool_bytes
  cut = ap (λ (l : Bytes). pool_head s ++ l) (table_split (sheet_bytes lim) s.slots i blank h) ∙ sym (append_assoc (pool_head s) _ _)

  up_to_slot : take start (pool_bytes lim s) ≡ before
  up_to_slot = ap (take start) cut ∙ take_at before (here ++ behind) start before_length

  from_slot : drop start (pool_bytes lim s) ≡ here ++ behind
  from_slot = ap (drop start) cut ∙ drop_at before (here ++ behind) start before_length

  past_slot : drop (start + sheet_size lim) (pool_bytes lim s) ≡ behind
  past_slot = sym (drop-drop (sheet_size lim) start (pool_bytes lim s)) ∙ ap (drop (sheet_size lim)) from_slot ∙ drop_at here behind (sheet_size lim) here_length

  pub slot_part_lem : take (sheet_size lim) (drop (head_size + sheet_size lim * i) (pool_bytes lim s)) ≡ sheet_bytes lim (get_or s.slots i blank)
  slot_part_lem = ap (take (sheet_size lim)) from_slot ∙ take_at here behind (sheet_size lim) here_length

  -- A state with the same head and another sheet in that slot.
  pub slot_set : (x : Sheet) (t : State) → pool_head t ≡ pool_head s → t.slots ≡ set s.slots i x
      → pool_bytes lim t ≡ take (head_size + sheet_size lim * i) (pool_bytes lim s) ++ sheet_bytes lim x
      ++ drop (head_size + sheet_size lim * i + sheet_size lim) (pool_bytes lim s)
  unfolding pool_bytes
  slot_set x t e q =
      ap₂ (λ (a : Bytes) (l : List Sheet). a ++ flat (map (sheet_bytes lim) l)) e q
      ∙ ap (λ (l : Bytes). pool_head s ++ l) (table_set (sheet_bytes lim) s.slots i x h)
      ∙ sym (append_assoc (pool_head s) _ _) ∙ sym (append_assoc before (sheet_bytes lim x) behind)
      ∙ ap₂ (λ (a b : Bytes). a ++ sheet_bytes lim x ++ b) (sym up_to_slot) (sym past_slot)
