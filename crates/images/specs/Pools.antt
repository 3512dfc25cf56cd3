-- The image of a pool has its length, which tells the number of slots, and is read back.
-- As with a sheet: the counts of the head compute, the three lists and the table of slots are regions.
use Rattle.std.specs.Prelude.{◌≡◌, ℕ, ◌+◌, ◌*◌, ◌/◌, ◌≤◌, length, drop}
use Rattle.std.proofs.Math.Path.{sym, ap, ap₂}
use Rattle.std.proofs.Common.{◌∙◌, length-append, drop_at}
use Rattle.std.proofs.Math.Nat.{add-sub_cancel_left, mul-div_cancel_left}
use native.Mathlib.Omega.{arith}
use mathlib.Core.List.{[], ◌++◌, map, append_assoc, append-nil}
use Rattle.std.proofs.Math.ListN.{take}
use Rattle.base.specs.Lists.{flat}
use Rattle.rules.specs.Reading.{Bytes, num}
use Rattle.rules.specs.Sheet.{Limits}
use Rattle.rules.specs.Pool.{State}
use Rattle.rules.specs.Image.{word, long, padded, sheet_bytes, pool_mark, most_slots, pool_head, pool_bytes, head_size, sheet_size, slots_in, part, parts, sheet_in, list_in, pool_in}
use Rattle.images.specs.Regions.{padded_length, padded_back, padded_next, table_length, table_back}
use Rattle.images.specs.Storable.{SmallLimits, StorableSheet, StorableState}
use Rattle.images.specs.Sheets.{sheet_length, sheet_back}

-- ---- lengths

pub head_length : (lim : Limits) (s : State) → StorableState lim s → length (pool_head s) ≡ head_size
unfolding pool_head pool_mark long word head_size most_slots
head_length lim s st =
    let w = padded_length 64 s.waiting st.waiting in
    let c = padded_length 64 s.complete st.complete in
    let b = padded_length 64 s.bounded st.bounded in
    simp length-append (omega arith)

pub pool_length : (lim : Limits) (s : State) → StorableState lim s → length (pool_bytes lim s) ≡ head_size + sheet_size lim * length s.slots
unfolding pool_bytes
pool_length lim s st =
    length-append (pool_head s) (flat (map (sheet_bytes lim) s.slots))
    ∙ ap₂ (λ a b. a + b) (head_length lim s st) (table_length (sheet_size lim) (StorableSheet lim) (sheet_bytes lim) (sheet_length lim) s.slots st.slots)

-- How many slots such a length has room for.
pub slots_in_lem : (lim : Limits) (n : ℕ) → slots_in lim (head_size + sheet_size lim * n) ≡ n
unfolding slots_in sheet_size
slots_in_lem lim n = ap (λ k. k / sheet_size lim) (add-sub_cancel_left head_size (sheet_size lim * n)) ∙ mul-div_cancel_left n (omega arith)

pub pool_slots : (lim : Limits) (s : State) → StorableState lim s → slots_in lim (length (pool_bytes lim s)) ≡ length s.slots
pool_slots lim s st = ap (slots_in lim) (pool_length lim s st) ∙ slots_in_lem lim (length s.slots)

-- ---- reading back

module _ (lim : Limits) (small : SmallLimits lim) (s : State) (st : StorableState lim s) where
  abbrev image : Bytes
  image = pool_bytes lim s

  abbrev table : Bytes
  table = flat (map (sheet_bytes lim) s.slots)

  abbrev from_bounded : Bytes
  from_bounded = padded most_slots s.bounded ++ table

  abbrev from_complete : Bytes
  from_complete = padded most_slots s.complete ++ from_bounded

  at_waiting : drop 16 image ≡ padded most_slots s.waiting ++ from_complete
  unfolding pool_bytes pool_head pool_mark long word
  at_waiting = simp append_assoc

  at_complete : drop 80 image ≡ from_complete
  unfolding most_slots
  at_complete = padded_next 16 64 image s.waiting from_complete st.waiting at_waiting

  at_bounded : drop 144 image ≡ from_bounded
  unfolding most_slots
  at_bounded = padded_next 80 64 image s.complete from_bounded st.complete at_complete

  list_back : (at : ℕ) (xs rest : Bytes) → length xs ≤ most_slots → drop at image ≡ padded most_slots xs ++ rest → list_in at (length xs) image ≡ xs
  unfolding list_in part
  list_back at xs rest h e = ap (λ (l : Bytes). take (length xs) (take most_slots l)) e ∙ padded_back most_slots xs rest h

  next_back : num image 8 + 65536 * num image 10 ≡ s.next
  unfolding num pool_bytes pool_head pool_mark long word
  next_back = omega arith

  slots_back : map (sheet_in lim) (parts (sheet_size lim) (slots_in lim (length image)) (drop head_size image)) ≡ s.slots
  unfolding pool_bytes
  slots_back =
      ap₂ (λ (n : ℕ) (l : Bytes). map (sheet_in lim) (parts (sheet_size lim) n l)) (pool_slots lim s st)
      (drop_at (pool_head s) table head_size (head_length lim s st) ∙ sym (append-nil table))
      ∙ table_back (sheet_size lim) (StorableSheet lim) (sheet_bytes lim) (sheet_length lim) (sheet_in lim)
      (λ x p. ap (sheet_in lim) (sym (append-nil (sheet_bytes lim x))) ∙ sheet_back lim small x p []) s.slots st.slots []

  pub pool_back : pool_in lim (pool_bytes lim s) ≡ s
  unfolding pool_in pool_bytes pool_head pool_mark long word
  pool_back = λ i. record {
    scheduler = s.scheduler;
    strategy = s.strategy;
    next = next_back i;
    waiting = list_back 16 s.waiting from_complete st.waiting at_waiting i;
    complete = list_back 80 s.complete from_bounded st.complete at_complete i;
    bounded = list_back 144 s.bounded table st.bounded at_bounded i;
    slots = slots_back i;
  }
