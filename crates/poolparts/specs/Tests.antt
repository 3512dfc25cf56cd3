-- The tests of a pool, on its bytes: what the code computes, test by test. A list is named by its place and its count; a slot is
-- listed as often as the three lists name it.
use Rattle.std.specs.Prelude.{ℕ, ◌+◌, ◌-◌, ◌*◌, Bool, not, ◌&&◌, ◌||◌, List, map, ltb, eqb}
use Rattle.std.proofs.Math.Dec.{leb}
use Rattle.base.specs.Branch.{if}
use Rattle.pools.specs.Count.{cnt}
use Rattle.rules.specs.Book.{Names}
use Rattle.rules.specs.Reading.{Bytes, num}
use Rattle.rules.specs.Sheet.{limits}
use Rattle.rules.specs.Image.{part}
use Rattle.sheetparts.specs.Loops.{up_to, every}
use Rattle.sheetparts.specs.Tests.{byte_at, zeros, sheet_sound}

-- ---- the head

-- Mark, version and the two unused bytes as one number.
unfoldable pub mark_number : Bytes → ℕ
mark_number p = byte_at p 0 + 256 * byte_at p 1 + 65536 * byte_at p 2 + 16777216 * byte_at p 3 + 4294967296 * byte_at p 4 + 1099511627776 * byte_at p 7 + 281474976710656 * byte_at p 15

-- At most 64 of a list, and zeros behind them.
unfoldable pub list_room : Bytes → ℕ → ℕ → Bool
list_room p at n = leb n 64 && zeros p (at + n) (64 - n)

-- All of a list are slots.
unfoldable pub slot_at : Bytes → ℕ → ℕ → ℕ → Bool
slot_at p slots at j = ltb (byte_at p (at + j)) slots

unfoldable pub in_range : Bytes → ℕ → ℕ → ℕ → Bool
in_range p slots at n = every (slot_at p slots at) 0 n

unfoldable pub list_right : Bytes → ℕ → ℕ → ℕ → Bool
list_right p slots at n = list_room p at n && in_range p slots at n

-- The next number.
unfoldable pub next_of : Bytes → ℕ
next_of p = num p 8 + 65536 * num p 10

unfoldable pub lists_right : Bytes → ℕ → Bool
lists_right p slots =
    list_right p slots 16 (byte_at p 12) && (list_right p slots 80 (byte_at p 13) && list_right p slots 144 (byte_at p 14))

unfoldable pub frame_right : Bytes → ℕ → Bool
frame_right p slots =
    eqb (mark_number p) 21775437 && (ltb (byte_at p 5) 2 && (ltb (byte_at p 6) 2 && (leb (next_of p) 65536 && lists_right p slots)))

-- ---- the slots

unfoldable pub row_at : Bytes → ℕ → ℕ → List ℕ
row_at p at n = map (λ j. byte_at p (at + j)) (up_to 0 n)

-- How often the lists name a slot.
unfoldable pub listed : Bytes → ℕ → ℕ
listed p i = cnt i (row_at p 16 (byte_at p 12)) + (cnt i (row_at p 80 (byte_at p 13)) + cnt i (row_at p 144 (byte_at p 14)))

-- Where a slot starts.
abbrev pub start_of : ℕ → ℕ
start_of i = 208 + 2128 * i

-- A slot before it that has its number is free.
unfoldable pub other_at : Bytes → ℕ → ℕ → Bool
other_at p i j = not (eqb (num p (start_of j)) (num p (start_of i))) || eqb (listed p j) 0

unfoldable pub differs : Bytes → ℕ → Bool
differs p i = every (other_at p i) 0 i

-- A listed slot: its number is below the next and its own, its sheet is sound.
unfoldable pub held_right : Names → ℕ → Bytes → ℕ → Bool
held_right d places p i =
    ltb (num p (start_of i)) (next_of p) && (differs p i && sheet_sound limits d places (part (start_of i) 2128 p))

-- A slot that no list names is all zero; no slot is named twice.
unfoldable pub slot_right : Names → ℕ → Bytes → ℕ → Bool
slot_right d places p i =
    if (eqb (listed p i) 0) (λ _. zeros p (start_of i) 2128) (λ _. eqb (listed p i) 1 && held_right d places p i)

unfoldable pub slots_right : Names → ℕ → Bytes → ℕ → Bool
slots_right d places p n = every (slot_right d places p) 0 n
