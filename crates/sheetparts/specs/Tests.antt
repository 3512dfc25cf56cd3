-- The tests of a lone sheet, on its bytes: what the code computes, test by test. An entry is eight bytes at a place; a test of keys
-- serves facts too, as entries of kind 0 and value 0.
use Rattle.std.specs.Prelude.{◌≡◌, ℕ, ◌+◌, ◌-◌, ◌*◌, ◌≤◌, ◌<◌, min, Bool, true, false, ◌&&◌, ◌||◌, Option, None, Some, List, [], ◌∷◌, map, get_or, ltb, eqb}
use Rattle.std.proofs.Math.Dec.{leb}
use Rattle.base.specs.Branch.{if}
use Rattle.base.specs.Lists.{equal}
use Rattle.rules.specs.Book.{Names}
use Rattle.rules.specs.Reading.{Bytes, num}
use Rattle.rules.specs.Sheet.{Limits}
use Rattle.rules.specs.Bound.{depth_over}
use Rattle.rules.specs.Image.{sheet_bytes, sheet_in}
use Rattle.rules.specs.Sound.{has_arity, declared_as, sound_sheet}
use Rattle.packing.specs.Digits.{number}
use Rattle.sheetparts.specs.Loops.{up_to, every}

abbrev pub byte_at : Bytes → ℕ → ℕ
byte_at s at = get_or s at 0

-- n bytes from a place on are zero.
unfoldable pub zero_at : Bytes → ℕ → ℕ → Bool
zero_at s a i = eqb (byte_at s (a + i)) 0

unfoldable pub zeros : Bytes → ℕ → ℕ → Bool
zeros s a n = every (zero_at s a) 0 n

-- ---- an entry

-- At most four arguments, and those that are not used are zero.
unfoldable pub spare : Bytes → ℕ → Bool
spare s at = leb (byte_at s (at + 2)) 4 && zeros s (at + 3 + byte_at s (at + 2)) (4 - byte_at s (at + 2))

-- A declared symbol with its arity: a relation, of kind 0, or a key's symbol.
unfoldable pub named : Names → Bool → ℕ → ℕ → ℕ → Bool
named d facts kind symbol n = if facts (λ _. eqb kind 0 && has_arity d.relations symbol n) (λ _. declared_as d kind symbol n)

-- The seven bytes of a key as a number.
unfoldable pub key_number : Bytes → ℕ → ℕ
key_number s at = number (byte_at s at ∷ byte_at s (at + 1) ∷ byte_at s (at + 2) ∷ byte_at s (at + 3) ∷ byte_at s (at + 4) ∷ byte_at s (at + 5) ∷ byte_at s (at + 6) ∷ [])

-- The first entry, or one above the entry before it.
unfoldable pub rises : Bytes → ℕ → ℕ → Bool
rises s at i = eqb i 0 || ltb (key_number s (at + 8 * i - 8)) (key_number s (at + 8 * i))

-- ---- elements by their keys

-- The depth that an entry's arguments give, where the depths stand from d on.
unfoldable pub arg_depth : Bytes → ℕ → ℕ → ℕ → ℕ
arg_depth s d at j = byte_at s (d + byte_at s (at + 3 + j))

unfoldable pub entry_depth : Bytes → ℕ → ℕ → ℕ
entry_depth s d at = depth_over (map (arg_depth s d at) (up_to 0 (byte_at s (at + 2))))

-- The least depth that keys give an element, over the keys of some numbers; `unknown` if none of them yields it.
unfoldable pub unknown : ℕ
unknown = 512

unfoldable pub lowest : (ℕ → ℕ) → (ℕ → ℕ) → List ℕ → ℕ → ℕ
lowest value depth [] e = unknown
lowest value depth (i ∷ is) e = if (eqb (value i) e) (λ _. min (depth i) (lowest value depth is e)) (λ _. lowest value depth is e)

unfoldable pub key_value : Bytes → ℕ → ℕ → ℕ
key_value s at i = byte_at s (at + 8 * i + 7)

unfoldable pub key_depth : Bytes → ℕ → ℕ → ℕ → ℕ
key_depth s d at i = entry_depth s d (at + 8 * i)

-- For each byte as an element, the least depth over the keys from i on of n.
abbrev pub Lows : Bytes → ℕ → ℕ → ℕ → ℕ → List ℕ → Type 0
Lows s d at i n t = (e : ℕ) → e < 256 → get_or t e 0 ≡ lowest (key_value s at) (key_depth s d at) (up_to i n) e

-- ---- whole tables

-- A least depth as code has it, as a number: `unknown` for none, else less than that. Depths are at most 256, so none is cut short.
abbrev pub shown : Option ℕ → ℕ
shown None = 512
shown (Some least) = min least 511

-- The arguments are known: some key yields each.
unfoldable pub known_at : List ℕ → Bytes → ℕ → ℕ → Bool
known_at t s at j = ltb (get_or t (byte_at s (at + 3 + j)) 0) unknown

unfoldable pub args_known : List ℕ → Bytes → ℕ → Bool
args_known t s at = every (known_at t s at) 0 (byte_at s (at + 2))

-- An entry by itself: its symbol, its room, its value below a bound, its arguments.
unfoldable pub entry_right : Names → Bool → ℕ → List ℕ → Bytes → ℕ → Bool
entry_right d facts bound t s at =
    named d facts (byte_at s at) (byte_at s (at + 1)) (byte_at s (at + 2)) && (spare s at && (ltb (byte_at s (at + 7)) bound && args_known t s at))

unfoldable pub entry_at : Names → Bool → ℕ → List ℕ → Bytes → ℕ → ℕ → Bool
entry_at d facts bound t s at i = entry_right d facts bound t s (at + 8 * i) && rises s at i

unfoldable pub table_right : Names → Bool → ℕ → List ℕ → Bytes → ℕ → ℕ → Bool
table_right d facts bound t s at n = every (entry_at d facts bound t s at) 0 n

-- The depth of an element is the least over its keys; 0 if no key yields it.
unfoldable pub wanted : ℕ → ℕ
wanted least = if (eqb least unknown) (λ _. 0) (λ _. least)

unfoldable pub depth_at : List ℕ → Bytes → ℕ → ℕ → Bool
depth_at t s d e = eqb (byte_at s (d + e)) (wanted (get_or t e 0))

unfoldable pub depths_right : List ℕ → Bytes → ℕ → ℕ → Bool
depths_right t s d n = every (depth_at t s d) 0 n

-- ---- the sheet

-- Where facts and depths stand.
unfoldable pub facts_from : Limits → ℕ
facts_from lim = 16 + 8 * lim.keys

unfoldable pub depths_from : Limits → ℕ
depths_from lim = 16 + 8 * lim.keys + 8 * lim.facts

-- Counts within the limits, the place among so many, and the head's unused bytes.
unfoldable pub head_right : Limits → ℕ → Bytes → Bool
head_right lim places s =
    leb (num s 4) lim.elements && (leb (num s 6) lim.keys && (leb (num s 8) lim.facts && (ltb (num s 2) places && zeros s 10 6)))

-- The room behind keys, facts and depths.
unfoldable pub room_right : Limits → Bytes → Bool
room_right lim s =
    zeros s (16 + 8 * num s 6) (8 * lim.keys - 8 * num s 6)
    && (zeros s (facts_from lim + 8 * num s 8) (8 * lim.facts - 8 * num s 8) && zeros s (depths_from lim + num s 4) (lim.elements - num s 4))

-- Keys, facts and depths, given the least depths t.
unfoldable pub body_right : Limits → Names → List ℕ → Bytes → Bool
body_right lim d t s =
    table_right d false (num s 4) t s 16 (num s 6) && (table_right d true 1 t s (facts_from lim) (num s 8) && depths_right t s (depths_from lim) (num s 4))

-- What the tests come to: the bytes are the image of what they say, and that is sound.
unfoldable pub sheet_sound : Limits → Names → ℕ → Bytes → Bool
sheet_sound lim d places s = equal (sheet_bytes lim (sheet_in lim s)) s && sound_sheet lim d places (sheet_in lim s)

-- Limits whose counts a sheet can hold; elements are bytes.
pub record Fair (lim : Limits) : Type 0 where
  pub elements : lim.elements ≤ 256
  pub keys : lim.keys < 65536
  pub facts : lim.facts < 65536
