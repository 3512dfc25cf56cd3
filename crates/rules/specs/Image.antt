-- A pool as bytes, and bytes as a pool: docs/FORMAT.md in words that compute (01, "The pool").
-- Writing gives each state one image; reading takes any bytes.
use Rattle.std.specs.Prelude.{ℕ, zero, suc, ◌+◌, ◌-◌, ◌*◌, ◌/◌, ◌%◌, min, List, [], ◌∷◌, ◌++◌, map, length, get_or, take, drop, replicate}
use Rattle.base.specs.Lists.{flat}
use Rattle.rules.specs.Reading.{Bytes, num}
use Rattle.rules.specs.Sheet.{key, Fact, rel, Entry, Sheet, Limits}
use Rattle.rules.specs.Pool.{State}

-- ---- writing

-- A number as two bytes, low byte first, and as four.
unfoldable pub word : ℕ → Bytes
word n = n % 256 ∷ n / 256 % 256 ∷ []

unfoldable pub long : ℕ → Bytes
long n = word (n % 65536) ++ word (n / 65536)

-- Zeros behind, up to so many bytes.
unfoldable pub padded : ℕ → Bytes → Bytes
padded n xs = xs ++ replicate (n - length xs) 0

-- Kind, symbol, number of arguments, four arguments, value.
unfoldable pub entry_bytes : ℕ → ℕ → List ℕ → ℕ → Bytes
entry_bytes kind symbol args value = kind ∷ symbol ∷ length args ∷ padded 4 args ++ (value ∷ [])

unfoldable pub key_bytes : Entry → Bytes
key_bytes x = entry_bytes x.0.kind x.0.symbol x.0.args x.1

unfoldable pub fact_bytes : Fact → Bytes
fact_bytes f = entry_bytes 0 f.relation f.args 0

-- The counts at the front of a sheet.
unfoldable pub sheet_head : Sheet → Bytes
sheet_head x = word x.number ++ (word x.place ++ (word x.model.created
    ++ (word (length x.model.keys) ++ (word (length x.model.facts) ++ replicate 6 0))))

unfoldable pub sheet_bytes : Limits → Sheet → Bytes
sheet_bytes lim x = sheet_head x
    ++ (padded (8 * lim.keys) (flat (map key_bytes x.model.keys))
    ++ (padded (8 * lim.facts) (flat (map fact_bytes x.model.facts))
    ++ padded lim.elements x.model.depths))

-- `MDL` and the version.
unfoldable pub pool_mark : Bytes
pool_mark = 77 ∷ 68 ∷ 76 ∷ 1 ∷ 0 ∷ []

-- A pool has at most 64 slots, and each list room for all of them.
unfoldable pub most_slots : ℕ
most_slots = 64

unfoldable pub pool_head : State → Bytes
pool_head s = pool_mark ++ (s.scheduler ∷ s.strategy ∷ 0 ∷ long s.next
    ++ (length s.waiting ∷ length s.complete ∷ length s.bounded ∷ 0 ∷ padded most_slots s.waiting
    ++ (padded most_slots s.complete ++ padded most_slots s.bounded)))

unfoldable pub pool_bytes : Limits → State → Bytes
pool_bytes lim s = pool_head s ++ flat (map (sheet_bytes lim) s.slots)

-- ---- sizes

unfoldable pub head_size : ℕ
head_size = 208

unfoldable pub sheet_size : Limits → ℕ
sheet_size lim = 16 + 8 * lim.keys + 8 * lim.facts + lim.elements

-- How many slots a pool of so many bytes has room for.
unfoldable pub slots_in : Limits → ℕ → ℕ
slots_in lim len = (len - head_size) / sheet_size lim

-- ---- reading

-- n bytes from a on.
unfoldable pub part : ℕ → ℕ → Bytes → Bytes
part a n s = take n (drop a s)

-- The arguments of an entry of eight bytes: as many as it counts, of the four that there are.
unfoldable pub args_in : Bytes → List ℕ
args_in s = take (get_or s 2 0) (part 3 4 s)

unfoldable pub key_in : Bytes → Entry
key_in s = (key (get_or s 0 0) (get_or s 1 0) (args_in s), get_or s 7 0)

unfoldable pub fact_in : Bytes → Fact
fact_in s = rel (get_or s 1 0) (args_in s)

-- n parts of so many bytes, one behind the other.
unfoldable pub parts : ℕ → ℕ → Bytes → List Bytes
parts size zero s = []
parts size (suc n) s = take size s ∷ parts size n (drop size s)

unfoldable pub sheet_in : Limits → Bytes → Sheet
sheet_in lim s = record {
  number = num s 0;
  place = num s 2;
  model = record {
    created = num s 4;
    keys = map key_in (parts 8 (min (num s 6) lim.keys) (drop 16 s));
    facts = map fact_in (parts 8 (min (num s 8) lim.facts) (drop (16 + 8 * lim.keys) s));
    depths = take (min (num s 4) lim.elements) (drop (16 + 8 * lim.keys + 8 * lim.facts) s);
  };
}

-- The list of the given length that stands at a place of the header.
unfoldable pub list_in : ℕ → ℕ → Bytes → List ℕ
list_in at n p = take n (part at most_slots p)

unfoldable pub pool_in : Limits → Bytes → State
pool_in lim p = record {
  scheduler = get_or p 5 0;
  strategy = get_or p 6 0;
  next = num p 8 + 65536 * num p 10;
  waiting = list_in 16 (get_or p 12 0) p;
  complete = list_in 80 (get_or p 13 0) p;
  bounded = list_in 144 (get_or p 14 0) p;
  slots = map (sheet_in lim) (parts (sheet_size lim) (slots_in lim (length p)) (drop head_size p));
}
