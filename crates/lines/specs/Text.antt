-- The listing's text (01, behind "Corners"), byte by byte in ASCII. A line is a word, numbers with a space before each, and a newline.
use Rattle.std.specs.Prelude.{ℕ, zero, suc, ◌+◌, ◌/◌, ◌%◌, List, [], ◌∷◌, ◌++◌, map, length, get_or, ltb}
use Rattle.base.specs.Branch.{if}
use Rattle.base.specs.Lists.{keep, from, flat}
use Rattle.rules.specs.Reading.{Bytes}
use Rattle.rules.specs.Sheet.{Fact, Entry, Model, Sheet, known}
use Rattle.rules.specs.Pool.{State, sheets_at}

-- ---- numbers

-- A number in decimal, no zero in front: the digits before the last one, then that. The first argument counts the digits that there may be.
unfoldable pub digits : ℕ → ℕ → Bytes
digits zero n = []
digits (suc k) n = if (ltb n 10) (λ _. (48 + n) ∷ []) (λ _. digits k (n / 10) ++ ((48 + n % 10) ∷ []))

-- A number has no more digits than one above itself.
unfoldable pub decimal : ℕ → Bytes
decimal n = digits (suc n) n

-- "Arguments are separated by one space" (docs/DECISIONS.md): so is every number from what stands before it.
unfoldable pub fields : List ℕ → Bytes
fields [] = []
fields (x ∷ xs) = 32 ∷ decimal x ++ fields xs

-- ---- words

-- `key`, ` =`, `depth`, `fact`
unfoldable pub key_word : Bytes
key_word = 107 ∷ 101 ∷ 121 ∷ []

unfoldable pub equals_word : Bytes
equals_word = 32 ∷ 61 ∷ []

unfoldable pub depth_word : Bytes
depth_word = 100 ∷ 101 ∷ 112 ∷ 116 ∷ 104 ∷ []

unfoldable pub fact_word : Bytes
fact_word = 102 ∷ 97 ∷ 99 ∷ 116 ∷ []

-- `complete`, `bounded`, `waiting`
unfoldable pub complete_word : Bytes
complete_word = 99 ∷ 111 ∷ 109 ∷ 112 ∷ 108 ∷ 101 ∷ 116 ∷ 101 ∷ []

unfoldable pub bounded_word : Bytes
bounded_word = 98 ∷ 111 ∷ 117 ∷ 110 ∷ 100 ∷ 101 ∷ 100 ∷ []

unfoldable pub waiting_word : Bytes
waiting_word = 119 ∷ 97 ∷ 105 ∷ 116 ∷ 105 ∷ 110 ∷ 103 ∷ []

-- `stop`, ` steps`, `refused`
unfoldable pub stop_word : Bytes
stop_word = 115 ∷ 116 ∷ 111 ∷ 112 ∷ []

unfoldable pub steps_word : Bytes
steps_word = 32 ∷ 115 ∷ 116 ∷ 101 ∷ 112 ∷ 115 ∷ []

unfoldable pub refused_word : Bytes
refused_word = 114 ∷ 101 ∷ 102 ∷ 117 ∷ 115 ∷ 101 ∷ 100 ∷ []

unfoldable pub newline : Bytes
newline = 10 ∷ []

-- ---- a sheet

-- "Key kind (1 to 4 in key order), symbol, arguments, `=`, value."
unfoldable pub key_line : Entry → Bytes
key_line x = key_word ++ (fields (x.0.kind ∷ x.0.symbol ∷ x.0.args) ++ (equals_word ++ (fields (x.1 ∷ []) ++ newline)))

-- "Element, depth."
unfoldable pub depth_text : ℕ → ℕ → Bytes
depth_text e d = depth_word ++ (fields (e ∷ d ∷ []) ++ newline)

unfoldable pub depth_line : Model → ℕ → Bytes
depth_line m e = depth_text e (get_or m.depths e 0)

-- "Relation, arguments."
unfoldable pub fact_line : Fact → Bytes
fact_line f = fact_word ++ (fields (f.relation ∷ f.args) ++ newline)

-- The elements that have a depth to tell: those that some key yields.
unfoldable pub told : Model → List ℕ
told m = keep (known m) (from 0 (length m.depths))

-- "Keys before depths (by element) before facts."
unfoldable pub model_lines : Model → Bytes
model_lines m = flat (map key_line m.keys) ++ (flat (map (depth_line m) (told m)) ++ flat (map fact_line m.facts))

-- "Standing, model number", then what the sheet says.
unfoldable pub sheet_lines : Bytes → Sheet → Bytes
sheet_lines standing x = standing ++ (fields (x.number ∷ []) ++ (newline ++ model_lines x.model))

-- ---- the whole

-- "Complete sheets come before bounded, each in list order"; behind them the waiting count.
unfoldable pub listing : ℕ → ℕ → State → Bytes
listing stop steps s =
    stop_word ++ (fields (stop ∷ []) ++ (steps_word ++ (fields (steps ∷ []) ++ (newline
    ++ (flat (map (sheet_lines complete_word) (sheets_at s s.complete))
    ++ (flat (map (sheet_lines bounded_word) (sheets_at s s.bounded))
    ++ (waiting_word ++ (fields (length s.waiting ∷ []) ++ newline))))))))

-- "Refusals print `refused N` alone."
unfoldable pub refusal : ℕ → Bytes
refusal n = refused_word ++ (fields (n ∷ []) ++ newline)
