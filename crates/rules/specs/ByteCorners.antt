-- The table of bytes: small books read, with refusal and place; images of pools and of lone sheets, each sound or with one thing
-- wrong; and calls, with refusals in their order and every lent byte afterwards. `byte_corners` says that all rows come out as the
-- table has them. The table of steps is Corners.
use Rattle.std.specs.Prelude.{◌≡◌, refl, ℕ, ◌-◌, Bool, true, false, List, [], ◌∷◌, ◌++◌, map, length, set, take, replicate}
use Rattle.base.specs.Lists.{distinct, flat, equal}
use Rattle.rules.specs.Book.{var, con, app, nil, cons, terms, fact, same, Book, rules}
use Rattle.rules.specs.Reading.{Bytes, Read, got, case_read, and_then, giving, many, num, number, ranged, declared, mark_byte, mark, version, names_at, levels, term_at, literal_at, witnesses, witness_arity, origin_at, disjunct_at, sequent_at, ended, read_book}
use Rattle.rules.specs.Sheet.{Limits, limits}
use Rattle.rules.specs.Fire.{places}
use Rattle.rules.specs.Pool.{schedulers, strategies, sheets_at, opened}
use Rattle.rules.specs.Step.{lists, list_of, taken}
use Rattle.rules.specs.Image.{word, long, padded, entry_bytes, key_bytes, fact_bytes, sheet_head, sheet_bytes, pool_mark, most_slots, pool_head, pool_bytes, head_size, sheet_size, slots_in, part, args_in, key_in, fact_in, parts, sheet_in, list_in, pool_in}
use Rattle.rules.specs.Sound.{rising_from, rising, has_arity, declared_as, key_declared, fact_declared, least, depth_right, sound_model, sound_sheet, is_blank, sound_lists, sound_numbers, sound_state, sound, sound_lone}
use Rattle.rules.specs.Calls.{right_length, bounds, bound_of, known_bound, checked, soundly, Outcome, outcome, open_call, step_call, RunOutcome, run_call, TakeOutcome, take_outcome, take_call}
use Rattle.rules.specs.Cases.{did, some_of, rule, constant, function}

-- ---- what is asked, and what is answered

pub data Asked : Type 0 where
  -- A book: what it says; and only whether and where it ends or is refused.
  reading checking : Bytes → Asked
  -- Under small limits: a pool, a lone sheet.
  pool sheet : Book → Bytes → Asked
  -- How long a pool is.
  size : ℕ → Asked
  -- The calls.
  opening : Bytes → Bytes → ℕ → ℕ → Asked
  stepping : Bytes → Bytes → ℕ → ℕ → Asked
  running : Bytes → Bytes → ℕ → ℕ → ℕ → Asked
  taking : Bytes → Bytes → ℕ → Bytes → Asked

pub data Answered : Type 0 where
  reads : Read Book → Answered
  -- Refused with a number at a place; or by 0, read whole, at its end.
  at : ℕ → ℕ → Answered
  right : Bool → Answered
  leaves : Outcome → Answered
  stops : RunOutcome → Answered
  gives : TakeOutcome → Answered

-- Room for two elements, three keys and two facts: a sheet of 58 bytes.
abbrev pub small : Limits
small = record { elements = 2; keys = 3; facts = 2 }

-- Its `unfolding` line names every function of a call, those of a run by `did`.
unfoldable pub answered : Asked → Answered
unfolding did case_read and_then giving many num number ranged declared mark_byte mark version names_at levels term_at literal_at witnesses
    witness_arity origin_at disjunct_at sequent_at ended read_book distinct equal terms rules limits places schedulers strategies sheets_at opened
    word long padded entry_bytes key_bytes fact_bytes sheet_head sheet_bytes pool_mark most_slots pool_head pool_bytes head_size sheet_size slots_in
    part args_in key_in fact_in parts sheet_in list_in pool_in rising_from rising has_arity declared_as key_declared fact_declared least depth_right
    sound_model sound_sheet is_blank sound_lists sound_numbers sound_state sound sound_lone
    right_length bounds bound_of known_bound checked soundly lists list_of taken outcome open_call step_call run_call take_outcome take_call
answered (reading s) = reads (read_book s)
answered (checking s) = case_read (read_book s) (λ n p. at n p) (λ b e. at 0 e)
answered (pool b p) = right (sound small b p)
answered (sheet b s) = right (sound_lone small b s)
answered (size n) = right (right_length n)
answered (opening b p sc st) = leaves (open_call b p sc st)
answered (stepping b p k n) = leaves (step_call b p k n)
answered (running b p k n t) = stops (run_call b p k n t)
answered (taking b p l o) = gives (take_call b p l o)

pub record Row : Type 0 where
  pub ask : Asked
  pub answer : Answered

abbrev row : Asked → Answered → Row
row q r = record { ask = q; answer = r }

-- ---- books

-- `RUL` and 16-bit numbers, low byte first.
abbrev text : List ℕ → Bytes
text ns = 82 ∷ 85 ∷ 76 ∷ flat (map (λ n. n ∷ 0 ∷ []) ns)

abbrev ends : ℕ → Bytes → Row
ends e s = row (checking s) (at 0 e)

abbrev refuses : ℕ → ℕ → Bytes → Row
refuses n p s = row (checking s) (at n p)

-- The book of document 01's listing: [] gives some x P(x).
abbrev example : Bytes
example = text (1 ∷ 0 ∷ 0 ∷ 1 ∷ 1 ∷ 0 ∷ 1 ∷ 1 ∷ 0 ∷ 0 ∷ 1 ∷ 1 ∷ 0 ∷ 0 ∷ 0 ∷ 1 ∷ 0 ∷ 0 ∷ 0 ∷ 0 ∷ [])

-- One constant; functions of one argument and of none; relations of one and of two; two constant witnesses, one function witness of one.
-- Behind it the sequent count stands at place 25, and in a book of one sequent its numbers from 27 on.
abbrev named : List ℕ → Bytes
named ns = text (1 ∷ 1 ∷ 2 ∷ 2 ∷ 2 ∷ 1 ∷ 1 ∷ 0 ∷ 1 ∷ 2 ∷ 1 ∷ ns)

abbrev sequent : List ℕ → Bytes
sequent ns = named (1 ∷ ns)

-- A body whose one literal is the first relation of what the numbers say, the first of them at place 35, and no disjunct.
abbrev body : List ℕ → Bytes
body ns = sequent (0 ∷ 1 ∷ 0 ∷ 0 ∷ ns ++ (0 ∷ []))

-- f at so many levels, one inside the other.
abbrev nested : ℕ → List ℕ
nested n = flat (replicate n (2 ∷ 0 ∷ []))

-- With one free variable, a disjunct with one origin, its kind at place 35; behind it so many literals.
abbrev origin : List ℕ → Bytes
origin ns = sequent (1 ∷ 0 ∷ 1 ∷ 1 ∷ ns)

abbrev pub books : List Row
books =
    -- What is read: that book; and every kind of literal, term and origin, in R(x, f(x)), c = k gives some y, w with y = w, P(k).
    row (reading example) (reads (got (record {
      names = record { constants = 0; functions = []; relations = 1 ∷ []; constant_witnesses = 1; function_witnesses = [] };
      sequents = rule 0 [] (some_of (constant 0 ∷ []) (fact 0 (cons (var 0) nil) ∷ []) ∷ []) ∷ [];
    }) 43))
    ∷ row (reading (sequent (1 ∷ 2 ∷ 0 ∷ 1 ∷ 0 ∷ 0 ∷ 2 ∷ 0 ∷ 0 ∷ 0 ∷ 1 ∷ 1 ∷ 0 ∷ 2 ∷ 1 ∷ 1 ∷ 2 ∷ 0 ∷ 1 ∷ 0 ∷ 1 ∷ 0 ∷ 1 ∷ 0 ∷ 2 ∷ 1 ∷ 0 ∷ 1 ∷ 0 ∷ 2 ∷ 0 ∷ 0 ∷ 2 ∷ 1 ∷ [])))
    (reads (got (record {
      names = record { constants = 1; functions = 1 ∷ 0 ∷ []; relations = 1 ∷ 2 ∷ []; constant_witnesses = 2; function_witnesses = 1 ∷ [] };
      sequents = rule 1 (fact 1 (cons (var 0) (cons (app 0 (cons (var 0) nil)) nil)) ∷ same (con 0) (app 1 nil) ∷ [])
          (some_of (constant 1 ∷ function (0 ∷ []) ∷ []) (same (var 1) (var 2) ∷ fact 0 (cons (app 1 nil) nil) ∷ []) ∷ []) ∷ [];
    }) 95))
    -- The mark: it ends early, or a byte is wrong, even the last one that is there.
    ∷ refuses 2 0 []
    ∷ refuses 2 1 (82 ∷ [])
    ∷ refuses 2 2 (82 ∷ 85 ∷ [])
    ∷ refuses 3 0 (83 ∷ [])
    ∷ refuses 3 1 (82 ∷ 82 ∷ [])
    ∷ refuses 3 2 (82 ∷ 85 ∷ 82 ∷ 0 ∷ [])
    -- 1 comes before the mark; a book of 32,768 bytes passes it.
    ∷ refuses 1 0 (replicate 32769 0)
    ∷ refuses 3 0 (replicate 32768 0)
    -- The version, both its bytes; one byte of it is 2, and not 4.
    ∷ refuses 2 3 (text [])
    ∷ refuses 2 3 (text [] ++ (2 ∷ []))
    ∷ refuses 4 3 (text (2 ∷ []))
    ∷ refuses 4 3 (text [] ++ (1 ∷ 1 ∷ []))
    -- The first fault decides: a wrong version before a wrong count.
    ∷ refuses 4 3 (text (0 ∷ 65 ∷ []))
    -- Counts: 64 of each, and 65 of each.
    ∷ ends 17 (text (1 ∷ 64 ∷ 0 ∷ 0 ∷ 64 ∷ 0 ∷ 0 ∷ []))
    ∷ refuses 5 5 (text (1 ∷ 65 ∷ []))
    ∷ refuses 5 7 (text (1 ∷ 64 ∷ 65 ∷ []))
    ∷ refuses 5 9 (text (1 ∷ 64 ∷ 64 ∷ 65 ∷ []))
    ∷ refuses 5 11 (text (1 ∷ 64 ∷ 64 ∷ 64 ∷ 65 ∷ []))
    ∷ refuses 5 13 (text (1 ∷ 64 ∷ 64 ∷ 64 ∷ 64 ∷ 65 ∷ []))
    ∷ refuses 2 15 (text (1 ∷ 64 ∷ 64 ∷ 64 ∷ 64 ∷ 64 ∷ []))
    -- Arities: functions and relations 0 to 4, function witnesses 1 to 4.
    ∷ ends 29 (text (1 ∷ 0 ∷ 2 ∷ 2 ∷ 0 ∷ 2 ∷ 0 ∷ 4 ∷ 0 ∷ 4 ∷ 1 ∷ 4 ∷ 0 ∷ []))
    ∷ refuses 5 15 (text (1 ∷ 0 ∷ 1 ∷ 0 ∷ 0 ∷ 0 ∷ 5 ∷ []))
    ∷ refuses 5 15 (text (1 ∷ 0 ∷ 0 ∷ 1 ∷ 0 ∷ 0 ∷ 5 ∷ []))
    ∷ refuses 5 15 (text (1 ∷ 0 ∷ 0 ∷ 0 ∷ 0 ∷ 1 ∷ 0 ∷ []))
    ∷ refuses 5 15 (text (1 ∷ 0 ∷ 0 ∷ 0 ∷ 0 ∷ 1 ∷ 5 ∷ []))
    -- The other counts, each at its most and above it: sequents, free variables, body literals, disjuncts, origins, literals.
    ∷ refuses 2 27 (named (128 ∷ []))
    ∷ refuses 5 25 (named (129 ∷ []))
    ∷ refuses 2 29 (sequent (4 ∷ []))
    ∷ refuses 5 27 (sequent (5 ∷ []))
    ∷ refuses 2 31 (sequent (0 ∷ 16 ∷ []))
    ∷ refuses 5 29 (sequent (0 ∷ 17 ∷ []))
    ∷ refuses 2 33 (sequent (0 ∷ 0 ∷ 8 ∷ []))
    ∷ refuses 5 31 (sequent (0 ∷ 0 ∷ 9 ∷ []))
    ∷ refuses 2 35 (sequent (0 ∷ 0 ∷ 1 ∷ 4 ∷ []))
    ∷ refuses 5 33 (sequent (0 ∷ 0 ∷ 1 ∷ 5 ∷ []))
    ∷ refuses 2 37 (sequent (0 ∷ 0 ∷ 1 ∷ 0 ∷ 16 ∷ []))
    ∷ refuses 5 35 (sequent (0 ∷ 0 ∷ 1 ∷ 0 ∷ 17 ∷ []))
    -- Kinds: of a literal, a term, an origin.
    ∷ refuses 6 31 (sequent (0 ∷ 1 ∷ 2 ∷ []))
    ∷ refuses 6 35 (body (3 ∷ []))
    ∷ refuses 6 35 (origin (2 ∷ []))
    -- Not declared: relation, constant, function; a variable where there is none.
    ∷ refuses 7 33 (sequent (0 ∷ 1 ∷ 0 ∷ 2 ∷ []))
    ∷ refuses 7 37 (body (1 ∷ 1 ∷ []))
    ∷ refuses 7 37 (body (2 ∷ 2 ∷ []))
    ∷ refuses 7 37 (body (0 ∷ 0 ∷ []))
    -- A body names free variables only, a disjunct its own existentials too, and not those of another.
    ∷ refuses 7 37 (sequent (1 ∷ 1 ∷ 0 ∷ 0 ∷ 0 ∷ 1 ∷ 0 ∷ []))
    ∷ ends 51 (origin (0 ∷ 0 ∷ 0 ∷ 1 ∷ 0 ∷ 0 ∷ 0 ∷ 1 ∷ []))
    ∷ refuses 7 49 (origin (0 ∷ 0 ∷ 0 ∷ 1 ∷ 0 ∷ 0 ∷ 0 ∷ 2 ∷ []))
    ∷ refuses 7 53 (sequent (1 ∷ 0 ∷ 2 ∷ 1 ∷ 0 ∷ 0 ∷ 0 ∷ 0 ∷ 0 ∷ 1 ∷ 0 ∷ 0 ∷ 0 ∷ 1 ∷ []))
    -- Eight levels: a constant, a function without arguments and a variable may stand at the eighth, an application with arguments is 8
    -- there. Either side of an identity is level 1.
    ∷ ends 69 (body (nested 7 ++ (1 ∷ 0 ∷ [])))
    ∷ ends 69 (body (nested 7 ++ (2 ∷ 1 ∷ [])))
    ∷ refuses 8 65 (body (nested 8 ++ (1 ∷ 0 ∷ [])))
    ∷ refuses 7 65 (body (nested 7 ++ (2 ∷ 2 ∷ [])))
    ∷ ends 69 (sequent (1 ∷ 1 ∷ 0 ∷ 0 ∷ nested 7 ++ (0 ∷ 0 ∷ 0 ∷ [])))
    ∷ ends 99 (sequent (0 ∷ 1 ∷ 1 ∷ nested 7 ++ (1 ∷ 0 ∷ nested 7 ++ (1 ∷ 0 ∷ 0 ∷ []))))
    ∷ refuses 8 63 (sequent (0 ∷ 1 ∷ 1 ∷ nested 8))
    ∷ refuses 8 67 (sequent (0 ∷ 1 ∷ 1 ∷ 1 ∷ 0 ∷ nested 8))
    -- An origin: its witness, counted by kind; its argument count, of which any wrong one is 9; its arguments, which are free variables.
    ∷ ends 43 (origin (0 ∷ 1 ∷ 0 ∷ 0 ∷ []))
    ∷ refuses 7 37 (origin (0 ∷ 2 ∷ []))
    ∷ refuses 7 37 (origin (1 ∷ 1 ∷ []))
    ∷ refuses 9 39 (origin (0 ∷ 0 ∷ 1 ∷ []))
    ∷ refuses 9 39 (origin (1 ∷ 0 ∷ 0 ∷ []))
    ∷ refuses 9 39 (origin (1 ∷ 0 ∷ 5 ∷ []))
    ∷ ends 45 (origin (1 ∷ 0 ∷ 1 ∷ 0 ∷ 0 ∷ []))
    ∷ refuses 7 41 (origin (1 ∷ 0 ∷ 1 ∷ 1 ∷ 0 ∷ []))
    -- The second of two function witnesses, of two arguments, at the one free variable twice.
    ∷ ends 41 (text (1 ∷ 0 ∷ 0 ∷ 0 ∷ 0 ∷ 2 ∷ 1 ∷ 2 ∷ 1 ∷ 1 ∷ 0 ∷ 1 ∷ 1 ∷ 1 ∷ 1 ∷ 2 ∷ 0 ∷ 0 ∷ 0 ∷ []))
    -- Every number has two bytes: a count of 257, relation 256, and 256 or 257 for the kind of a literal, of a term, of an origin, and for
    -- an argument count.
    ∷ refuses 5 5 (text (1 ∷ []) ++ (1 ∷ 1 ∷ []))
    ∷ refuses 7 33 (sequent (0 ∷ 1 ∷ 0 ∷ []) ++ (0 ∷ 1 ∷ []))
    ∷ refuses 6 31 (sequent (0 ∷ 1 ∷ []) ++ (0 ∷ 1 ∷ []))
    ∷ refuses 6 35 (sequent (0 ∷ 1 ∷ 0 ∷ 0 ∷ []) ++ (1 ∷ 1 ∷ []))
    ∷ refuses 6 35 (origin [] ++ (0 ∷ 1 ∷ []))
    ∷ refuses 9 39 (origin (0 ∷ 0 ∷ []) ++ (0 ∷ 1 ∷ []))
    -- Two sequents, one behind the other.
    ∷ ends 39 (named (2 ∷ 0 ∷ 0 ∷ 0 ∷ 0 ∷ 0 ∷ 0 ∷ []))
    -- Bytes left over: one, and two.
    ∷ refuses 10 27 (named (0 ∷ []) ++ (0 ∷ []))
    ∷ refuses 10 27 (named (0 ∷ 0 ∷ []))
    ∷ []

-- ---- images, under small limits

-- One constant, one function of one argument, one relation of one, one constant witness; so many sequents.
abbrev of_sequents : ℕ → Book
of_sequents n = record
    { names = record { constants = 1; functions = 1 ∷ []; relations = 1 ∷ []; constant_witnesses = 1; function_witnesses = [] }; sequents = replicate n (rule 0 [] []) }

-- A book without sequents: so many constants, functions, relations, constant witnesses and function witnesses, all of one argument.
abbrev declares : ℕ → ℕ → ℕ → ℕ → ℕ → Book
declares c f r cw fw = record {
  names = record { constants = c; functions = replicate f 1; relations = replicate r 1; constant_witnesses = cw; function_witnesses = replicate fw 1 };
  sequents = [];
}

-- A lone sheet: number 0, place 0, two elements, two keys and two facts counted; from 16 on the keys a->0, f(0)->1 and room for a third,
-- from 40 on the facts P(0), P(1), from 56 on the depths 0, 1.
abbrev whole : Bytes
whole = 0 ∷ 0 ∷ 0 ∷ 0 ∷ 2 ∷ 0 ∷ 2 ∷ 0 ∷ 2 ∷ 0 ∷ 0 ∷ 0 ∷ 0 ∷ 0 ∷ 0 ∷ 0
    ∷ 1 ∷ 0 ∷ 0 ∷ 0 ∷ 0 ∷ 0 ∷ 0 ∷ 0 ∷ 2 ∷ 0 ∷ 1 ∷ 0 ∷ 0 ∷ 0 ∷ 0 ∷ 1 ∷ 0 ∷ 0 ∷ 0 ∷ 0 ∷ 0 ∷ 0 ∷ 0 ∷ 0
    ∷ 0 ∷ 0 ∷ 1 ∷ 0 ∷ 0 ∷ 0 ∷ 0 ∷ 0 ∷ 0 ∷ 0 ∷ 1 ∷ 1 ∷ 0 ∷ 0 ∷ 0 ∷ 0 ∷ 0 ∷ 1 ∷ []

-- A pool of two slots, FIFO, Linear, next number 1: that sheet waits in slot 0, from 208 on; slot 1, from 266 on, is unused.
abbrev whole_pool : Bytes
whole_pool = 77 ∷ 68 ∷ 76 ∷ 1 ∷ 0 ∷ 0 ∷ 0 ∷ 0 ∷ 1 ∷ 0 ∷ 0 ∷ 0 ∷ 1 ∷ 0 ∷ 0 ∷ 0 ∷ replicate 192 0 ++ (whole ++ replicate 58 0)

-- Bytes with others at some places.
abbrev but : List (ℕ × ℕ) → Bytes → Bytes
but [] s = s
but (c ∷ cs) s = but cs (set s c.0 c.1)

-- The pool with such changes, for a book of two sequents; the sheet, for a book of so many.
abbrev pool_is : Bool → List (ℕ × ℕ) → Row
pool_is r cs = row (pool (of_sequents 2) (but cs whole_pool)) (right r)

abbrev sheet_is : Bool → ℕ → List (ℕ × ℕ) → Row
sheet_is r n cs = row (sheet (of_sequents n) (but cs whole)) (right r)

abbrev sheet_by : Bool → Book → List (ℕ × ℕ) → Row
sheet_by r b cs = row (sheet b (but cs whole)) (right r)

abbrev pub images : List Row
images =
    pool_is true []
    -- Mark, version, settings, and the byte behind them.
    ∷ pool_is false ((0, 82) ∷ [])
    ∷ pool_is false ((3, 2) ∷ [])
    ∷ pool_is false ((4, 1) ∷ [])
    ∷ pool_is true ((5, 1) ∷ [])
    ∷ pool_is false ((5, 2) ∷ [])
    ∷ pool_is true ((6, 1) ∷ [])
    ∷ pool_is false ((6, 2) ∷ [])
    ∷ pool_is false ((7, 1) ∷ [])
    -- A number equal to the next one, whatever list names it; numbers used up, and beyond that; a pool without sheets, whose next is 0.
    ∷ pool_is false ((8, 0) ∷ [])
    ∷ pool_is false ((8, 0) ∷ (12, 0) ∷ (13, 1) ∷ [])
    ∷ pool_is false ((8, 0) ∷ (12, 0) ∷ (14, 1) ∷ [])
    ∷ pool_is false ((208, 1) ∷ [])
    ∷ pool_is true ((208, 1) ∷ (8, 2) ∷ [])
    ∷ pool_is true ((8, 0) ∷ (10, 1) ∷ [])
    ∷ pool_is false ((10, 1) ∷ [])
    ∷ row (pool (of_sequents 2) (77 ∷ 68 ∷ 76 ∷ 1 ∷ replicate 320 0)) (right true)
    -- Lists: a sheet that none names, one that two name or one names twice, a slot that is not there, bytes behind a list's end.
    ∷ pool_is false ((12, 0) ∷ [])
    ∷ pool_is false ((13, 1) ∷ [])
    ∷ pool_is false ((12, 2) ∷ [])
    ∷ pool_is false ((208, 1) ∷ (8, 2) ∷ (12, 2) ∷ (17, 2) ∷ [])
    ∷ pool_is false ((16, 1) ∷ [])
    ∷ pool_is false ((17, 1) ∷ [])
    ∷ pool_is false ((12, 65) ∷ [])
    ∷ pool_is true ((12, 0) ∷ (13, 1) ∷ [])
    ∷ pool_is true ((12, 0) ∷ (14, 1) ∷ [])
    -- An unused slot that is not zero, be it a number, a place, or a count of elements, keys or facts; two sheets with one number, in one
    -- list or in two, and with two, in whichever order.
    ∷ pool_is false ((266, 1) ∷ (8, 2) ∷ [])
    ∷ pool_is false ((268, 1) ∷ [])
    ∷ pool_is false ((270, 1) ∷ [])
    ∷ pool_is false ((272, 1) ∷ [])
    ∷ pool_is false ((274, 1) ∷ [])
    ∷ pool_is false ((12, 2) ∷ (17, 1) ∷ [])
    ∷ pool_is false ((13, 1) ∷ (80, 1) ∷ [])
    ∷ pool_is false ((14, 1) ∷ (144, 1) ∷ [])
    ∷ pool_is true ((12, 2) ∷ (17, 1) ∷ (266, 1) ∷ (8, 2) ∷ [])
    ∷ pool_is true ((12, 2) ∷ (16, 1) ∷ (266, 1) ∷ (8, 2) ∷ [])
    ∷ pool_is true ((14, 1) ∷ (144, 1) ∷ (266, 1) ∷ (8, 2) ∷ [])
    -- Places, whatever list names the sheet: under Linear 0 alone; under Fair below the sequent count, or 0.
    ∷ pool_is false ((210, 1) ∷ [])
    ∷ pool_is false ((210, 1) ∷ (12, 0) ∷ (13, 1) ∷ [])
    ∷ pool_is false ((210, 1) ∷ (12, 0) ∷ (14, 1) ∷ [])
    ∷ pool_is true ((210, 1) ∷ (6, 1) ∷ [])
    ∷ pool_is false ((210, 2) ∷ (6, 1) ∷ [])
    ∷ row (pool (of_sequents 0) (but ((6, 1) ∷ []) whole_pool)) (right true)
    ∷ row (pool (of_sequents 0) (but ((210, 1) ∷ (6, 1) ∷ []) whole_pool)) (right false)
    -- A lone sheet: any number; a place below the sequent count, or 0; a length that is not a sheet's.
    ∷ sheet_is true 2 []
    ∷ sheet_is true 2 ((0, 255) ∷ (1, 255) ∷ [])
    ∷ sheet_is true 2 ((2, 1) ∷ [])
    ∷ sheet_is false 2 ((2, 2) ∷ [])
    ∷ sheet_is true 0 []
    ∷ sheet_is false 0 ((2, 1) ∷ [])
    ∷ row (sheet (of_sequents 0) (whole ++ (0 ∷ []))) (right false)
    ∷ row (sheet (of_sequents 0) []) (right false)
    -- More created than there is room for; less than the elements need.
    ∷ sheet_is false 0 ((4, 3) ∷ [])
    ∷ sheet_is false 0 ((4, 1) ∷ [])
    ∷ sheet_is false 0 ((4, 1) ∷ (57, 0) ∷ [])
    -- Counts of keys and facts: less than there are, more than there are, more than there is room for. The room behind the counts.
    ∷ sheet_is false 0 ((6, 1) ∷ [])
    ∷ sheet_is false 0 ((6, 3) ∷ [])
    ∷ sheet_is false 0 ((6, 4) ∷ [])
    ∷ sheet_is false 0 ((8, 1) ∷ [])
    ∷ sheet_is false 0 ((8, 3) ∷ [])
    ∷ sheet_is false 0 ((10, 1) ∷ [])
    -- A key's symbol not declared, its arity another, its kind none; an argument that no key yields; room that is not zero.
    ∷ sheet_is false 0 ((17, 1) ∷ [])
    ∷ sheet_is false 0 ((25, 1) ∷ [])
    ∷ sheet_is false 0 ((26, 2) ∷ [])
    ∷ sheet_is false 0 ((26, 0) ∷ (57, 0) ∷ [])
    ∷ sheet_is false 0 ((16, 0) ∷ [])
    ∷ sheet_is false 0 ((24, 5) ∷ [])
    ∷ sheet_is false 0 ((27, 2) ∷ [])
    ∷ sheet_is false 0 ((28, 1) ∷ [])
    ∷ sheet_is false 0 ((32, 1) ∷ [])
    -- An argument that was merged away: a->0, f(1)->0, two elements created.
    ∷ sheet_is false 0 ((27, 1) ∷ (31, 0) ∷ (8, 1) ∷ (50, 0) ∷ (51, 0) ∷ (57, 0) ∷ [])
    -- A constant and a constant witness of one argument.
    ∷ sheet_is false 0 ((24, 1) ∷ [])
    ∷ sheet_is false 0 ((24, 3) ∷ [])
    -- Each kind is declared by its own count: constants, functions, relations; with a constant witness for f(0), and with a function
    -- witness for f.
    ∷ sheet_by true (declares 1 1 1 0 0) []
    ∷ sheet_by false (declares 0 1 1 1 1) []
    ∷ sheet_by false (declares 1 0 1 1 1) []
    ∷ sheet_by false (declares 1 1 0 1 1) []
    ∷ sheet_by true (declares 1 0 1 1 0) ((24, 3) ∷ (26, 0) ∷ (57, 0) ∷ [])
    ∷ sheet_by false (declares 1 1 1 0 1) ((24, 3) ∷ (26, 0) ∷ (57, 0) ∷ [])
    ∷ sheet_by true (declares 1 0 1 0 1) ((24, 4) ∷ [])
    ∷ sheet_by false (declares 1 1 1 1 0) ((24, 4) ∷ [])
    -- A key twice; keys in the wrong order, f(0) before a.
    ∷ sheet_is false 0 ((24, 1) ∷ (26, 0) ∷ (57, 0) ∷ [])
    ∷ sheet_is false 0 ((16, 2) ∷ (18, 1) ∷ (23, 1) ∷ (24, 1) ∷ (26, 0) ∷ (31, 0) ∷ [])
    -- A fact's relation not declared, its arity another, its argument no element; its kind and its value, which are zero.
    ∷ sheet_is false 0 ((49, 1) ∷ [])
    ∷ sheet_is false 0 ((42, 0) ∷ [])
    ∷ sheet_is false 0 ((51, 2) ∷ [])
    ∷ sheet_is false 0 ((40, 1) ∷ [])
    ∷ sheet_is false 0 ((47, 1) ∷ [])
    -- A fact twice; facts in the wrong order, P(1) before P(0).
    ∷ sheet_is false 0 ((51, 0) ∷ [])
    ∷ sheet_is false 0 ((43, 1) ∷ (51, 0) ∷ [])
    -- A depth too small, one too large, one of a name without arguments; keys in a circle, f(1)->1.
    ∷ sheet_is false 0 ((57, 0) ∷ [])
    ∷ sheet_is false 0 ((57, 2) ∷ [])
    ∷ sheet_is false 0 ((56, 1) ∷ (57, 2) ∷ [])
    ∷ sheet_is false 0 ((27, 1) ∷ [])
    -- The least of two keys, whichever stands first: f(0)->1 and then constant witness 0 ->1; and a->0 and then f(0)->0. There element 1
    -- is gone, its depth is 0, and no fact has it.
    ∷ sheet_is true 0 ((6, 3) ∷ (32, 3) ∷ (39, 1) ∷ (57, 0) ∷ [])
    ∷ sheet_is false 0 ((6, 3) ∷ (32, 3) ∷ (39, 1) ∷ [])
    ∷ sheet_is true 0 ((31, 0) ∷ (8, 1) ∷ (50, 0) ∷ (51, 0) ∷ (57, 0) ∷ [])
    ∷ sheet_is false 0 ((31, 0) ∷ (8, 1) ∷ (50, 0) ∷ (51, 0) ∷ [])
    ∷ sheet_is false 0 ((31, 0) ∷ (57, 0) ∷ [])
    ∷ []

-- ---- calls

-- [] gives some x, in no literal. And: [] gives P(f(a)).
abbrev unmentioned : Bytes
unmentioned = text (1 ∷ 0 ∷ 0 ∷ 0 ∷ 1 ∷ 0 ∷ 1 ∷ 0 ∷ 0 ∷ 1 ∷ 1 ∷ 0 ∷ 0 ∷ 0 ∷ 0 ∷ [])

abbrev deep : Bytes
deep = named (1 ∷ 0 ∷ 0 ∷ 1 ∷ 0 ∷ 1 ∷ 0 ∷ 0 ∷ 2 ∷ 0 ∷ 1 ∷ 0 ∷ [])

-- The pool of one slot that open writes: the next number 1, model 0 waiting.
abbrev fresh : Bytes
fresh = 77 ∷ 68 ∷ 76 ∷ 1 ∷ 0 ∷ 0 ∷ 0 ∷ 0 ∷ 1 ∷ 0 ∷ 0 ∷ 0 ∷ 1 ∷ replicate 2323 0

-- The sheet that a step leaves there: number 1, constant witness 0 yields 0, P(0), depth 0.
abbrev stepped_sheet : Bytes
stepped_sheet = 1 ∷ 0 ∷ 0 ∷ 0 ∷ 1 ∷ 0 ∷ 1 ∷ 0 ∷ 1 ∷ replicate 7 0 ++ (3 ∷ replicate 1025 0 ++ (1 ∷ replicate 1085 0))

-- The one without P(0).
abbrev named_sheet : Bytes
named_sheet = but ((8, 0) ∷ (1042, 0) ∷ []) stepped_sheet

-- The pool in which a step left a bounded child without anything.
abbrev cut_pool : Bytes
cut_pool = but ((8, 2) ∷ (12, 0) ∷ (14, 1) ∷ (208, 1) ∷ []) fresh

-- A pool of two slots in which nothing waits, the next number 2, with these lists, complete and bounded, and these slots: in `stocked`
-- slot 0 has the empty model 0 and slot 1 that sheet, in `emptied` both are zero.
abbrev two_slots : List ℕ → List ℕ → Bytes → Bytes
two_slots cs bs slots = 77 ∷ 68 ∷ 76 ∷ 1 ∷ 0 ∷ 0 ∷ 0 ∷ 0 ∷ 2 ∷ 0 ∷ 0 ∷ 0 ∷ 0 ∷ length cs ∷ length bs ∷ 0 ∷ replicate 64 0
    ++ (cs ++ (replicate (64 - length cs) 0 ++ (bs ++ (replicate (64 - length bs) 0 ++ slots))))

abbrev stocked : List ℕ → List ℕ → Bytes
stocked cs bs = two_slots cs bs (replicate 2128 0 ++ stepped_sheet)

abbrev emptied : List ℕ → List ℕ → Bytes
emptied cs bs = two_slots cs bs (replicate 4256 0)

abbrev left : ℕ → Bytes → Answered
left n p = leaves (record { answer = n; pool = p })

abbrev ran : ℕ → ℕ → Bytes → Answered
ran n k p = stops (record { stop = n; steps = k; pool = p })

abbrev gave : ℕ → Bytes → Bytes → Answered
gave n p o = gives (record { answer = n; pool = p; out = o })

abbrev pub calls : List Row
calls =
    -- 11: a header and 1 to 64 slots.
    row (size 2336) (right true)
    ∷ row (size 136400) (right true)
    ∷ row (size 208) (right false)
    ∷ row (size 2335) (right false)
    ∷ row (size 2337) (right false)
    ∷ row (size 138528) (right false)
    ∷ row (size 0) (right false)
    -- Open: done, with all slots; then 12 for either setting, 11 before 12, and the book's refusal before both.
    ∷ row (opening example (replicate 2336 7) 0 0) (left 0 fresh)
    ∷ row (opening example (replicate 2336 7) 1 0) (left 0 (but ((5, 1) ∷ []) fresh))
    ∷ row (opening example (replicate 2336 7) 0 1) (left 0 (but ((6, 1) ∷ []) fresh))
    ∷ row (opening example (replicate 4464 7) 0 0) (left 0 (fresh ++ replicate 2128 0))
    ∷ row (opening example (replicate 2336 7) 2 0) (left 12 (replicate 2336 7))
    ∷ row (opening example (replicate 2336 7) 0 2) (left 12 (replicate 2336 7))
    ∷ row (opening example (replicate 9 7) 2 0) (left 11 (replicate 9 7))
    ∷ row (opening (text []) (replicate 9 7) 2 0) (left 2 (replicate 9 7))
    -- Step: done, with what is appended, and under each bound; nothing waiting; 12 for an unknown bound, and for Unbounded with a number, before 13; 11 before 12.
    ∷ row (stepping example fresh 0 0) (left 0 (but ((8, 2) ∷ []) (take 208 fresh) ++ stepped_sheet))
    ∷ row (stepping unmentioned fresh 0 0) (left 0 (but ((8, 2) ∷ []) (take 208 fresh) ++ named_sheet))
    ∷ row (stepping example fresh 1 0) (left 0 cut_pool)
    ∷ row (stepping example fresh 2 0) (left 0 (but ((8, 2) ∷ []) (take 208 fresh) ++ stepped_sheet))
    ∷ row (stepping example fresh 3 0) (left 0 (but ((8, 2) ∷ []) (take 208 fresh) ++ stepped_sheet))
    ∷ row (stepping deep fresh 2 0) (left 0 cut_pool)
    ∷ row (stepping deep fresh 3 0) (left 0 cut_pool)
    ∷ row (stepping example (but ((12, 0) ∷ []) fresh) 3 9) (left 14 (but ((12, 0) ∷ []) fresh))
    ∷ row (stepping example (replicate 2336 7) 3 9) (left 13 (replicate 2336 7))
    ∷ row (stepping example (replicate 2336 7) 4 9) (left 12 (replicate 2336 7))
    ∷ row (stepping example (replicate 2336 7) 0 1) (left 12 (replicate 2336 7))
    ∷ row (stepping example [] 4 9) (left 11 [])
    -- Run: done, with its stop and its steps, and with what is appended; no budget; 13 without a budget, too, and no steps.
    ∷ row (running example fresh 0 0 2) (ran 0 2 (but ((8, 2) ∷ (12, 0) ∷ (13, 1) ∷ []) (take 208 fresh) ++ stepped_sheet))
    ∷ row (running example fresh 0 0 3) (ran 14 2 (but ((8, 2) ∷ (12, 0) ∷ (13, 1) ∷ []) (take 208 fresh) ++ stepped_sheet))
    ∷ row (running unmentioned fresh 0 0 1) (ran 0 1 (but ((8, 2) ∷ []) (take 208 fresh) ++ named_sheet))
    ∷ row (running example fresh 0 0 0) (ran 0 0 fresh)
    ∷ row (running example (replicate 2336 7) 0 0 0) (ran 13 0 (replicate 2336 7))
    ∷ row (running example (replicate 2336 7) 0 1 0) (ran 12 0 (replicate 2336 7))
    -- Take: the first sheet of its list, whose slot is then zero; later output bytes stay.
    ∷ row (taking example (stocked (1 ∷ 0 ∷ []) []) 0 (replicate 2130 7)) (gave 0 (emptied (0 ∷ []) []) (stepped_sheet ++ (7 ∷ 7 ∷ [])))
    ∷ row (taking example (stocked (0 ∷ []) (1 ∷ [])) 0 (replicate 2128 7)) (gave 0 (stocked [] (1 ∷ [])) (replicate 2128 0))
    ∷ row (taking example (stocked (0 ∷ []) (1 ∷ [])) 1 (replicate 2128 7)) (gave 0 (emptied (0 ∷ []) []) stepped_sheet)
    -- 18, also where the output is too short; 19; 12 for an unknown list before 13, and 13 before 18.
    ∷ row (taking example (stocked [] (1 ∷ 0 ∷ [])) 0 []) (gave 18 (stocked [] (1 ∷ 0 ∷ [])) [])
    ∷ row (taking example (stocked [] (1 ∷ 0 ∷ [])) 1 (replicate 2127 7)) (gave 19 (stocked [] (1 ∷ 0 ∷ [])) (replicate 2127 7))
    ∷ row (taking example (replicate 2336 7) 2 []) (gave 12 (replicate 2336 7) [])
    ∷ row (taking example (replicate 2336 7) 0 []) (gave 13 (replicate 2336 7) [])
    ∷ []

abbrev pub table : List Row
table = books ++ (images ++ calls)

pub byte_corners : map (λ (r : Row). answered r.ask) table ≡ map (λ (r : Row). r.answer) table
unfolding answered
byte_corners = refl
