-- The table of computed examples: inputs of the listing program with what it prints, and a state with its listing. Document 01's
-- example is the first; the refusals follow docs/DECISIONS.md, "Reading the listing".
use Rattle.std.specs.Prelude.{◌≡◌, refl, ℕ, List, [], ◌∷◌, map}
use Rattle.base.specs.Branch.{if, case_o, case_l, three, order}
use Rattle.base.specs.Lists.{mem, without, firsts, keep, first_of, from, entries, flat}
use Rattle.rules.specs.Book.{terms, in_term, in_literal, appended, completed_disjunct, completed, rules}
use Rattle.rules.specs.Reading.{Bytes, case_read, and_then, giving, many, num, number, ranged, declared, mark_byte, mark, version, names_at, levels, term_at, literal_at, witnesses, witness_arity, origin_at, disjunct_at, sequent_at, ended, read_book}
use Rattle.rules.specs.Sheet.{key, rel, Model, Sheet, limits, empty, blank, find, holds, insert_key, insert_fact, domain, known}
use Rattle.rules.specs.Look.{origin_meaning, body_meanings, head_meanings, look_meaning, look, observed}
use Rattle.rules.specs.Fire.{choices, body_observed, disjunct_observed, head_observed, fires, numbered, firing, visits, place_after}
use Rattle.rules.specs.Bound.{admits, depth_over, depth_at, depth_meaning, depth, terms_of, admitted}
use Rattle.rules.specs.Merge.{rename, rename_entry, rename_fact, insert_entry, in_order, file, refile, refact, merge_depths, merge_into, merge_all, lower_by, sum, lower, lowered, merge}
use Rattle.rules.specs.Child.{add, put, put_meaning, enter, too_big, recorded, tell, tells, child}
use Rattle.rules.specs.Pool.{State, schedulers, scheduler_of, strategies, strategy_of, numbers, sheet_at, sheets_at, used, free, opened, changed, freed}
use Rattle.rules.specs.Step.{placed, stored, open_slots, cut_slots, pushed, schedule, refuse, done, with_placed, without_base, with_children, step_on, step, run}
use Rattle.rules.specs.Image.{word}
use Rattle.rules.specs.Calls.{bounds, bound_of, known_bound}
use Rattle.lines.specs.Text.{digits, decimal, fields, key_word, equals_word, depth_word, fact_word, complete_word, bounded_word, waiting_word, stop_word, steps_word, refused_word, newline, key_line, depth_text, depth_line, fact_line, told, model_lines, sheet_lines, listing, refusal}
use Rattle.lines.specs.Printed.{settings_in, known_settings, slot_count, budget, ran, printed}

-- An input and what it prints.
pub record Case : Type 0 where
  pub input : Bytes
  pub prints : Bytes

-- Its `unfolding` line names every function of a reading, of a run and of the text.
pub did : Case → Bytes
unfolding if case_o case_l three order mem without firsts keep first_of from entries flat terms in_term in_literal appended completed_disjunct completed rules case_read and_then giving many num number ranged declared mark_byte mark version names_at levels term_at literal_at witnesses witness_arity origin_at disjunct_at sequent_at ended read_book limits empty blank find holds insert_key insert_fact domain known origin_meaning body_meanings head_meanings look_meaning look observed choices body_observed disjunct_observed head_observed fires numbered firing visits place_after admits depth_over depth_at depth_meaning depth terms_of admitted rename rename_entry rename_fact insert_entry in_order file refile refact merge_depths merge_into merge_all lower_by sum lower lowered merge add put put_meaning enter too_big recorded tell tells child schedulers scheduler_of strategies strategy_of numbers sheet_at sheets_at used free opened changed freed placed stored open_slots cut_slots pushed schedule refuse done with_placed without_base with_children step_on step run bounds bound_of known_bound digits decimal fields key_word equals_word depth_word fact_word complete_word bounded_word waiting_word stop_word steps_word refused_word newline key_line depth_text depth_line fact_line told model_lines sheet_lines listing refusal settings_in known_settings slot_count budget ran printed
did k = printed k.input

-- ---- words for the table

-- `RUL`, then 16-bit numbers.
book : List ℕ → Bytes
unfolding word flat
book ns = 82 ∷ 85 ∷ 76 ∷ flat (map word ns)

-- Document 01's book: [] gives some x R(x).
something : Bytes
unfolding book
something = book (1 ∷ 0 ∷ 0 ∷ 1 ∷ 1 ∷ 0 ∷ 1 ∷ 1 ∷ 0 ∷ 0 ∷ 1 ∷ 1 ∷ 0 ∷ 0 ∷ 0 ∷ 1 ∷ 0 ∷ 0 ∷ 0 ∷ 0 ∷ [])

-- `refused` and a number of one digit, of two.
refuses : ℕ → Bytes
refuses d = 114 ∷ 101 ∷ 102 ∷ 117 ∷ 115 ∷ 101 ∷ 100 ∷ 32 ∷ d ∷ 10 ∷ []

refuses₂ : ℕ → ℕ → Bytes
refuses₂ c d = 114 ∷ 101 ∷ 102 ∷ 117 ∷ 115 ∷ 101 ∷ 100 ∷ 32 ∷ c ∷ d ∷ 10 ∷ []

-- ---- the table

pub table : List Case
unfolding something book refuses refuses₂
table =
    -- Settings all 0.
    record {
      input = 0 ∷ 0 ∷ 0 ∷ 0 ∷ 0 ∷ 0 ∷ 0 ∷ 0 ∷ something;
      prints =
          -- stop 14 steps 2
          115 ∷ 116 ∷ 111 ∷ 112 ∷ 32 ∷ 49 ∷ 52 ∷ 32 ∷ 115 ∷ 116 ∷ 101 ∷ 112 ∷ 115 ∷ 32 ∷ 50 ∷ 10 ∷
          -- complete 1
          99 ∷ 111 ∷ 109 ∷ 112 ∷ 108 ∷ 101 ∷ 116 ∷ 101 ∷ 32 ∷ 49 ∷ 10 ∷
          -- key 3 0 = 0
          107 ∷ 101 ∷ 121 ∷ 32 ∷ 51 ∷ 32 ∷ 48 ∷ 32 ∷ 61 ∷ 32 ∷ 48 ∷ 10 ∷
          -- depth 0 0
          100 ∷ 101 ∷ 112 ∷ 116 ∷ 104 ∷ 32 ∷ 48 ∷ 32 ∷ 48 ∷ 10 ∷
          -- fact 0 0
          102 ∷ 97 ∷ 99 ∷ 116 ∷ 32 ∷ 48 ∷ 32 ∷ 48 ∷ 10 ∷
          -- waiting 0
          119 ∷ 97 ∷ 105 ∷ 116 ∷ 105 ∷ 110 ∷ 103 ∷ 32 ∷ 48 ∷ 10 ∷
          [];
    }
    -- LIFO, Fair, DomainSize(0): the child is bounded, and empty.
    ∷ record {
      input = 1 ∷ 1 ∷ 1 ∷ 0 ∷ 0 ∷ 0 ∷ 0 ∷ 0 ∷ something;
      prints =
          -- stop 14 steps 1
          115 ∷ 116 ∷ 111 ∷ 112 ∷ 32 ∷ 49 ∷ 52 ∷ 32 ∷ 115 ∷ 116 ∷ 101 ∷ 112 ∷ 115 ∷ 32 ∷ 49 ∷ 10 ∷
          -- bounded 1
          98 ∷ 111 ∷ 117 ∷ 110 ∷ 100 ∷ 101 ∷ 100 ∷ 32 ∷ 49 ∷ 10 ∷
          -- waiting 0
          119 ∷ 97 ∷ 105 ∷ 116 ∷ 105 ∷ 110 ∷ 103 ∷ 32 ∷ 48 ∷ 10 ∷
          [];
    }
    -- Under 8 bytes; a book that ends inside the mark.
    ∷ record { input = 0 ∷ 0 ∷ 0 ∷ 1 ∷ 0 ∷ 0 ∷ 0 ∷ []; prints = refuses 50 }
    ∷ record { input = 0 ∷ 0 ∷ 0 ∷ 0 ∷ 0 ∷ 0 ∷ 0 ∷ 0 ∷ []; prints = refuses 50 }
    -- A fourth byte that is not 0, alone and beside a wrong mark.
    ∷ record { input = 0 ∷ 0 ∷ 0 ∷ 1 ∷ 0 ∷ 0 ∷ 0 ∷ 0 ∷ something; prints = refuses₂ 49 50 }
    ∷ record { input = 0 ∷ 0 ∷ 0 ∷ 1 ∷ 0 ∷ 0 ∷ 0 ∷ 0 ∷ 82 ∷ 85 ∷ 88 ∷ []; prints = refuses 51 }
    -- Unbounded with the number 65,536.
    ∷ record { input = 0 ∷ 0 ∷ 0 ∷ 0 ∷ 0 ∷ 0 ∷ 1 ∷ 0 ∷ something; prints = refuses₂ 49 50 }
    ∷ []

pub printed_right : map did table ≡ map (λ (k : Case). k.prints) table
unfolding did table
printed_right = refl

-- ---- a state

sheet : ℕ → Model → Sheet
sheet n m = record { number = n; place = 0; model = m }

-- Element 1 was merged away; a fact without arguments, and one with four.
several : Model
several = record {
  created = 3;
  keys = (key 1 0 [], 0) ∷ (key 2 9 (0 ∷ 63 ∷ []), 2) ∷ [];
  facts = rel 0 [] ∷ rel 12 (2 ∷ 0 ∷ 0 ∷ 2 ∷ []) ∷ [];
  depths = 0 ∷ 0 ∷ 10 ∷ [];
}

-- The complete list names slot 2; the bounded one slots 1 and 0.
state : State
unfolding sheet several empty
state = record {
  scheduler = 0;
  strategy = 0;
  next = 65536;
  waiting = 3 ∷ 4 ∷ 5 ∷ [];
  complete = 2 ∷ [];
  bounded = 1 ∷ 0 ∷ [];
  slots = sheet 7 empty ∷ sheet 100 empty ∷ sheet 65535 several ∷ [];
}

pub shown : Bytes
unfolding if mem without firsts keep from flat empty domain known sheet_at sheets_at digits decimal fields key_word equals_word depth_word fact_word complete_word bounded_word waiting_word stop_word steps_word refused_word newline key_line depth_text depth_line fact_line told model_lines sheet_lines listing state
shown = listing 0 1000 state

pub stands : Bytes
stands =
    -- stop 0 steps 1000
    115 ∷ 116 ∷ 111 ∷ 112 ∷ 32 ∷ 48 ∷ 32 ∷ 115 ∷ 116 ∷ 101 ∷ 112 ∷ 115 ∷ 32 ∷ 49 ∷ 48 ∷ 48 ∷ 48 ∷ 10 ∷
    -- complete 65535
    99 ∷ 111 ∷ 109 ∷ 112 ∷ 108 ∷ 101 ∷ 116 ∷ 101 ∷ 32 ∷ 54 ∷ 53 ∷ 53 ∷ 51 ∷ 53 ∷ 10 ∷
    -- key 1 0 = 0
    107 ∷ 101 ∷ 121 ∷ 32 ∷ 49 ∷ 32 ∷ 48 ∷ 32 ∷ 61 ∷ 32 ∷ 48 ∷ 10 ∷
    -- key 2 9 0 63 = 2
    107 ∷ 101 ∷ 121 ∷ 32 ∷ 50 ∷ 32 ∷ 57 ∷ 32 ∷ 48 ∷ 32 ∷ 54 ∷ 51 ∷ 32 ∷ 61 ∷ 32 ∷ 50 ∷ 10 ∷
    -- depth 0 0
    100 ∷ 101 ∷ 112 ∷ 116 ∷ 104 ∷ 32 ∷ 48 ∷ 32 ∷ 48 ∷ 10 ∷
    -- depth 2 10
    100 ∷ 101 ∷ 112 ∷ 116 ∷ 104 ∷ 32 ∷ 50 ∷ 32 ∷ 49 ∷ 48 ∷ 10 ∷
    -- fact 0
    102 ∷ 97 ∷ 99 ∷ 116 ∷ 32 ∷ 48 ∷ 10 ∷
    -- fact 12 2 0 0 2
    102 ∷ 97 ∷ 99 ∷ 116 ∷ 32 ∷ 49 ∷ 50 ∷ 32 ∷ 50 ∷ 32 ∷ 48 ∷ 32 ∷ 48 ∷ 32 ∷ 50 ∷ 10 ∷
    -- bounded 100
    98 ∷ 111 ∷ 117 ∷ 110 ∷ 100 ∷ 101 ∷ 100 ∷ 32 ∷ 49 ∷ 48 ∷ 48 ∷ 10 ∷
    -- bounded 7
    98 ∷ 111 ∷ 117 ∷ 110 ∷ 100 ∷ 101 ∷ 100 ∷ 32 ∷ 55 ∷ 10 ∷
    -- waiting 3
    119 ∷ 97 ∷ 105 ∷ 116 ∷ 105 ∷ 110 ∷ 103 ∷ 32 ∷ 51 ∷ 10 ∷
    []

pub listing_right : shown ≡ stands
unfolding shown stands
listing_right = refl
