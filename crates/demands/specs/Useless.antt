-- The five useless engines of document 01. Each is a function from a run's inputs to an outcome, and at a named input the promise of
-- a run is false of it. The input is the book of document 01's listing example and a pool of one slot, opened with it; what the
-- promise asks there is computed from the bytes.
use Rattle.std.specs.Prelude.{◌≡◌, refl, ℕ, List, [], ◌∷◌, map, replicate}
use Rattle.std.proofs.Common.{◌∙◌, arith}
use Rattle.base.specs.Branch.{if, case_o, case_l, three, order}
use Rattle.base.specs.Lists.{mem, without, firsts, distinct, keep, first_of, from, entries, flat, equal}
use Rattle.rules.specs.Book.{terms, in_term, in_literal, appended, completed_disjunct, completed, rules}
use Rattle.rules.specs.Reading.{Bytes, case_read, and_then, giving, many, num, number, ranged, declared, mark_byte, mark, version, names_at, levels, term_at, literal_at, witnesses, witness_arity, origin_at, disjunct_at, sequent_at, ended, read_book}
use Rattle.rules.specs.Sheet.{limits, empty, blank, find, holds, insert_key, insert_fact, domain, known}
use Rattle.rules.specs.Look.{origin_meaning, body_meanings, head_meanings, look_meaning, look, observed}
use Rattle.rules.specs.Fire.{choices, body_observed, disjunct_observed, head_observed, fires, numbered, firing, visits, places, place_after}
use Rattle.rules.specs.Bound.{admits, depth_over, depth_at, depth_meaning, depth, terms_of, admitted}
use Rattle.rules.specs.Child.{add, put, put_meaning, enter, too_big, recorded, tell, tells, child}
use Rattle.rules.specs.Pool.{schedulers, scheduler_of, strategies, strategy_of, numbers, sheet_at, sheets_at, used, free, opened, changed, freed}
use Rattle.rules.specs.Step.{placed, stored, open_slots, cut_slots, pushed, schedule, refuse, done, with_placed, without_base, with_children, step_on, step, run}
use Rattle.rules.specs.Image.{word, long, padded, entry_bytes, key_bytes, fact_bytes, sheet_head, sheet_bytes, pool_mark, most_slots, pool_head, pool_bytes, head_size, sheet_size, slots_in, part, args_in, key_in, fact_in, parts, sheet_in, list_in, pool_in}
use Rattle.rules.specs.Sound.{rising, rising_from, has_arity, declared_as, key_declared, fact_declared, least, depth_right, sound_model, sound_sheet, is_blank, sound_lists, sound_numbers, sound_state, sound}
use Rattle.rules.specs.Calls.{right_length, bounds, bound_of, known_bound, checked, soundly, outcome, open_call, step_call, RunOutcome, run_call, RunPromise}

-- ---- the input

words : List ℕ → Bytes
words ns = flat (map word ns)

-- [] gives some x P(x).
example : Bytes
unfolding words flat word
example = 82 ∷ 85 ∷ 76 ∷ words (1 ∷ 0 ∷ 0 ∷ 1 ∷ 1 ∷ 0 ∷ 1 ∷ 1 ∷ 0 ∷ 0 ∷ 1 ∷ 1 ∷ 0 ∷ 0 ∷ 0 ∷ 1 ∷ 0 ∷ 0 ∷ 0 ∷ 0 ∷ [])

room : Bytes
room = replicate 2336 0

-- The outcome of a run with budget n from the opened pool, computed.
ran : ℕ → RunOutcome
unfolding example room if case_o case_l three order mem without firsts distinct keep first_of from entries flat equal terms in_term in_literal appended completed_disjunct completed rules case_read and_then giving many num number ranged declared mark_byte mark version names_at levels term_at literal_at witnesses witness_arity origin_at disjunct_at sequent_at ended read_book limits empty blank find holds insert_key insert_fact domain known origin_meaning body_meanings head_meanings look_meaning look observed choices body_observed disjunct_observed head_observed fires numbered firing visits places place_after admits depth_over depth_at depth_meaning depth terms_of admitted add put put_meaning enter too_big recorded tell tells child schedulers scheduler_of strategies strategy_of numbers sheet_at sheets_at used free opened changed freed placed stored open_slots cut_slots pushed schedule refuse done with_placed without_base with_children step_on step run word long padded entry_bytes key_bytes fact_bytes sheet_head sheet_bytes pool_mark most_slots pool_head pool_bytes head_size sheet_size slots_in part args_in key_in fact_in parts sheet_in list_in pool_in rising rising_from has_arity declared_as key_declared fact_declared least depth_right sound_model sound_sheet is_blank sound_lists sound_numbers sound_state sound right_length bounds bound_of known_bound checked soundly outcome open_call run_call
ran n = run_call example (open_call example room 0 0).pool 0 0 n

stops : (ran 1000).stop ≡ 14
unfolding ran
stops = refl

counts : (ran 1000).steps ≡ 2
unfolding ran
counts = refl

-- With budget 0 the arguments are checked and no step is made.
spent : (ran 0).stop ≡ 0
unfolding ran
spent = refl

-- What the promise asks of any outcome at that input.
asked : (n stop steps : ℕ) (after : Bytes) → RunPromise example (open_call example room 0 0).pool 0 0 n stop steps after → (stop ≡ (ran n).stop) × (steps ≡ (ran n).steps)
unfolding ran
asked n stop steps after p = (p.stops, p.counts)

-- ---- the engines

abbrev pub Engine : Type 0
Engine = (book pool : Bytes) (bound number budget : ℕ) → RunOutcome

abbrev pub Promised : Engine → Bytes → Bytes → ℕ → ℕ → ℕ → Type 0
Promised e book pool bound number budget =
    RunPromise book pool bound number budget (e book pool bound number budget).stop (e book pool bound number budget).steps (e book pool bound number budget).pool

-- The named inputs: the example's book, and the pool that open leaves, one slot, FIFO and Linear.
unfoldable pub example_book : Bytes
unfolding example
example_book = example

unfoldable pub example_pool : Bytes
unfolding example room
example_pool = (open_call example room 0 0).pool

unfoldable pub refuses_all : Engine
refuses_all book pool bound number budget = record { stop = 13; steps = 0; pool = pool }

unfoldable pub fixed_answer : RunOutcome → Engine
fixed_answer o book pool bound number budget = o

unfoldable pub no_step : Engine
no_step book pool bound number budget = record { stop = 0; steps = 0; pool = pool }

-- It steps once, and says that nothing is left to do.
unfoldable pub steps_once : Engine
steps_once book pool bound number budget = record { stop = 14; steps = 1; pool = (step_call book pool bound number).pool }

-- It runs as it should, and says that it took the whole budget.
unfoldable pub invents_count : Engine
invents_count book pool bound number budget =
    record { stop = (run_call book pool bound number budget).stop; steps = budget; pool = (run_call book pool bound number budget).pool }

pub refuses_all_breaks : Promised refuses_all example_book example_pool 0 0 1000 → ⊥
unfolding refuses_all example_book example_pool
refuses_all_breaks p = let a = (asked 1000 _ _ _ p).0 ∙ stops in omega arith

-- Whatever the fixed answer is, it is wrong with budget 1,000 or with budget 0.
pub fixed_answer_breaks : (o : RunOutcome) → Promised (fixed_answer o) example_book example_pool 0 0 1000 → Promised (fixed_answer o) example_book example_pool 0 0 0 → ⊥
unfolding fixed_answer example_book example_pool
fixed_answer_breaks o p q = let a = (asked 1000 _ _ _ p).0 ∙ stops in let b = (asked 0 _ _ _ q).0 ∙ spent in omega arith

pub no_step_breaks : Promised no_step example_book example_pool 0 0 1000 → ⊥
unfolding no_step example_book example_pool
no_step_breaks p = let a = (asked 1000 _ _ _ p).0 ∙ stops in omega arith

pub steps_once_breaks : Promised steps_once example_book example_pool 0 0 1000 → ⊥
unfolding steps_once example_book example_pool
steps_once_breaks p = let a = (asked 1000 _ _ _ p).1 ∙ counts in omega arith

pub invents_count_breaks : Promised invents_count example_book example_pool 0 0 1000 → ⊥
unfolding invents_count example_book example_pool
invents_count_breaks p = let a = (asked 1000 _ _ _ p).1 ∙ counts in omega arith
