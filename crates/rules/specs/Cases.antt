-- What a row of the table of steps is, and the words that its rows are written in. The rows are in Corners and PoolRows, the claim
-- over them in Corners.
use Rattle.std.specs.Prelude.{ℕ, ◌-◌, List, [], ◌∷◌, ◌++◌, map, length, replicate}
use Rattle.base.specs.Branch.{if, case_o, case_l, three, order}
use Rattle.base.specs.Lists.{mem, without, firsts, keep, first_of, from, entries, flat}
use Rattle.rules.specs.Book.{Term, var, con, app, nil, cons, Literal, fact, Origin, Disjunct, Sequent, in_term, in_literal, appended, completed_disjunct, completed}
use Rattle.rules.specs.Sheet.{key, Fact, rel, Entry, Model, Sheet, Limits, empty, blank, find, holds, insert_key, insert_fact, domain, known}
use Rattle.rules.specs.Look.{origin_meaning, body_meanings, head_meanings, look_meaning, look, observed}
use Rattle.rules.specs.Fire.{choices, body_observed, disjunct_observed, head_observed, fires, numbered, firing, visits, place_after}
use Rattle.rules.specs.Bound.{Bound, unbounded, admits, depth_over, depth_at, depth_meaning, depth, terms_of, admitted}
use Rattle.rules.specs.Merge.{rename, rename_entry, rename_fact, insert_entry, in_order, file, refile, refact, merge_depths, merge_into, merge_all, lower_by, sum, lower, lowered, merge}
use Rattle.rules.specs.Child.{add, put, put_meaning, enter, too_big, recorded, tell, tells, child}
use Rattle.rules.specs.Pool.{State, scheduler_of, strategy_of, numbers, sheet_at, used, free, changed, freed}
use Rattle.rules.specs.Step.{placed, stored, open_slots, cut_slots, pushed, schedule, refuse, done, with_placed, without_base, with_children, step_on, step, Ran, run}

-- ---- what a case is

-- A run: its limits, budget and bound, the book's sequents, the whole pool before it, and what comes out, the whole pool included.
pub record Case : Type 0 where
  pub lim : Limits
  pub budget : ℕ
  pub bound : Bound
  pub sequents : List Sequent
  pub before : State
  pub after : Ran

-- Its `unfolding` line names every function of a run.
unfoldable pub did : Case → Ran
unfolding if case_o case_l three order mem without firsts keep first_of from entries flat in_term in_literal appended completed_disjunct completed
    empty blank find holds insert_key insert_fact domain known origin_meaning body_meanings head_meanings look_meaning look observed
    choices body_observed disjunct_observed head_observed fires numbered firing visits place_after
    admits depth_over depth_at depth_meaning depth terms_of admitted
    rename rename_entry rename_fact insert_entry in_order file refile refact merge_depths merge_into merge_all lower_by sum lower lowered merge
    add put put_meaning enter too_big recorded tell tells child scheduler_of strategy_of numbers sheet_at used free changed freed
    placed stored open_slots cut_slots pushed schedule refuse done with_placed without_base with_children step_on step run
did k = run k.lim k.budget k.bound (map completed k.sequents) k.before

-- ---- rules

-- Constants, functions of one argument, of two and of none, and the first three variables.
abbrev pub a : Term
a = con 0

abbrev pub b : Term
b = con 1

abbrev pub f : Term → Term
f t = app 0 (cons t nil)

abbrev pub g : Term → Term
g t = app 1 (cons t nil)

abbrev pub h : Term → Term → Term
h s t = app 2 (cons s (cons t nil))

abbrev pub k : Term
k = app 3 nil

abbrev pub x : Term
x = var 0

abbrev pub y : Term
y = var 1

abbrev pub z : Term
z = var 2

-- Relations of one argument, of two, and of none.
abbrev pub P : Term → Literal
P t = fact 0 (cons t nil)

abbrev pub R : Term → Literal
R t = fact 1 (cons t nil)

abbrev pub S : Term → Literal
S t = fact 2 (cons t nil)

abbrev pub Q : Term → Term → Literal
Q s t = fact 3 (cons s (cons t nil))

abbrev pub N : Literal
N = fact 4 nil

-- An origin that is a constant witness, and one that is function witness 0 at some free variables.
abbrev pub constant : ℕ → Origin
constant w = record { kind = 0; witness = w; args = [] }

abbrev pub function : List ℕ → Origin
function vs = record { kind = 1; witness = 0; args = vs }

-- A disjunct with its existentials, one without any, and one with constant witness 0.
abbrev pub some_of : List Origin → List Literal → Disjunct
some_of os ls = record { origins = os; literals = ls }

abbrev pub plain : List Literal → Disjunct
plain ls = some_of [] ls

abbrev pub exists : List Literal → Disjunct
exists ls = some_of (constant 0 ∷ []) ls

abbrev pub rule : ℕ → List Literal → List Disjunct → Sequent
rule v bs ds = record { free = v; body = bs; head = ds }

-- [] gives these literals.
abbrev pub always : List Literal → Sequent
always ls = rule 0 [] (plain ls ∷ [])

-- [] gives P(a) or R(a).
abbrev pub either : Sequent
either = rule 0 [] (plain (P a ∷ []) ∷ plain (R a ∷ []) ∷ [])

-- ---- sheets

abbrev pub model : ℕ → List Entry → List Fact → List ℕ → Model
model n ks fs ds = record { created = n; keys = ks; facts = fs; depths = ds }

-- Keys with their values: of the constants, of the functions at elements, of a constant witness, of function witness 0 at elements.
abbrev pub a↦ : ℕ → Entry
a↦ v = (key 1 0 [], v)

abbrev pub b↦ : ℕ → Entry
b↦ v = (key 1 1 [], v)

abbrev pub c↦ : ℕ → Entry
c↦ v = (key 1 2 [], v)

abbrev pub f↦ : ℕ → ℕ → Entry
f↦ e v = (key 2 0 (e ∷ []), v)

abbrev pub g↦ : ℕ → ℕ → Entry
g↦ e v = (key 2 1 (e ∷ []), v)

abbrev pub h↦ : ℕ → ℕ → ℕ → Entry
h↦ d e v = (key 2 2 (d ∷ e ∷ []), v)

abbrev pub k↦ : ℕ → Entry
k↦ v = (key 2 3 [], v)

abbrev pub constant↦ : ℕ → ℕ → Entry
constant↦ w v = (key 3 w [], v)

abbrev pub function↦ : List ℕ → ℕ → Entry
function↦ es v = (key 4 0 es, v)

-- Facts.
abbrev pub is_p : ℕ → Fact
is_p e = rel 0 (e ∷ [])

abbrev pub is_r : ℕ → Fact
is_r e = rel 1 (e ∷ [])

abbrev pub is_s : ℕ → Fact
is_s e = rel 2 (e ∷ [])

abbrev pub is_q : ℕ → ℕ → Fact
is_q d e = rel 3 (d ∷ e ∷ [])

abbrev pub is_n : Fact
is_n = rel 4 []

-- Nothing; a alone; a and b as two elements, and as one that was two.
abbrev pub nothing : Model
nothing = model 0 [] [] []

abbrev pub just_a : List Fact → Model
just_a fs = model 1 (a↦ 0 ∷ []) fs (0 ∷ [])

abbrev pub a_and_b : List Fact → Model
a_and_b fs = model 2 (a↦ 0 ∷ b↦ 1 ∷ []) fs (0 ∷ 0 ∷ [])

abbrev pub a_is_b : List Fact → Model
a_is_b fs = model 2 (a↦ 0 ∷ b↦ 0 ∷ []) fs (0 ∷ 0 ∷ [])

-- ---- pools and runs

abbrev pub sheet : ℕ → ℕ → Model → Sheet
sheet n p m = record { number = n; place = p; model = m }

-- An unused slot, all zero.
abbrev pub unused : Sheet
unused = sheet 0 0 nothing

-- Scheduler and strategy, the next number, the lists waiting, complete and bounded, and the slots.
abbrev pub pool : ℕ → ℕ → ℕ → List ℕ → List ℕ → List ℕ → List Sheet → State
pool sc st n w c b xs = record { scheduler = sc; strategy = st; next = n; waiting = w; complete = c; bounded = b; slots = xs }

-- FIFO and Linear, with three slots; those behind the given ones are unused.
abbrev pub three_slots : ℕ → List ℕ → List ℕ → List ℕ → List Sheet → State
three_slots n w c b xs = pool 0 0 n w c b (xs ++ replicate (3 - length xs) unused)

abbrev pub ran : ℕ → ℕ → State → Ran
ran stop steps s = record { stop = stop; steps = steps; state = s }

abbrev pub version_1 : Limits
version_1 = record { elements = 64; keys = 128; facts = 128 }

abbrev pub case : Limits → ℕ → Bound → List Sequent → State → Ran → Case
case lim n bd rs s r = record { lim = lim; budget = n; bound = bd; sequents = rs; before = s; after = r }

-- One step, unbounded, on a pool.
abbrev pub step_on_lem : State → List Sequent → Ran → Case
step_on_lem s rs r = case version_1 1 unbounded rs s r

-- One waiting sheet 0 in slot 0 of three, and one step with one sequent: under limits, under a bound, and under none.
abbrev pub within : Limits → Bound → Sequent → Model → Ran → Case
within lim bd r m after = case lim 1 bd (r ∷ []) (three_slots 1 (0 ∷ []) [] [] (sheet 0 0 m ∷ [])) after

abbrev pub under : Bound → Sequent → Model → Ran → Case
under bd r m after = within version_1 bd r m after

abbrev pub freely : Sequent → Model → Ran → Case
freely r m after = under unbounded r m after

-- That step: the base completed; it failed; it left one child, open or bounded; it was refused.
abbrev pub completes : Model → Ran
completes m = ran 0 1 (three_slots 1 [] (0 ∷ []) [] (sheet 0 0 m ∷ []))

abbrev pub fails : Ran
fails = ran 0 1 (three_slots 1 [] [] [] [])

abbrev pub opens : Model → Ran
opens m = ran 0 1 (three_slots 2 (0 ∷ []) [] [] (sheet 1 0 m ∷ []))

abbrev pub bounds : Model → Ran
bounds m = ran 0 1 (three_slots 2 [] [] (0 ∷ []) (sheet 1 0 m ∷ []))

abbrev pub refuses : ℕ → Model → Ran
refuses n m = ran n 0 (three_slots 1 (0 ∷ []) [] [] (sheet 0 0 m ∷ []))
