-- No empty talk: closed books, models and arrangements that have and have not what the theorems speak of, each by computing.
-- A book with two complete models, of which an arrangement that keeps it fits the one and not the other; an arrangement that
-- does not keep it; and books all of whose branches fail, one of them only by a merge that another merge brings about.
use Rattle.std.specs.Prelude.{◌≡◌, refl, ℕ, zero, suc, ◌<◌, Bool, true, false, not, ◌⊎◌, List, [], ◌∷◌, ◌++◌, map, T, eqb}
use Rattle.std.proofs.Common.{sym, ap, ◌∙◌, arith, inl, inr}
use Rattle.std.proofs.Math.Option.{none, some}
use Rattle.base.specs.Branch.{if}
use Rattle.base.specs.Lists.{Some, entries}
use Rattle.base.specs.BranchLaws.{if_elim}
use Rattle.rules.specs.Book.{var, same, Disjunct, Sequent}
use Rattle.rules.specs.Sheet.{rel, Model, Sheet, limits}
use Rattle.rules.specs.Fire.{body_observed, firing, linear, visits}
use Rattle.rules.specs.Bound.{unbounded}
use Rattle.rules.specs.Child.{child}
use Rattle.rules.specs.Pool.{State, sheets_at, opened}
use Rattle.rules.specs.Step.{run}
use Rattle.rules.specs.Cases.{did, a, b, f, P, R, function, some_of, plain, rule, model, a↦, b↦, f↦, function↦}
use Rattle.rules.specs.Arrangement.{Arrangement, eval, is_true, origin_value, body_true, disjunct_true, head_true, Keeps, KeepsRule, Fits}
use Rattle.laws.specs.Firing.{visits_within}
use Rattle.fitting.specs.Fire.{Held, held_fits, fired_held}

-- ---- runs

-- How a run of a new pool ends: the stop, how many steps it made, and the models in each list.
pub record Ended : Type 0 where
  pub stop : ℕ
  pub steps : ℕ
  pub waiting : List Model
  pub complete : List Model
  pub bounded : List Model

unfoldable pub models : State → List ℕ → List Model
models s is = map (λ (x : Sheet). x.model) (sheets_at s is)

-- Its `unfolding` line names every function of a run, by `did`: what says `unfolding ended` computes.
unfoldable pub ended : List Sequent → Ended
unfolding did limits opened sheets_at models
ended rs =
    let r = run limits 1000 unbounded rs (opened 0 0 12) in
    let s = r.state in
    record { stop = r.stop; steps = r.steps; waiting = models s s.waiting; complete = models s s.complete; bounded = models s s.bounded }

-- After so many steps nothing waits, nothing was cut, and these models are complete.
abbrev pub leaves : ℕ → List Model → Ended
leaves n ms = record { stop = 14; steps = n; waiting = []; complete = ms; bounded = [] }

-- ---- a book and its two complete models

-- P(x) gives some y R(f(y)), or f(x) = x.
abbrev pub splits : Sequent
splits = rule 1 (P (var 0) ∷ []) (some_of (function (0 ∷ []) ∷ []) (R (f (var 1)) ∷ []) ∷ plain (same (f (var 0)) (var 0) ∷ []) ∷ [])

-- [] gives P(a); and that.
abbrev pub book : List Sequent
book = rule 0 [] (plain (P a ∷ []) ∷ []) ∷ splits ∷ []

abbrev pub split : Model
split = model 3 (a↦ 0 ∷ f↦ 1 2 ∷ function↦ (0 ∷ []) 1 ∷ []) (rel 0 (0 ∷ []) ∷ rel 1 (2 ∷ []) ∷ []) (0 ∷ 1 ∷ 2 ∷ [])

abbrev pub fixed : Model
fixed = model 2 (a↦ 0 ∷ f↦ 0 0 ∷ []) (rel 0 (0 ∷ []) ∷ []) (0 ∷ 0 ∷ [])

pub book_ends : ended book ≡ leaves 4 (split ∷ fixed ∷ [])
unfolding ended
book_ends = refl

pub split_complete : firing split (visits linear 0 book) ≡ none
unfolding ended
split_complete = refl

pub fixed_complete : firing fixed (visits linear 0 book) ≡ none
unfolding ended
fixed_complete = refl

-- The second rule has something to keep: its body is observed.
pub split_body : T (body_observed split splits (0 ∷ []))
unfolding ended
split_body = tt

-- ---- arrangements

abbrev pub is_zero : List ℕ → Bool
is_zero [] = false
is_zero (zero ∷ xs) = true
is_zero (suc n ∷ xs) = false

abbrev other : List ℕ → ℕ
other [] = 0
other (zero ∷ xs) = 1
other (suc n ∷ xs) = 0

pub other_low : (xs : List ℕ) → other xs < 2
other_low [] = omega arith
other_low (zero ∷ xs) = omega arith
other_low (suc n ∷ xs) = omega arith

-- Things 0 and 1. f exchanges them, all else is 0. P is true of 0 alone, R as is told.
abbrev pub arranged : (List ℕ → Bool) → Arrangement
arranged q = record {
  thing = λ n. n < 2;
  one = 0;
  one_is = omega arith;
  value = λ kind symbol xs. if (eqb kind 2) (λ _. other xs) (λ _. 0);
  closed = λ kind symbol xs _. if_elim (λ v. v < 2) _ _ _ (λ _. other_low xs) (λ _. omega arith);
  truth = λ r xs. if (eqb r 0) (λ _. is_zero xs) (λ _. q xs);
}

abbrev pub exchange : Arrangement
exchange = arranged (λ xs. not (is_zero xs))

pub exchange_false : T (not (exchange.truth 0 (1 ∷ [])))
unfolding if
exchange_false = tt

splits_kept : KeepsRule exchange splits
unfolding if body_true head_true disjunct_true is_true eval origin_value entries
splits_kept [] l ts t = absurd (omega arith)
splits_kept (zero ∷ []) l ts t = tt
splits_kept (suc n ∷ []) l ts t = absurd t
splits_kept (x ∷ y ∷ c) l ts t = absurd (omega arith)

pub exchange_keeps : Keeps exchange book
unfolding if body_true head_true disjunct_true is_true eval
exchange_keeps = (λ c l ts t. tt, (splits_kept, tt))

-- The three elements of `split` are given two things.
pub exchange_fits : Fits exchange split
unfolding if
exchange_fits = record {
  give = λ e. if (eqb e 2) (λ _. 1) (λ _. 0);
  things = λ e _. if_elim (λ v. v < 2) (eqb e 2) (λ _. 1) (λ _. 0) (λ _. omega arith) (λ _. omega arith);
  keys = (refl, (refl, (refl, tt)));
  facts = (tt, (tt, tt));
}

pub exchange_not : Fits exchange fixed → ⊥
unfolding if
exchange_not g =
    let e = g.keys.0 in
    let p : ◌≡◌ {A = ℕ} 1 0 = ap (λ x. other (x ∷ [])) e ∙ g.keys.1.0 ∙ sym e in
    omega arith

-- A fact alone may keep a sheet from fitting: a->0 with R(0), where `exchange` has 0 for a and R true of 1 alone.
pub fact_not : Fits exchange (model 1 (a↦ 0 ∷ []) (rel 1 (0 ∷ []) ∷ []) (0 ∷ [])) → ⊥
unfolding if
fact_not g = go (g.give 0) g.keys.0 g.facts.0
  where
    go : (n : ℕ) → 0 ≡ n → T (not (is_zero (n ∷ []))) → ⊥
    go zero e t = t
    go (suc n) e t = omega arith

-- Without a true R the second rule is broken.
pub false_breaks : Keeps (arranged (λ _. false)) book → ⊥
unfolding if body_true head_true disjunct_true is_true eval origin_value entries
false_breaks k = k.1.0 (0 ∷ []) refl (omega arith, tt) tt

-- ---- a firing

-- What the first step leaves.
abbrev pub seed : Model
seed = model 1 (a↦ 0 ∷ []) (rel 0 (0 ∷ []) ∷ []) (0 ∷ [])

pub seed_held : Held exchange seed
unfolding if
seed_held = record {
  give = λ _. 0;
  fit = record {
    things = λ _. omega arith;
    keys = (record { stands = refl; low = tt; value_low = omega arith }, tt);
    facts = (record { stands = tt; low = (omega arith, tt) }, tt);
  };
}

-- There the second rule fires, its children are the two complete models, and the theorem's child is the first.
pub seed_fires : firing seed (visits linear 0 book) ≡ some (record { index = 1; sequent = splits; choice = 0 ∷ [] })
unfolding ended
seed_fires = refl

pub seed_children : map (λ (d : Disjunct). (child limits unbounded seed (0 ∷ []) d).model) splits.head ≡ split ∷ fixed ∷ []
unfolding ended
seed_children = refl

pub split_held : Held exchange split
unfolding ended
split_held = pick (fired_held exchange book exchange_keeps limits unbounded seed (visits linear 0 book) (visits_within linear 0 book) seed_held
    (record { index = 1; sequent = splits; choice = 0 ∷ [] }) seed_fires)
  where
    pick : Held exchange split ⊎ Some (λ (m : Model). Held exchange m) (fixed ∷ []) → Held exchange split
    pick (inl g) = g
    pick (inr (inl g)) = absurd (exchange_not (held_fits exchange fixed g))
    pick (inr (inr g)) = absurd g.lower

-- ---- books that fail

-- [] gives P(a) or R(a); each of the two is refuted.
pub all_fail : ended (rule 0 [] (plain (P a ∷ []) ∷ plain (R a ∷ []) ∷ []) ∷ rule 1 (P (var 0) ∷ []) [] ∷ rule 1 (R (var 0) ∷ []) [] ∷ []) ≡ leaves 3 []
unfolding ended
all_fail = refl

-- [] gives P(f(a)), R(f(b)); P(x), R(x) is refuted. That has a model, in which f(a) and f(b) are two elements.
abbrev pub apart : List Sequent
apart = rule 0 [] (plain (P (f a) ∷ R (f b) ∷ []) ∷ []) ∷ rule 1 (P (var 0) ∷ R (var 0) ∷ []) [] ∷ []

abbrev pub two : Model
two = model 4 (a↦ 0 ∷ b↦ 2 ∷ f↦ 0 1 ∷ f↦ 2 3 ∷ []) (rel 0 (1 ∷ []) ∷ rel 1 (3 ∷ []) ∷ []) (0 ∷ 1 ∷ 0 ∷ 1 ∷ [])

pub apart_ends : ended apart ≡ leaves 2 (two ∷ [])
unfolding ended
apart_ends = refl

-- With [] gives a = b behind these, they become one because a and b do, and then that one is refuted.
abbrev pub joined : Disjunct
joined = plain (same a b ∷ [])

pub two_merged : (child limits unbounded two [] joined).model ≡ model 4 (a↦ 0 ∷ b↦ 0 ∷ f↦ 0 1 ∷ []) (rel 0 (1 ∷ []) ∷ rel 1 (1 ∷ []) ∷ []) (0 ∷ 1 ∷ 0 ∷ 0 ∷ [])
unfolding ended
two_merged = refl

pub merged_fails : ended (apart ++ (rule 0 [] (joined ∷ []) ∷ [])) ≡ leaves 3 []
unfolding ended
merged_fails = refl
