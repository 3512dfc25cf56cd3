-- What things are for: arrangements that keep a rule, or do not fit a sheet, only because some numbers are no things; and one with
-- infinitely many things, which keeps a book that only such arrangements keep. No run can show the sheet that does not fit, `circle`:
-- each element of a sound sheet has a name, and what a name is given is a thing (demands.Named), so `circle` is not sound.
use Rattle.std.specs.Prelude.{◌≡◌, not, ◌&&◌, T}
use Rattle.std.proofs.Math.Path.{refl, ap}
use Rattle.std.proofs.Common.{sym, arith, eqb→eq}
use Prim.Native.Nat.{ℕ, zero, suc, ◌<◌}
use Rattle.std.proofs.Math.Bool.{true, false}
use Rattle.std.proofs.Math.Logic.{inl, inr}
use mathlib.Core.List.{List, [], ◌∷◌}
use Rattle.std.proofs.Math.Dec.{eqb}
use Rattle.base.specs.Branch.{if}
use Rattle.base.specs.Lists.{All}
use Rattle.base.specs.BranchLaws.{if_elim, eq→eqb, and_l, and_i, or_l, or_is}
use Rattle.rules.specs.Book.{var, same, Sequent}
use Rattle.rules.specs.Sheet.{rel, Model}
use Rattle.rules.specs.Bound.{unbounded}
use Rattle.rules.specs.Pool.{opened}
use Rattle.rules.specs.Step.{run}
use Rattle.rules.specs.Arrangement.{Arrangement, eval, is_true, body_true, disjunct_true, head_true, Keeps, KeepsRule, KeyHolds, FactHolds, Fits}
use Rattle.rules.specs.Cases.{a, f, P, R, plain, rule, model, f↦}
use Rattle.fitting.specs.Real.{is_zero, ended}

-- ---- a rule that a number breaks which is no thing

-- P(x) gives R(x).
abbrev pub claims : Sequent
claims = rule 1 (P (var 0) ∷ []) (plain (R (var 0) ∷ []) ∷ [])

-- 0 is the only thing. P is true of every number, R of 0 alone.
abbrev pub lone : Arrangement
lone = record {
  thing = λ n. n ≡ 0;
  one = 0;
  one_is = refl;
  value = λ kind symbol xs. 0;
  closed = λ kind symbol xs _. refl;
  truth = λ r xs. if (eqb r 0) (λ _. true) (λ _. is_zero xs);
}

pub lone_keeps : KeepsRule lone claims
unfolding if body_true head_true disjunct_true is_true eval
lone_keeps [] l ts t = absurd (omega arith)
lone_keeps (zero ∷ []) l ts t = tt
lone_keeps (suc n ∷ []) l ts t = let z = ts.0 in absurd (omega arith)
lone_keeps (x ∷ y ∷ c) l ts t = absurd (omega arith)

-- It has something to keep: at the thing 0 the body is true.
pub lone_body : T (body_true lone claims (0 ∷ []))
unfolding if body_true is_true eval
lone_body = tt

-- At 1 the body is true and the head is not; but 1 is no thing.
pub one_breaks : T (body_true lone claims (1 ∷ [])) × T (not (head_true lone claims (1 ∷ [])))
unfolding if body_true head_true disjunct_true is_true eval
one_breaks = (tt, tt)

pub one_no_thing : lone.thing 1 → ⊥
one_no_thing e = omega arith

-- ---- a sheet that could be given what is no thing

-- 0 to 1, 1 to 0, any other number to itself.
abbrev swapped : List ℕ → ℕ
swapped [] = 0
swapped (zero ∷ xs) = 1
swapped (suc zero ∷ xs) = 0
swapped (suc (suc n) ∷ xs) = suc (suc n)

pub swapped_low : (xs : List ℕ) → All (λ n. n < 2) xs → swapped xs < 2
swapped_low [] a = omega arith
swapped_low (zero ∷ xs) a = omega arith
swapped_low (suc zero ∷ xs) a = omega arith
swapped_low (suc (suc n) ∷ xs) a = let l = a.0 in omega arith

-- Things 0 and 1, which f exchanges. P is true of every number.
abbrev pub swaps : Arrangement
swaps = record {
  thing = λ n. n < 2;
  one = 0;
  one_is = omega arith;
  value = λ kind symbol xs. if (eqb kind 2) (λ _. swapped xs) (λ _. 0);
  closed = λ kind symbol xs ts. if_elim (λ v. v < 2) _ _ _ (λ _. swapped_low xs ts) (λ _. omega arith);
  truth = λ r xs. true;
}

-- f(0) is 0, and P(0).
abbrev pub circle : Model
circle = model 1 (f↦ 0 0 ∷ []) (rel 0 (0 ∷ []) ∷ []) (0 ∷ [])

-- With 2 for its element all keys and facts hold; but 2 is no thing, and no thing will do.
pub circle_keys : All (KeyHolds swaps (λ _. 2)) circle.keys
unfolding if
circle_keys = (refl, tt)

pub circle_facts : All (FactHolds swaps (λ _. 2)) circle.facts
circle_facts = (tt, tt)

pub two_no_thing : swaps.thing 2 → ⊥
two_no_thing l = omega arith

pub circle_not : Fits swaps circle → ⊥
unfolding ended
circle_not g = go (g.give 0) (g.things 0 tt) g.keys.0
  where
    go : (n : ℕ) → n < 2 → swapped (n ∷ []) ≡ n → ⊥
    go zero l e = omega arith
    go (suc zero) l e = omega arith
    go (suc (suc n)) l e = omega arith

-- ---- infinitely many things

-- [] gives P(a); P(x) gives P(f(x)); f(x) = f(y) gives x = y; f(x) = a gives nothing.
abbrev pub endless : List Sequent
endless =
    rule 0 [] (plain (P a ∷ []) ∷ [])
    ∷ rule 1 (P (var 0) ∷ []) (plain (P (f (var 0)) ∷ []) ∷ [])
    ∷ rule 2 (same (f (var 0)) (f (var 1)) ∷ []) (plain (same (var 0) (var 1) ∷ []) ∷ [])
    ∷ rule 1 (same (f (var 0)) a ∷ []) []
    ∷ []

abbrev next : List ℕ → ℕ
next [] = 0
next (n ∷ xs) = suc n

-- Every number is a thing; a is 0, f adds one, P is true of all.
abbrev pub counting : Arrangement
counting = record {
  thing = λ n. Unit;
  one = 0;
  one_is = tt;
  value = λ kind symbol xs. next xs;
  closed = λ kind symbol xs ts. tt;
  truth = λ r xs. true;
}

pub counting_keeps : Keeps counting endless
unfolding if body_true head_true disjunct_true is_true eval
counting_keeps = (λ c l ts t. tt, (λ c l ts t. tt, (one_one, (not_first, tt))))
  where
    one_one : KeepsRule counting (rule 2 (same (f (var 0)) (f (var 1)) ∷ []) (plain (same (var 0) (var 1) ∷ []) ∷ []))
    one_one [] l ts t = absurd (omega arith)
    one_one (x ∷ []) l ts t = absurd (omega arith)
    one_one (x ∷ y ∷ []) l ts t = let e = eqb→eq (suc x) (suc y) (and_l (eqb (suc x) (suc y)) true t) in or_l (eqb x y && true) false (and_i (eqb x y) true (eq→eqb x y (omega arith)) tt)
    one_one (x ∷ y ∷ z ∷ c) l ts t = absurd (omega arith)

    not_first : KeepsRule counting (rule 1 (same (f (var 0)) a ∷ []) [])
    not_first [] l ts t = absurd (omega arith)
    not_first (x ∷ []) l ts t = let e = eqb→eq (suc x) 0 (and_l (eqb (suc x) 0) true t) in absurd (omega arith)
    not_first (x ∷ y ∷ c) l ts t = absurd (omega arith)

-- Whatever keeps the book has a thing for each number, a different one for each: a, f(a), f(f(a)) and so on.
module _ (A : Arrangement) (k : Keeps A endless) where
  pub towers : ℕ → ℕ
  towers zero = A.value 1 0 []
  towers (suc n) = A.value 2 0 (towers n ∷ [])

  pub towers_things : (n : ℕ) → A.thing (towers n)
  unfolding towers
  towers_things zero = A.closed 1 0 [] tt
  towers_things (suc n) = A.closed 2 0 (towers n ∷ []) (towers_things n, tt)

  not_first : (n : ℕ) → towers (suc n) ≡ towers zero → ⊥
  unfolding towers if body_true head_true disjunct_true is_true eval
  not_first n e = k.1.1.1.0 (towers n ∷ []) refl (towers_things n, tt) (and_i (eqb (towers (suc n)) (towers zero)) true (eq→eqb _ _ e) tt)

  pub towers_apart : (i j : ℕ) → towers i ≡ towers j → i ≡ j
  unfolding towers if body_true head_true disjunct_true is_true eval
  towers_apart zero zero e = refl
  towers_apart zero (suc j) e = absurd (not_first j (sym e))
  towers_apart (suc i) zero e = absurd (not_first i e)
  towers_apart (suc i) (suc j) e =
      let t = k.1.1.0 (towers i ∷ towers j ∷ []) refl (towers_things i, (towers_things j, tt)) (and_i (eqb (towers (suc i)) (towers (suc j))) true (eq→eqb _ _ e) tt) in
      let same = eqb (towers i) (towers j) in
      elim (or_is (same && true) false t) [ inl u ↦ ap suc (towers_apart i j (eqb→eq _ _ (and_l same true u))) | inr u ↦ absurd u ]

-- And no run completes it (demands.Endless): one goes on until a child is too big, here the seventh, under limits of six elements.
pub endless_stops : (run (record { elements = 6; keys = 6; facts = 6 }) 100 unbounded endless (opened 0 0 1)).stop ≡ 15
unfolding ended
endless_stops = refl

pub endless_steps : (run (record { elements = 6; keys = 6; facts = 6 }) 100 unbounded endless (opened 0 0 1)).steps ≡ 6
unfolding ended
endless_steps = refl
