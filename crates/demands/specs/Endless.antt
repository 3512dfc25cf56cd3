-- A book that no run completes: the one of which every arrangement that keeps it has infinitely many things (fitting.Things.endless).
-- A sheet that keeps its rules at its own elements has a, f(a), f(f(a)) and so on, all different; and a sheet has finitely many
-- elements. A complete sheet keeps the rules (demand 3), so after whatever calls none is complete.
use Rattle.std.specs.Prelude.{◌≡◌, Bool, false, ◌&&◌, ◌||◌, ◌⊎◌, length}
use Rattle.std.proofs.Math.Path.{refl, sym, ap, subst}
use Rattle.std.proofs.Common.{◌∙◌, arith, inl, inr}
use Prim.Native.Nat.{ℕ, zero, suc, ◌+◌, ◌-◌, ◌<◌, min}
use Rattle.std.proofs.Math.Decide.{dec_lt}
use Rattle.std.proofs.Math.Bool.{true}
use Rattle.std.proofs.Math.Option.{Option, none, some}
use mathlib.Core.List.{List, [], ◌∷◌}
use Rattle.std.proofs.Math.Dec.{T, eqb, eqb→eq}
use Rattle.base.specs.Branch.{case_o}
use Rattle.base.specs.Lists.{All}
use Rattle.base.specs.BranchLaws.{if_true, and_i, eq→eqb}
use Rattle.base.specs.ListLaws.{all_all, all_mem}
use Rattle.rules.specs.Book.{Term, var, same, Book, rules}
use Rattle.rules.specs.Reading.{Bytes, read_book, got}
use Rattle.rules.specs.Sheet.{Key, key, rel, Model, Sheet, find, holds, domain, known}
use Rattle.rules.specs.Look.{Meaning, elem, body_meanings, head_meanings, look_meaning, look, observed}
use Rattle.rules.specs.Fire.{body_observed, disjunct_observed, head_observed}
use Rattle.rules.specs.Merge.{sum}
use Rattle.rules.specs.Pool.{sheet_at}
use Rattle.rules.specs.Calls.{OpenPromise}
use Rattle.rules.specs.Arrangement.{KeepsAll}
use Rattle.laws.specs.Tables.{find_all}
use Rattle.soundness.specs.Tools.{Yields, Yielded, all_yielded, yielded_known}
use Rattle.rules.specs.Cases.{a, f, P}
use Rattle.fitting.specs.Things.{endless}
use Rattle.demands.specs.Worlds.{Call, World, Played, begun, state_of}
use Rattle.demands.specs.Demands.{demand_three}
use Rattle.demands.specs.Example.{numbers, ran_once}

-- ---- no list of numbers holds a different one for each number

-- Numbers other than p, those above it moved down by one.
down : ℕ → ℕ → ℕ
down p x = x - min 1 (x - p)

down_is : (p x : ℕ) → (x ≡ p → ⊥) → ((p < x) × (x ≡ suc (down p x))) ⊎ ((x < p) × (x ≡ down p x))
unfolding down
down_is p x d = elim (dec_lt p x) [ yes l ↦ inl (l, omega arith) | no l ↦ inr (omega arith, omega arith) ]

no_room : (n : ℕ) (t : ℕ → ℕ) → ((i j : ℕ) → t i ≡ t j → i ≡ j) → ((i : ℕ) → t i < n) → ⊥
no_room zero t one low = let l = low 0 in omega arith
no_room (suc n) t one low = no_room n (λ i. down (t 0) (t (suc i))) (λ i j e. let z = one (suc i) (suc j) (apart i j e (is i) (is j)) in omega arith) (λ i. below i (is i))
  where
    Is : ℕ → Type 0
    Is i = ((t 0 < t (suc i)) × (t (suc i) ≡ suc (down (t 0) (t (suc i))))) ⊎ ((t (suc i) < t 0) × (t (suc i) ≡ down (t 0) (t (suc i))))

    is : (i : ℕ) → Is i
    is i = down_is (t 0) (t (suc i)) (λ e. let z = one (suc i) 0 e in omega arith)

    apart : (i j : ℕ) → down (t 0) (t (suc i)) ≡ down (t 0) (t (suc j)) → Is i → Is j → t (suc i) ≡ t (suc j)
    apart i j e (inl p) (inl q) = let u = p.1 in let v = q.1 in omega arith
    apart i j e (inl p) (inr q) = let u = p.0 in let v = p.1 in let w = q.0 in let z = q.1 in omega arith
    apart i j e (inr p) (inl q) = let u = p.0 in let v = p.1 in let w = q.0 in let z = q.1 in omega arith
    apart i j e (inr p) (inr q) = let u = p.1 in let v = q.1 in omega arith

    below : (i : ℕ) → Is i → down (t 0) (t (suc i)) < n
    below i (inl p) = let u = p.1 in let v = low (suc i) in omega arith
    below i (inr p) = let u = p.0 in let w = p.1 in let v = low 0 in omega arith

below_sum : (xs : List ℕ) → All (λ e. e < suc (sum xs)) xs
unfolding sum
below_sum [] = tt
below_sum (x ∷ xs) = (omega arith, all_all (λ e. e < suc (sum xs)) (λ e. e < suc (x + sum xs)) (λ e l. omega arith) xs (below_sum xs))

-- ---- what is observed of one term, and of two

module _ (m : Model) (env : List Meaning) where
  fact_is : (t : Term) → T (observed m env (P t)) → (e : ℕ) × (look t m env ≡ some e) × T (holds (rel 0 (e ∷ [])) m.facts)
  unfolding observed look case_o
  fact_is t = go (look t m env)
    where
      go : (o : Option ℕ) → T (case_o (case_o o (λ _. none) (λ e. some (e ∷ []))) (λ _. false) (λ xs. holds (rel 0 xs) m.facts)) → (e : ℕ) × (o ≡ some e) × T (holds (rel 0 (e ∷ [])) m.facts)
      go none z = absurd z
      go (some e) z = (e, refl, z)

  fact_holds : (t : Term) (e : ℕ) → look t m env ≡ some e → T (holds (rel 0 (e ∷ [])) m.facts) → T (observed m env (P t))
  unfolding observed look case_o
  fact_holds t e p z = subst (λ o. T (case_o (case_o o (λ _. none) (λ x. some (x ∷ []))) (λ _. false) (λ xs. holds (rel 0 xs) m.facts))) (sym p) z

  same_holds : (s t : Term) (e : ℕ) → look s m env ≡ some e → look t m env ≡ some e → T (observed m env (same s t))
  unfolding observed case_o
  same_holds s t e p q = subst (λ o. T (case_o o (λ _. false) (λ x. case_o (look t m env) (λ _. false) (λ y. eqb x y)))) (sym p)
      (subst (λ o. T (case_o o (λ _. false) (λ y. eqb e y))) (sym q) (eq→eqb e e refl))

  same_is : (s t : Term) (x y : ℕ) → look s m env ≡ some x → look t m env ≡ some y → T (observed m env (same s t)) → x ≡ y
  unfolding observed case_o
  same_is s t x y p q z = eqb→eq x y (subst (λ o. T (case_o o (λ _. false) (λ v. eqb x v))) q (subst (λ o. T (case_o o (λ _. false) (λ u. case_o (look t m env) (λ _. false) (λ v. eqb u v)))) p z))

  fun_is : (t : Term) (x : ℕ) → look t m env ≡ some x → look (f t) m env ≡ find (key 2 0 (x ∷ [])) m.keys
  unfolding look case_o
  fun_is t x p = ap (λ o. case_o (case_o o (λ _. none) (λ e. some (e ∷ []))) (λ _. none) (λ xs. find (key 2 0 xs) m.keys)) p

-- ---- a sheet that keeps the rules

-- One literal in one disjunct.
one_literal : (b : Bool) → T ((b && true) || false) → T b
one_literal true t = tt
one_literal false t = t

module _ (m : Model) (k : KeepsAll m endless) where
  -- An element of which P is held.
  abbrev Held : ℕ → Type 0
  Held e = T (known m e) × T (holds (rel 0 (e ∷ [])) m.facts)

  found_known : (c : Key) (e : ℕ) → find c m.keys ≡ some e → T (known m e)
  found_known c e p = yielded_known m e (find_all (Yields (Yielded m.keys)) c m.keys e (all_yielded m.keys) p)

  chosen : (x : ℕ) → T (known m x) → (xs : List Meaning) → look (var 0) m (elem x ∷ xs) ≡ some x
  unfolding look look_meaning
  chosen x kx xs = if_true (known m x) (λ _. some x) (λ _. none) kx

  second : (x y : ℕ) → T (known m y) → look (var 1) m (elem x ∷ elem y ∷ []) ≡ some y
  unfolding look look_meaning
  second x y ky = if_true (known m y) (λ _. some y) (λ _. none) ky

  first : (e : ℕ) × (find (key 1 0 []) m.keys ≡ some e) × Held e
  unfolding body_observed head_observed disjunct_observed head_meanings look
  first =
      let r = fact_is m [] a (one_literal (observed m [] (P a)) (k.0 [] refl tt tt)) in
      (r.0, r.1, (found_known (key 1 0 []) r.0 r.1, r.2))

  after : (x : ℕ) → Held x → (e : ℕ) × (find (key 2 0 (x ∷ [])) m.keys ≡ some e) × Held e
  unfolding body_observed body_meanings head_observed disjunct_observed head_meanings
  after x h =
      let env = elem x ∷ [] in
      let c = chosen x h.0 [] in
      let t = k.1.0 (x ∷ []) refl (h.0, tt) (and_i (observed m env (P (var 0))) true (fact_holds m env (var 0) x c h.1) tt) in
      let r = fact_is m env (f (var 0)) (one_literal (observed m env (P (f (var 0)))) t) in
      let p = sym (fun_is m env (var 0) x c) ∙ r.1 in
      (r.0, p, (found_known (key 2 0 (x ∷ [])) r.0 p, r.2))

  -- a, f(a), f(f(a)) and so on, each with P.
  towers : ℕ → (e : ℕ) × Held e
  towers zero = (first.0, first.2)
  towers (suc n) = let r = after (towers n).0 (towers n).1 in (r.0, r.2)

  not_first : (n : ℕ) → (towers (suc n)).0 ≡ (towers zero).0 → ⊥
  unfolding towers body_observed body_meanings head_observed look
  not_first n e =
      let x = (towers n).0 in
      let h = (towers n).1 in
      let env = elem x ∷ [] in
      let s = fun_is m env (var 0) x (chosen x h.0 []) ∙ (after x h).1 in
      k.1.1.1.0 (x ∷ []) refl (h.0, tt)
      (and_i (observed m env (same (f (var 0)) a)) true (same_holds m env (f (var 0)) a first.0 (subst (λ z. look (f (var 0)) m env ≡ some z) e s) first.1) tt)

  apart : (i j : ℕ) → (towers i).0 ≡ (towers j).0 → i ≡ j
  unfolding towers body_observed body_meanings head_observed disjunct_observed head_meanings
  apart zero zero e = refl
  apart zero (suc j) e = absurd (not_first j (sym e))
  apart (suc i) zero e = absurd (not_first i e)
  apart (suc i) (suc j) e =
      let x = (towers i).0 in
      let y = (towers j).0 in
      let kx = (towers i).1.0 in
      let ky = (towers j).1.0 in
      let env = elem x ∷ elem y ∷ [] in
      let p = fun_is m env (var 0) x (chosen x kx (elem y ∷ [])) ∙ (after x (towers i).1).1 in
      let q = fun_is m env (var 1) y (second x y ky) ∙ (after y (towers j).1).1 in
      let v = (after y (towers j).1).0 in
      let t = k.1.1.0 (x ∷ y ∷ []) refl (kx, (ky, tt))
      (and_i (observed m env (same (f (var 0)) (f (var 1)))) true (same_holds m env (f (var 0)) (f (var 1)) v (subst (λ z. look (f (var 0)) m env ≡ some z) e p) q) tt) in
      ap suc (apart i j (same_is m env (var 0) (var 1) x y (chosen x kx (elem y ∷ [])) (second x y ky) (one_literal (observed m env (same (var 0) (var 1))) t)))

  pub no_sheet_keeps : ⊥
  unfolding known
  no_sheet_keeps = no_room (suc (sum (domain m))) (λ n. (towers n).0) apart
      (λ n. all_mem (λ e. e < suc (sum (domain m))) (domain m) (below_sum (domain m)) (towers n).0 (towers n).1.0)

-- ---- so no run completes the book

-- One constant, one function and one relation, each of one argument; as bytes, one sequent in a line.
abbrev pub book : Book
book = record { names = record { constants = 1; functions = 1 ∷ []; relations = 1 ∷ []; constant_witnesses = 0; function_witnesses = [] }; sequents = endless }

unfoldable pub text : Bytes
text = 82 ∷ 85 ∷ 76 ∷ numbers (1 ∷ 1 ∷ 1 ∷ 1 ∷ 0 ∷ 0 ∷ 1 ∷ 1 ∷ 4
    ∷ 0 ∷ 0 ∷ 1 ∷ 0 ∷ 1 ∷ 0 ∷ 0 ∷ 1 ∷ 0
    ∷ 1 ∷ 1 ∷ 0 ∷ 0 ∷ 0 ∷ 0 ∷ 1 ∷ 0 ∷ 1 ∷ 0 ∷ 0 ∷ 2 ∷ 0 ∷ 0 ∷ 0
    ∷ 2 ∷ 1 ∷ 1 ∷ 2 ∷ 0 ∷ 0 ∷ 0 ∷ 2 ∷ 0 ∷ 0 ∷ 1 ∷ 1 ∷ 0 ∷ 1 ∷ 1 ∷ 0 ∷ 0 ∷ 0 ∷ 1
    ∷ 1 ∷ 1 ∷ 1 ∷ 2 ∷ 0 ∷ 0 ∷ 0 ∷ 1 ∷ 0 ∷ 0
    ∷ [])

pub text_reads : read_book text ≡ got book (length text)
unfolding ran_once text
text_reads = refl

pub book_rules : rules book ≡ endless
unfolding ran_once
book_rules = refl

-- Whatever the scheduler, the strategy and the calls: no sheet is complete, nor was one taken.
pub never_complete : (pool : Bytes) (scheduler strategy : ℕ) (opened : Bytes) → OpenPromise text pool scheduler strategy 0 opened
    → (calls : List Call) (w : World) → Played text (begun opened) calls w → ((state_of w).complete ≡ []) × (w.took_complete ≡ [])
never_complete pool scheduler strategy opened p calls w q =
    let d = (demand_three text pool scheduler strategy opened p book (length text) text_reads calls w q).0 in (
      none_of (λ j. KeepsAll (sheet_at (state_of w) j).model (rules book)) (λ j. refused (sheet_at (state_of w) j).model) (state_of w).complete d.complete_keep,
      none_of (λ (x : Sheet). KeepsAll x.model (rules book)) (λ x. refused x.model) w.took_complete d.taken_keep,
    )
  where
    refused : (m : Model) → KeepsAll m (rules book) → ⊥
    refused m k = no_sheet_keeps m (subst (KeepsAll m) book_rules k)

    none_of : {A : Type 0} (Q : A → Type 0) → ((x : A) → Q x → ⊥) → (xs : List A) → All Q xs → xs ≡ []
    none_of Q n [] a = refl
    none_of Q n (x ∷ xs) a = absurd (n x a.0)
