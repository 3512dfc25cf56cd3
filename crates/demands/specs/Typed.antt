-- An arrangement keeps the rules exactly when it keeps the sequents as they are typed: the identities that are appended for
-- existentials in no literal are true of every arrangement.
use Rattle.std.specs.Prelude.{ℕ, suc, List, [], ◌∷◌, ◌++◌, map}
use Rattle.std.proofs.Common.{inl, inr}
use Rattle.std.proofs.Math.Dec.{T, eqb_refl}
use Rattle.base.specs.Lists.{All, Some}
use Rattle.base.specs.BranchLaws.{if_elim}
use Rattle.base.specs.ListLaws.{all_all, all_map, all_unmap, some_some, all_of, of_all, all_append, all_left, any_some, some_any, some_map}
use Rattle.rules.specs.Book.{Literal, var, Origin, Disjunct, Sequent, Book, appended, completed_disjunct, completed, rules}
use Rattle.rules.specs.Arrangement.{Arrangement, eval, is_true, disjunct_true, head_true, body_true, KeepsRule, Keeps}

appended_true : (A : Arrangement) (env : List ℕ) (v : ℕ) (os : List Origin) (ls : List Literal) → All (λ l. T (is_true A env l)) (appended v os ls)
unfolding appended is_true
appended_true A env v [] ls = tt
appended_true A env v (o ∷ os) ls =
    if_elim (All (λ l. T (is_true A env l))) _ _ _ (λ _. appended_true A env (suc v) os ls) (λ _. (eqb_refl (eval (var v) A env), appended_true A env (suc v) os ls))

module _ (A : Arrangement) (c : List ℕ) (v : ℕ) (d : Disjunct) where
  disjunct_typed : T (disjunct_true A c (completed_disjunct v d)) → T (disjunct_true A c d)
  unfolding disjunct_true completed_disjunct
  disjunct_typed t = of_all (is_true A _) d.literals (all_left (λ l. T (is_true A _ l)) d.literals (appended v d.origins d.literals) (all_of (is_true A _) (d.literals ++ appended v d.origins d.literals) t))

  typed_disjunct : T (disjunct_true A c d) → T (disjunct_true A c (completed_disjunct v d))
  unfolding disjunct_true completed_disjunct
  typed_disjunct t = of_all (is_true A _) (d.literals ++ appended v d.origins d.literals)
      (all_append (λ l. T (is_true A _ l)) d.literals (appended v d.origins d.literals) (all_of (is_true A _) d.literals t) (appended_true A _ v d.origins d.literals))

some_unmap {ℓ κ ν} : {X : Type ℓ} {Y : Type κ} (Q : Y → Type ν) (f : X → Y) (xs : List X) → Some Q (map f xs) → Some (λ x. Q (f x)) xs
some_unmap Q f [] s = s
some_unmap Q f (x ∷ xs) (inl q) = inl q
some_unmap Q f (x ∷ xs) (inr s) = inr (some_unmap Q f xs s)

rule_typed : (A : Arrangement) (s : Sequent) → KeepsRule A (completed s) → KeepsRule A s
unfolding completed body_true head_true
rule_typed A s k c l a t =
    some_any (disjunct_true A c) s.head (some_some (λ d. T (disjunct_true A c (completed_disjunct s.free d))) (λ d. T (disjunct_true A c d))
    (λ d u. disjunct_typed A c s.free d u) s.head (some_unmap (λ d. T (disjunct_true A c d)) (completed_disjunct s.free) s.head (any_some (disjunct_true A c) (map (completed_disjunct s.free) s.head) (k c l a t))))

typed_rule : (A : Arrangement) (s : Sequent) → KeepsRule A s → KeepsRule A (completed s)
unfolding completed body_true head_true
typed_rule A s k c l a t =
    some_any (disjunct_true A c) (map (completed_disjunct s.free) s.head)
    (some_map (λ d. T (disjunct_true A c d)) (λ d. T (disjunct_true A c d)) (completed_disjunct s.free) (λ d u. typed_disjunct A c s.free d u) s.head (any_some (disjunct_true A c) s.head (k c l a t)))

pub keeps_typed : (A : Arrangement) (b : Book) → (Keeps A (rules b) → Keeps A b.sequents) × (Keeps A b.sequents → Keeps A (rules b))
unfolding rules
keeps_typed A b = (
  (λ k. all_all (λ s. KeepsRule A (completed s)) (KeepsRule A) (rule_typed A) b.sequents (all_unmap (KeepsRule A) completed b.sequents k)),
  (λ k. all_map (KeepsRule A) (KeepsRule A) completed (typed_rule A) b.sequents k),
)
