-- Filing entries anew: each is there afterwards or has become a pair, of two values for one key. Filing facts loses none.
use Rattle.std.specs.Prelude.{◌≡◌, ℕ, ◌⊎◌, List, [], ◌∷◌}
use Rattle.std.proofs.Common.{sym, ◌∙◌, subst, inl, inr}
use Rattle.std.proofs.Math.Option.{some, none-ne-some, some-injective}
use Rattle.base.specs.Lists.{All, Some}
use Rattle.base.specs.BranchLaws.{case_o_elim, three_elim}
use Rattle.rules.specs.Sheet.{Key, Fact, Entry, find, insert_key, insert_fact}
use Rattle.rules.specs.Merge.{Pair, Filed, file, refile, refact}
use Rattle.laws.specs.Tables.{fact_eq, find_all, insert_key_all}
use Rattle.soundness.specs.Tools.{insert_key_new, insert_key_old}

-- It makes pairs only of two values for one key.
pub refile_makes : (Q : Entry → Type 0) (M : Pair → Type 0) → ((k : Key) (u v : ℕ) → Q (k, u) → Q (k, v) → M (u, v))
    → (xs : List Entry) (r : Filed) → All Q xs → All Q r.0 → All M r.1 → All M (refile xs r).1
unfolding refile file
refile_makes Q M f [] r a b c = c
refile_makes Q M f (x ∷ xs) r a b c =
    refile_makes Q M f xs (file x r) a.1 (insert_key_all Q x r.0 a.0 b)
    (case_o_elim (All M) _ _ _ (λ _. c) (λ v e. (f x.0 v x.1 (find_all Q x.0 r.0 v b e) a.0, c)))

-- It keeps the pairs that were there, and makes one where a key gets another value.
file_kept : (M : Pair → Type 0) (x : Entry) (r : Filed) → All M (file x r).1 → All M r.1 × ((v : ℕ) → find x.0 r.0 ≡ some v → M (v, x.1))
unfolding file
file_kept M x r a =
    case_o_elim (λ (ps : List Pair). All M ps → All M r.1 × ((v : ℕ) → find x.0 r.0 ≡ some v → M (v, x.1))) _ _ _
    (λ e q. (q, λ v f. absurd (none-ne-some v (sym e ∙ f))))
    (λ u e q. (q.1, λ v f. subst (λ z. M (z, x.1)) (some-injective _ _ (sym e ∙ f)) q.0)) a

pub refile_kept : (M : Pair → Type 0) (xs : List Entry) (r : Filed) → All M (refile xs r).1 → All M r.1
unfolding refile
refile_kept M [] r a = a
refile_kept M (x ∷ xs) r a = (file_kept M x r (refile_kept M xs (file x r) a)).0

-- What some entry has, some entry has afterwards, if a key that has it at the one value of a pair has it at the other.
pub refile_has : (Q : Entry → Type 0) (xs : List Entry) (r : Filed) → All (λ (p : Pair). (k : Key) → Q (k, p.0) → Q (k, p.1)) (refile xs r).1
    → Some Q xs ⊎ Some Q r.0 → Some Q (refile xs r).0
unfolding refile file
refile_has Q [] r a (inl s) = absurd s.lower
refile_has Q [] r a (inr s) = s
refile_has Q (x ∷ xs) r a s = refile_has Q xs (file x r) a (place s)
  where
    M : Pair → Type 0
    M p = (k : Key) → Q (k, p.0) → Q (k, p.1)

    place : Some Q (x ∷ xs) ⊎ Some Q r.0 → Some Q xs ⊎ Some Q (insert_key x r.0)
    place (inl (inl q)) = inr (insert_key_new Q x r.0 q)
    place (inl (inr u)) = inl u
    place (inr u) = inr (insert_key_old Q x r.0 (λ v e. (file_kept M x r (refile_kept M xs (file x r) a)).1 v e x.0) u)

-- A fact that is there already is not filed again: none is lost.
insert_fact_has : (Q : Fact → Type 0) (n : Fact) (xs : List Fact) → Q n ⊎ Some Q xs → Some Q (insert_fact n xs)
unfolding insert_fact
insert_fact_has Q n [] s = s
insert_fact_has Q n (x ∷ xs) s = three_elim (Some Q) _ _ _ _ (λ _. s) (λ t. same (sym (fact_eq n x t)) s) (λ _. later (insert_fact_has Q n xs) s)
  where
    same : x ≡ n → Q n ⊎ Some Q (x ∷ xs) → Some Q (n ∷ xs)
    same e (inl q) = inl q
    same e (inr (inl q)) = inl (subst Q e q)
    same e (inr (inr u)) = inr u

    later : (Q n ⊎ Some Q xs → Some Q (insert_fact n xs)) → Q n ⊎ Some Q (x ∷ xs) → Some Q (x ∷ insert_fact n xs)
    later f (inl q) = inr (f (inl q))
    later f (inr (inl q)) = inl q
    later f (inr (inr u)) = inr (f (inr u))

pub refact_has : (Q : Fact → Type 0) (fs ds : List Fact) → Some Q fs ⊎ Some Q ds → Some Q (refact fs ds)
unfolding refact
refact_has Q [] ds (inl s) = absurd s.lower
refact_has Q [] ds (inr s) = s
refact_has Q (f ∷ fs) ds (inl (inl q)) = refact_has Q fs (insert_fact f ds) (inr (insert_fact_has Q f ds (inl q)))
refact_has Q (f ∷ fs) ds (inl (inr s)) = refact_has Q fs (insert_fact f ds) (inl s)
refact_has Q (f ∷ fs) ds (inr s) = refact_has Q fs (insert_fact f ds) (inr (insert_fact_has Q f ds (inr s)))
