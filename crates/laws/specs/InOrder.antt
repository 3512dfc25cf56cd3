-- Entries put in order are the same entries: what holds of all holds of all, what some entry has some entry has, and there are as many.
use Rattle.std.specs.Prelude.{◌≡◌, refl, suc, List, [], ◌∷◌, length}
use Rattle.std.proofs.Common.{ap, ◌∙◌, inl, inr}
use Rattle.base.specs.Lists.{All, Some}
use Rattle.base.specs.BranchLaws.{three_elim}
use Rattle.rules.specs.Sheet.{Entry}
use Rattle.rules.specs.Merge.{insert_entry, in_order}

-- ---- one entry into its place

insert_entry_all {κ} : (P : Entry → Type κ) (n : Entry) (xs : List Entry) → P n → All P xs → All P (insert_entry n xs)
unfolding insert_entry
insert_entry_all P n [] p a = (p, tt)
insert_entry_all P n (x ∷ xs) p a =
    three_elim (All P) _ _ _ _ (λ _. (p, a)) (λ _. (a.0, insert_entry_all P n xs p a.1)) (λ _. (a.0, insert_entry_all P n xs p a.1))

insert_entry_has {κ} : (Q : Entry → Type κ) (n : Entry) (xs : List Entry) → Some Q (n ∷ xs) → Some Q (insert_entry n xs)
unfolding insert_entry
insert_entry_has Q n [] s = s
insert_entry_has Q n (x ∷ xs) s = three_elim (Some Q) _ _ _ _ (λ _. s) (λ _. later (insert_entry_has Q n xs) s) (λ _. later (insert_entry_has Q n xs) s)
  where
    later : (Some Q (n ∷ xs) → Some Q (insert_entry n xs)) → Some Q (n ∷ x ∷ xs) → Some Q (x ∷ insert_entry n xs)
    later f (inl q) = inr (f (inl q))
    later f (inr (inl q)) = inl q
    later f (inr (inr u)) = inr (f (inr u))

insert_entry_length : (n : Entry) (xs : List Entry) → length (insert_entry n xs) ≡ suc (length xs)
unfolding insert_entry
insert_entry_length n [] = refl
insert_entry_length n (x ∷ xs) =
    three_elim (λ (r : List Entry). length r ≡ suc (length (x ∷ xs))) _ _ _ _
    (λ _. refl) (λ _. ap suc (insert_entry_length n xs)) (λ _. ap suc (insert_entry_length n xs))

-- ---- all of them

pub in_order_all {κ} : (P : Entry → Type κ) (xs : List Entry) → All P xs → All P (in_order xs)
unfolding in_order
in_order_all P [] a = tt
in_order_all P (x ∷ xs) a = insert_entry_all P x (in_order xs) a.0 (in_order_all P xs a.1)

pub in_order_has {κ} : (Q : Entry → Type κ) (xs : List Entry) → Some Q xs → Some Q (in_order xs)
unfolding in_order
in_order_has Q [] s = s
in_order_has Q (x ∷ xs) (inl q) = insert_entry_has Q x (in_order xs) (inl q)
in_order_has Q (x ∷ xs) (inr u) = insert_entry_has Q x (in_order xs) (inr (in_order_has Q xs u))

pub in_order_length : (xs : List Entry) → length (in_order xs) ≡ length xs
unfolding in_order
in_order_length [] = refl
in_order_length (x ∷ xs) = insert_entry_length x (in_order xs) ∙ ap suc (in_order_length xs)
