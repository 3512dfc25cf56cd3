-- `merge` is one of the merges by an order: it files keys `in_order`, and leaves the pairs as they come, the newest first. So what
-- every one of them has, `merge` has.
use Rattle.std.specs.Prelude.{◌≡◌, refl, ℕ, zero, suc, max, min, List, [], ◌∷◌, length, eqb}
use Rattle.std.proofs.Common.{sym, subst}
use Rattle.base.specs.Branch.{if}
use Rattle.base.specs.Lists.{All}
use Rattle.base.specs.ListLaws.{all_all, some_all, some_elim, In, all_in}
use Rattle.rules.specs.Sheet.{Entry, Model}
use Rattle.rules.specs.Bound.{History}
use Rattle.rules.specs.Merge.{rename, Pair, in_order, merge_into, merge_all, lowered, merge}
use Rattle.laws.specs.InOrder.{in_order_all, in_order_has, in_order_length}
use Rattle.laws.specs.MergeBy.{Reorders, Orders, EachReorders, merge_into_by, merge_all_by, merge_by}

-- ---- orders

-- As they come: so the Rust takes keys and pairs (congruence.Rust), and `merge` pairs.
pub same_reorders : {A : Type 0} → Reorders {A = A} (λ xs. xs)
same_reorders = record { each = λ P xs a. a; has = λ Q xs s. s; many = λ xs. refl }

pub in_order_reorders : Reorders in_order
in_order_reorders = record { each = in_order_all; has = in_order_has; many = in_order_length }

-- What holds of all in some order holds of all.
pub reorders_back : {A : Type 0} (f : List A → List A) → Reorders f → (P : A → Type 0) (xs : List A) → All P (f xs) → All P xs
reorders_back f r P xs a =
    all_all (λ x. In x xs) P
    (λ x i. some_elim (λ y. (y ≡ x) × P y) (P x) (λ y q. subst P q.0 q.1) (f xs) (some_all (λ y. y ≡ x) P (f xs) (r.has (λ y. y ≡ x) xs i) a))
    xs (all_in xs)

-- ---- merge is one of them

merge_all_by_lem : (n : ℕ) (m : Model) (now : History) (ps : List Pair) → merge_all n m now ps ≡ merge_all_by (λ _. in_order) (λ _ qs. qs) n m now ps
unfolding merge_all merge_all_by merge_into merge_into_by
merge_all_by_lem zero m now ps = refl
merge_all_by_lem (suc n) m now [] = refl
merge_all_by_lem (suc n) m now (p ∷ ps) =
    let s = min p.0 p.1 in
    let l = max p.0 p.1 in
    let r = merge_into s l m ps in
    λ i. if (eqb p.0 p.1) (λ _. merge_all_by_lem n m now ps i) (λ _. merge_all_by_lem n r.0 (λ e. rename s l (now e)) r.1 i)

pub merge_by_lem : (a b : ℕ) (m : Model) (now : History) → merge a b m now ≡ merge_by (λ _. in_order) (λ _ qs. qs) a b m now
unfolding merge merge_by
merge_by_lem a b m now = λ i. let r = merge_all_by_lem (suc (length m.keys)) m now ((a, b) ∷ []) i in (lowered r.0, r.1)

pub merge_has {ℓ} : (Q : (History → Model × History) → Type ℓ) (a b : ℕ) (m : Model)
    → ((order : Orders Entry) (next : Orders Pair) → EachReorders order → EachReorders next
    → Q (merge_by order next a b m)) → Q (merge a b m)
merge_has Q a b m f =
    subst Q (sym (λ i now. merge_by_lem a b m now i)) (f (λ _. in_order) (λ _ qs. qs) (λ _. in_order_reorders) (λ _. same_reorders))
