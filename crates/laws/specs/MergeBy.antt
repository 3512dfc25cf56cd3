-- Merging with its orders left open: in which order a round files the keys, and in which the pairs then wait. `merge` is merging by
-- one choice of orders (MergeByLaws), and the Rust's is another (congruence.Rust.rust_is_by_order): keys in the order of the keys
-- before, the newest pair first. That the choice does not bear on the sheet is congruence.Sound.sound_merge_any_order.
use Rattle.std.specs.Prelude.{◌≡◌, ℕ, zero, suc, max, min, List, [], ◌∷◌, map, length, eqb}
use Rattle.base.specs.Branch.{if}
use Rattle.base.specs.Lists.{All, Some}
use Rattle.rules.specs.Sheet.{Entry, Model}
use Rattle.rules.specs.Bound.{History}
use Rattle.rules.specs.Merge.{rename, rename_entry, rename_fact, Pair, rename_pair, refile, refact, merge_depths, lowered}

-- An order may depend on what it orders: it has no others, none is lost, and there are as many. So has every permutation.
pub record Reorders {A : Type 0} (f : List A → List A) : Type 1 where
  pub each : (P : A → Type 0) (xs : List A) → All P xs → All P (f xs)
  pub has : (Q : A → Type 0) (xs : List A) → Some Q xs → Some Q (f xs)
  pub many : (xs : List A) → length (f xs) ≡ length xs

-- Each round has its own order, which may depend on how many rounds can follow.
abbrev pub Orders : Type 0 → Type 0
Orders A = ℕ → List A → List A

abbrev pub EachReorders : {A : Type 0} → Orders A → Type 1
EachReorders f = (n : ℕ) → Reorders (f n)

-- One round: the renamed keys are filed in an order, and all pairs then wait in the next.
unfoldable pub merge_into_by : (List Entry → List Entry) → (List Pair → List Pair) → ℕ → ℕ → Model → List Pair → Model × List Pair
merge_into_by order next s l m ps =
    let r = refile (order (map (rename_entry s l) m.keys)) ([], map (rename_pair s l) ps) in
    (record { created = m.created; keys = r.0; facts = refact (map (rename_fact s l) m.facts) []; depths = merge_depths s l m.depths }, next r.1)

-- The rounds of `merge_all`, each by its own orders.
unfoldable pub merge_all_by : Orders Entry → Orders Pair → ℕ → Model → History → List Pair → Model × History
merge_all_by order next zero m now ps = (m, now)
merge_all_by order next (suc n) m now [] = (m, now)
merge_all_by order next (suc n) m now (p ∷ ps) =
    if (eqb p.0 p.1) (λ _. merge_all_by order next n m now ps) (λ _.
    let s = min p.0 p.1 in let l = max p.0 p.1 in
    let r = merge_into_by (order n) (next n) s l m ps in
    merge_all_by order next n r.0 (λ e. rename s l (now e)) r.1)

unfoldable pub merge_by : Orders Entry → Orders Pair → ℕ → ℕ → Model → History → Model × History
merge_by order next a b m now = let r = merge_all_by order next (suc (length m.keys)) m now ((a, b) ∷ []) in (lowered r.0, r.1)
