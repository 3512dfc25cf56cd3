-- Merging (01, "How a step goes"; `merge`, `reduce_rewrites`, `reduce_facts` and `lower` in the Rust).
use Prim.Native.Nat.{ℕ, zero, suc, ◌+◌, max, min, compare, Ordering}
use Rattle.std.specs.Prelude.{List, [], ◌∷◌, map, length, get_or, set, eqb}
use Rattle.base.specs.Branch.{if, case_o, three}
use Rattle.rules.specs.Sheet.{key, Fact, rel, Entry, Model, key_order, find, insert_key, insert_fact}
use Rattle.rules.specs.Bound.{depth_over, History}

-- s survives, l goes.
unfoldable pub rename : ℕ → ℕ → ℕ → ℕ
rename s l e = if (eqb e l) (λ _. s) (λ _. e)

unfoldable pub rename_entry : ℕ → ℕ → Entry → Entry
rename_entry s l x = (key x.0.kind x.0.symbol (map (rename s l) x.0.args), rename s l x.1)

unfoldable pub rename_fact : ℕ → ℕ → Fact → Fact
rename_fact s l f = rel f.relation (map (rename s l) f.args)

-- Two elements that must become one.
abbrev pub Pair : Type 0
Pair = ℕ × ℕ

abbrev pub rename_pair : ℕ → ℕ → Pair → Pair
rename_pair s l p = (rename s l p.0, rename s l p.1)

-- Entries by key, and those of one key by value.
abbrev pub entry_order : Entry → Entry → Ordering
entry_order a b = three (key_order a.0 b.0) (λ _. Ordering.lt) (λ _. compare a.1 b.1) (λ _. Ordering.gt)

-- Behind all that are not above it.
unfoldable pub insert_entry : Entry → List Entry → List Entry
insert_entry n [] = n ∷ []
insert_entry n (x ∷ xs) = three (entry_order n x) (λ _. n ∷ x ∷ xs) (λ _. x ∷ insert_entry n xs) (λ _. x ∷ insert_entry n xs)

-- Renamed entries need not rise, and two may have one key: all of them, in order.
unfoldable pub in_order : List Entry → List Entry
in_order [] = []
in_order (x ∷ xs) = insert_entry x (in_order xs)

-- Keys filed anew, and the pairs still to merge, the newest first.
abbrev pub Filed : Type 0
Filed = List Entry × List Pair

-- "Merges values of keys that became equal": of two values for one key the pair is kept.
unfoldable pub file : Entry → Filed → Filed
file x r = (insert_key x r.0, case_o (find x.0 r.0) (λ _. r.1) (λ v. (v, x.1) ∷ r.1))

unfoldable pub refile : List Entry → Filed → Filed
refile [] r = r
refile (x ∷ xs) r = refile xs (file x r)

unfoldable pub refact : List Fact → List Fact → List Fact
refact [] done = done
refact (f ∷ fs) done = refact fs (insert_fact f done)

-- "Keeps the smaller depth": the survivor's is the smaller of the two, the other's is gone.
unfoldable pub merge_depths : ℕ → ℕ → List ℕ → List ℕ
merge_depths s l ds = set (set ds s (min (get_or ds s 0) (get_or ds l 0))) l 0

-- What two elements' becoming one makes of a model, with the pairs that follow from it before those that are waiting. Entries are
-- filed in the order of their new keys: document 01 fixes no order, and only one sheet meets the laws of merging (congruence.Sound).
unfoldable pub merge_into : ℕ → ℕ → Model → List Pair → Model × List Pair
merge_into s l m ps =
    let r = refile (in_order (map (rename_entry s l) m.keys)) ([], map (rename_pair s l) ps) in
    (record { created = m.created; keys = r.0; facts = refact (map (rename_fact s l) m.facts) []; depths = merge_depths s l m.depths }, r.1)

-- The pairs one after another. Each round uses up a pair, and adds one for each key that falls away: as many rounds as there are
-- pairs and keys are enough.
unfoldable pub merge_all : ℕ → Model → History → List Pair → Model × History
merge_all zero m now ps = (m, now)
merge_all (suc n) m now [] = (m, now)
merge_all (suc n) m now (p ∷ ps) =
    if (eqb p.0 p.1) (λ _. merge_all n m now ps) (λ _.
    let s = min p.0 p.1 in let l = max p.0 p.1 in
    let r = merge_into s l m ps in
    merge_all n r.0 (λ e. rename s l (now e)) r.1)

-- One pass over the keys: a value's depth is no more than what the key gives it.
unfoldable pub lower_by : List Entry → List ℕ → List ℕ
lower_by [] ds = ds
lower_by (x ∷ xs) ds = lower_by xs (set ds x.1 (min (get_or ds x.1 0) (depth_over (map (λ e. get_or ds e 0) x.0.args))))

unfoldable pub sum : List ℕ → ℕ
sum [] = 0
sum (d ∷ ds) = d + sum ds

-- "Lowers depths through keys until none falls." A pass that changes something lowers the sum, so the sum is enough for the count.
unfoldable pub lower : ℕ → List Entry → List ℕ → List ℕ
lower zero ks ds = ds
lower (suc n) ks ds = let r = lower_by ks ds in if (eqb (sum r) (sum ds)) (λ _. ds) (λ _. lower n ks r)

unfoldable pub lowered : Model → Model
lowered m = record { created = m.created; keys = m.keys; facts = m.facts; depths = lower (sum m.depths) m.keys m.depths }

unfoldable pub merge : ℕ → ℕ → Model → History → Model × History
merge a b m now = let r = merge_all (suc (length m.keys)) m now ((a, b) ∷ []) in (lowered r.0, r.1)
