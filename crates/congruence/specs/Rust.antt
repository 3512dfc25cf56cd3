-- The Rust's merging (`merge`, `reduce_rewrites` and `lower` in impl/basic.rs), written out; that it makes of a sound sheet what
-- `merge` does is in proofs/Rust. A round of it, line by line:
--   pending.pop()               the pair that was pushed last is taken: the first of the list, for the end of the Rust's vector is the
--                               front of the list here.
--   history(&a), history(&b)    pairs wait as they were found, and are looked up when they are taken, in the child's history. One
--                               whose elements have become one in the meantime is passed over.
--   (from, to)                  the smaller element stays.
--   reduce_rewrites             goes over the keys in the order in which they stood, so in rising order of the keys before they are
--                               renamed. A renamed key that is there already gets the new value, and of its two values the pair is
--                               pushed, the value that was there first; a pair of one element is left out.
--   pending.extend(..)          so the pairs that a round finds are taken before those that waited, and the last found first.
--   reduce_facts, depths        facts are renamed; the one that stays has the smaller depth, the other has none.
--   winners.push(from)          the elements that stayed, looked up when no pair waits, are those from which depths are lowered
--                               (Lowering).
-- So it is merging by an order (laws.MergeBy): keys are filed in the order of the keys before, and pairs wait as `refile` leaves
-- them, the newest first. That pairs of one element are left out, and others are not renamed but looked up, bears on no round: the
-- child's history takes each element of the sheet to itself (History). The Rust's loops count nothing; here they have a number of
-- turns, and more of them would change nothing (rounds_same, Lowering.rust_lowers).
use Rattle.std.specs.Prelude.{ℕ, zero, suc, ◌+◌, min, max, length, eqb}
use mathlib.Core.List.{List, [], ◌∷◌, map}
use Rattle.base.specs.Branch.{if, case_o}
use Rattle.rules.specs.Sheet.{Entry, Model, find, insert_key}
use Rattle.rules.specs.Bound.{History}
use Rattle.rules.specs.Merge.{rename, rename_entry, rename_fact, Pair, Filed, refact, merge_depths, sum}
use Rattle.laws.specs.MergeBy.{Orders}
use Rattle.congruence.specs.Lowering.{rust_lower}

-- ---- the Rust's rounds

-- One entry of `reduce_rewrites`.
unfoldable pub rust_file : Entry → Filed → Filed
rust_file x r = (insert_key x r.0, case_o (find x.0 r.0) (λ _. r.1) (λ v. if (eqb v x.1) (λ _. r.1) (λ _. (v, x.1) ∷ r.1)))

unfoldable pub rust_refile : List Entry → Filed → Filed
rust_refile [] r = r
rust_refile (x ∷ xs) r = rust_refile xs (rust_file x r)

-- What a round makes of a model and of the pairs that wait, with those that it finds before them.
unfoldable pub rust_into : ℕ → ℕ → Model → List Pair → Model × List Pair
rust_into s l m ps =
    let r = rust_refile (map (rename_entry s l) m.keys) ([], ps) in
    (record { created = m.created; keys = r.0; facts = refact (map (rename_fact s l) m.facts) []; depths = merge_depths s l m.depths }, r.1)

-- The loop of `merge`, for at most so many pairs, with the elements that stayed, the last first.
unfoldable pub rust_rounds : ℕ → Model → History → List Pair → List ℕ → (Model × History) × List ℕ
rust_rounds zero m h ps ws = ((m, h), ws)
rust_rounds (suc n) m h [] ws = ((m, h), ws)
rust_rounds (suc n) m h (p ∷ ps) ws =
    let a = h p.0 in let b = h p.1 in
    if (eqb a b) (λ _. rust_rounds n m h ps ws) (λ _.
    let s = min a b in let l = max a b in
    let r = rust_into s l m ps in
    rust_rounds n r.0 (λ e. rename s l (h e)) r.1 (s ∷ ws))

-- Depths are lowered from those elements, looked up at the end.
unfoldable pub rust_merge : ℕ → ℕ → Model → History → Model × History
rust_merge a b m now =
    let r = rust_rounds (suc (length m.keys)) m now ((a, b) ∷ []) [] in
    let n = r.0.0 in let h = r.0.1 in
    let ds = rust_lower (length r.1 + sum n.depths) n.keys n.depths (map h r.1) in
    (record { created = n.created; keys = n.keys; facts = n.facts; depths = ds }, h)

-- ---- its order

-- Keys are filed in the order of the keys before: renamed, and not put in order.
abbrev pub keys_before : Orders Entry
keys_before n xs = xs

-- Pairs wait as `refile` leaves them.
abbrev pub newest_first : Orders Pair
newest_first n ps = ps
