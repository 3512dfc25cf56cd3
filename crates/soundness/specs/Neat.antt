-- A neat sheet: what "sound" says of a sheet alone, as a record. It has three parts: limits, order and names, and links.
-- Merging, by any order, keeps limits, order and names since each round does; Join has the links.
use Rattle.std.proofs.Common.{sym, subst, le_trans, arith}
use Prim.Native.Nat.{ℕ, zero, suc, ◌+◌, ◌≤◌, min, max}
use mathlib.Core.List.{List, [], ◌∷◌, map}
use Rattle.std.specs.Prelude.{length, T}
use Rattle.std.proofs.lemmas.List.{length-map}
use Rattle.base.specs.Lists.{All}
use Rattle.base.specs.BranchLaws.{if_elim}
use Rattle.base.specs.ListLaws.{all_map}
use Rattle.rules.specs.Book.{Names}
use Rattle.rules.specs.Sheet.{Fact, Entry, Model, Limits}
use Rattle.rules.specs.Bound.{History}
use Rattle.rules.specs.Merge.{rename, rename_entry, rename_fact, Pair, rename_pair, Filed, file, refile, refact, lowered, merge}
use Rattle.rules.specs.Sound.{has_arity, declared_as, key_declared, fact_declared}
use Rattle.laws.specs.Tables.{KeysRise, FactsRise, refile_all, refile_rises, refact_all, refact_rises}
use Rattle.laws.specs.MergeBy.{Reorders, Orders, EachReorders, merge_into_by, merge_all_by, merge_by}
use Rattle.laws.proofs.MergeByLaws.{merge_has}
use Rattle.soundness.specs.Tools.{insert_key_short, insert_fact_short}
use Rattle.soundness.specs.Join.{Linked}

-- Within the limits.
pub record Small (lim : Limits) (m : Model) : Type 0 where
  pub few_created : m.created ≤ lim.elements
  pub few_keys : length m.keys ≤ lim.keys
  pub few_facts : length m.facts ≤ lim.facts

-- Keys and facts rise, and name declared symbols with their arities.
pub record Listed (d : Names) (m : Model) : Type 0 where
  pub keys_rise : KeysRise m.keys
  pub facts_rise : FactsRise m.facts
  pub keys_declared : All (λ (x : Entry). T (key_declared d x)) m.keys
  pub facts_declared : All (λ (f : Fact). T (fact_declared d f)) m.facts

pub record Neat (lim : Limits) (d : Names) (m : Model) : Type 0 where
  pub small : Small lim m
  pub listed : Listed d m
  pub linked : Linked m

-- ---- what each round of a merge keeps, the merge keeps

module _ (order : Orders Entry) (next : Orders Pair) where
  merge_all_by_keeps : (Q : Model → Type 0) → ((n s l : ℕ) (m : Model) (qs : List Pair) → Q m → Q (merge_into_by (order n) (next n) s l m qs).0)
      → (k : ℕ) (m : Model) (now : History) (qs : List Pair) → Q m → Q (merge_all_by order next k m now qs).0
  unfolding merge_all_by
  merge_all_by_keeps Q into zero m now qs g = g
  merge_all_by_keeps Q into (suc k) m now [] g = g
  merge_all_by_keeps Q into (suc k) m now (q ∷ qs) g =
      if_elim (λ (r : Model × History). Q r.0) _ _ _
      (λ _. merge_all_by_keeps Q into k m now qs g) (λ _. merge_all_by_keeps Q into k _ _ _ (into k (min q.0 q.1) (max q.0 q.1) m qs g))

refile_short : (xs : List Entry) (r : Filed) → length (refile xs r).0 ≤ length xs + length r.0
unfolding refile file
refile_short [] r = omega arith
refile_short (x ∷ xs) r = le_trans (refile_short xs (file x r)) (let q = insert_key_short x r.0 in omega arith)

refact_short : (fs ds : List Fact) → length (refact fs ds) ≤ length fs + length ds
unfolding refact
refact_short [] ds = omega arith
refact_short (f ∷ fs) ds = le_trans (refact_short fs _) (let q = insert_fact_short f ds in omega arith)

into_small : (order : List Entry → List Entry) (next : List Pair → List Pair) → Reorders order
    → (lim : Limits) (s l : ℕ) (m : Model) (qs : List Pair) → Small lim m → Small lim (merge_into_by order next s l m qs).0
unfolding merge_into_by
into_small order next ro lim s l m qs g = record {
  few_created = g.few_created;
  few_keys =
      let q = refile_short (order (map (rename_entry s l) m.keys)) ([], map (rename_pair s l) qs) in
      let o = ro.many (map (rename_entry s l) m.keys) in
      let p = length-map m.keys (rename_entry s l) in
      let z = g.few_keys in omega arith;
  few_facts = let q = refact_short (map (rename_fact s l) m.facts) [] in let p = length-map m.facts (rename_fact s l) in let z = g.few_facts in omega arith;
}

pub merge_by_small : (order : Orders Entry) (next : Orders Pair) → EachReorders order
    → (lim : Limits) (a b : ℕ) (m : Model) (now : History) → Small lim m → Small lim (merge_by order next a b m now).0
unfolding merge_by lowered
merge_by_small order next ro lim a b m now g =
    let r = merge_all_by_keeps order next (Small lim) (λ n. into_small (order n) (next n) (ro n) lim) (suc (length m.keys)) m now ((a, b) ∷ []) g in
    record { few_created = r.few_created; few_keys = r.few_keys; few_facts = r.few_facts }

pub merge_small : (lim : Limits) (a b : ℕ) (m : Model) (now : History) → Small lim m → Small lim (merge a b m now).0
merge_small lim a b m now g = merge_has (λ (r : History → Model × History). Small lim (r now).0) a b m (λ order next ro rn. merge_by_small order next ro lim a b m now g)

into_listed : (order : List Entry → List Entry) (next : List Pair → List Pair) → Reorders order
    → (d : Names) (s l : ℕ) (m : Model) (qs : List Pair) → Listed d m → Listed d (merge_into_by order next s l m qs).0
unfolding merge_into_by rename_entry rename_fact key_declared fact_declared
into_listed order next ro d s l m qs g = record {
  keys_rise = refile_rises (order (map (rename_entry s l) m.keys)) ([], map (rename_pair s l) qs) tt;
  facts_rise = refact_rises (map (rename_fact s l) m.facts) [] tt;
  keys_declared = refile_all (λ (x : Entry). T (key_declared d x)) (order (map (rename_entry s l) m.keys)) ([], map (rename_pair s l) qs)
      (ro.each (λ (x : Entry). T (key_declared d x)) (map (rename_entry s l) m.keys)
      (all_map (λ (x : Entry). T (key_declared d x)) (λ (x : Entry). T (key_declared d x)) (rename_entry s l)
      (λ x t. subst (λ n. T (declared_as d x.0.kind x.0.symbol n)) (sym (length-map x.0.args (rename s l))) t) m.keys g.keys_declared)) tt;
  facts_declared = refact_all (λ (f : Fact). T (fact_declared d f)) (map (rename_fact s l) m.facts) []
      (all_map (λ (f : Fact). T (fact_declared d f)) (λ (f : Fact). T (fact_declared d f)) (rename_fact s l)
      (λ f t. subst (λ n. T (has_arity d.relations f.relation n)) (sym (length-map f.args (rename s l))) t) m.facts g.facts_declared) tt;
}

pub merge_by_listed : (order : Orders Entry) (next : Orders Pair) → EachReorders order
    → (d : Names) (a b : ℕ) (m : Model) (now : History) → Listed d m → Listed d (merge_by order next a b m now).0
unfolding merge_by lowered
merge_by_listed order next ro d a b m now g =
    let r = merge_all_by_keeps order next (Listed d) (λ n. into_listed (order n) (next n) (ro n) d) (suc (length m.keys)) m now ((a, b) ∷ []) g in
    record { keys_rise = r.keys_rise; facts_rise = r.facts_rise; keys_declared = r.keys_declared; facts_declared = r.facts_declared }

pub merge_listed : (d : Names) (a b : ℕ) (m : Model) (now : History) → Listed d m → Listed d (merge a b m now).0
merge_listed d a b m now g = merge_has (λ (r : History → Model × History). Listed d (r now).0) a b m (λ order next ro rn. merge_by_listed order next ro d a b m now g)
