-- Merging on packed tables is the document's: for keys and facts that fit, and elements below 256.
use Rattle.std.specs.Prelude.{◌≡◌, refl, ℕ, zero, suc, ◌/◌, ◌%◌, ◌<◌, min, max, length, eqb}
use Rattle.std.proofs.Common.{sym, ap, ap₂, ◌∙◌, arith}
use Rattle.std.proofs.Math.Path.{subst}
use mathlib.Core.List.{List, [], ◌∷◌, map}
use Rattle.std.proofs.lemmas.List.{length-map}
use Rattle.base.specs.Branch.{if, case_l}
use Rattle.base.specs.Lists.{All, from}
use Rattle.base.specs.BranchLaws.{if_elim, if_true, if_false, case_o_elim, neqb→ne}
use Rattle.base.specs.ListLaws.{map_map, map_agree, all_all, all_any, all_map}
use Rattle.rules.specs.Sheet.{Fact, Entry, Model, find}
use Rattle.rules.specs.Bound.{History}
use Rattle.rules.specs.Merge.{rename, rename_entry, rename_fact, Pair, rename_pair, in_order, Filed, file, refile, refact, merge_into, merge_all, merge_depths, lowered, merge, sum}
use Rattle.laws.specs.Tables.{find_all, insert_key_all, refile_all, refact_all}
use Rattle.laws.specs.InOrder.{in_order_all}
use Rattle.images.specs.Storable.{Octet}
use Rattle.packing.specs.Pack.{pack_entry, pack_fact, fact_entry, FitsEntry}
use Rattle.packing.specs.Replace.{replaced, Eight, eight_of, value_of_lem, rename_fits, rename_octet, rename_zero}
use Rattle.tables.specs.Carry.{FitsFact}
use Rattle.renaming.specs.Order.{order_in}
use Rattle.filing.specs.File.{refile_in, refact_in}
use Rattle.filing.specs.Facts.{Plain, refact_order}
use Rattle.filing.specs.Carry.{pack_pair, pack_filed, element_rename, pair_rename, keys_rename, facts_rename, order_is, refile_is, refact_is}
use Rattle.lowering.specs.Lower.{lower_in}
use Rattle.lowering.specs.Carry.{lower_is}
use Rattle.joining.specs.Work.{Work, waiting, into_in, next_in, merge_all_in, lowered_in}

-- A model, what each of n elements is now, and the pairs that wait, as numbers.
abbrev pub work_of : ℕ → Model → History → List Pair → Work
work_of n m now ps = record { keys = map pack_entry m.keys; pairs = map pack_pair ps; facts = map pack_fact m.facts; depths = m.depths; history = map now (from 0 n) }

abbrev pub OctetPair : Pair → Type 0
OctetPair p = Octet p.0 × Octet p.1

abbrev OctetValue : Entry → Type 0
OctetValue x = Octet x.1

refile_pairs : (xs : List Entry) (r : Filed) → All OctetValue xs → All OctetValue r.0 → All OctetPair r.1 → All OctetPair (refile xs r).1
unfolding refile file
refile_pairs [] r a b c = c
refile_pairs (x ∷ xs) r a b c =
    refile_pairs xs (file x r) a.1 (insert_key_all OctetValue x r.0 a.0 b)
    (case_o_elim (All OctetPair) (find x.0 r.0) _ _ (λ _. c) (λ v e. ((find_all OctetValue x.0 r.0 v b e, a.0), c)))

-- Keys and facts fit, and each element is now one below 256.
pub record Ready (arity : ℕ → ℕ → ℕ) (n : ℕ) (m : Model) (now : History) : Type 0 where
  pub keys : All (FitsEntry arity) m.keys
  pub facts : All (FitsFact arity) m.facts
  pub history : All (λ e. Octet (now e)) (from 0 n)

module _ (arity : ℕ → ℕ → ℕ) (n s l : ℕ) (h : s < l) (b : s < 256) (m : Model) (now : History) (ps : List Pair) (g : Ready arity n m now) where
  keys_fit_lem : All (FitsEntry arity) (map (rename_entry s l) m.keys)
  keys_fit_lem = all_map (FitsEntry arity) (FitsEntry arity) (rename_entry s l) (λ x p. rename_fits s l x b p) m.keys g.keys

  ordered_fit : All (FitsEntry arity) (in_order (map (rename_entry s l) m.keys))
  ordered_fit = in_order_all (FitsEntry arity) (map (rename_entry s l) m.keys) keys_fit_lem

  facts_fit_lem : All (FitsFact arity) (map (rename_fact s l) m.facts)
  unfolding rename_fact rename_entry
  facts_fit_lem = all_map (FitsFact arity) (FitsFact arity) (rename_fact s l)
      (λ f p. subst (λ v. FitsEntry arity ((fact_entry (rename_fact s l f)).0, v)) (rename_zero s l h) (rename_fits s l (fact_entry f) b p)) m.facts g.facts

  pub into_ready : Ready arity n (merge_into s l m ps).0 (λ e. rename s l (now e))
  unfolding merge_into
  into_ready = record {
    keys = refile_all (FitsEntry arity) (in_order (map (rename_entry s l) m.keys)) ([], map (rename_pair s l) ps) ordered_fit tt;
    facts = refact_all (FitsFact arity) (map (rename_fact s l) m.facts) [] facts_fit_lem tt;
    history = all_all (λ e. Octet (now e)) (λ e. Octet (rename s l (now e))) (λ e p. rename_octet s l (now e) b p) (from 0 n) g.history;
  }

  module _ (a : All OctetPair ps) where
    pairs_rename : map pack_pair (map (rename_pair s l) ps) ≡ map (replaced s l) (map pack_pair ps)
    pairs_rename =
        map_map pack_pair (rename_pair s l) ps
        ∙ map_agree OctetPair (λ p. pack_pair (rename_pair s l p)) (λ p. replaced s l (pack_pair p)) (λ p q. pair_rename s l p h q.0 q.1) ps a
        ∙ sym (map_map (replaced s l) pack_pair ps)

    history_rename : map (λ e. rename s l (now e)) (from 0 n) ≡ map (replaced s l) (map now (from 0 n))
    history_rename =
        map_agree (λ e. Octet (now e)) (λ e. rename s l (now e)) (λ e. replaced s l (now e)) (λ e p. sym (element_rename s l (now e) h p)) (from 0 n) g.history
        ∙ sym (map_map (replaced s l) now (from 0 n))

    filed : pack_filed (refile (in_order (map (rename_entry s l) m.keys)) ([], map (rename_pair s l) ps))
        ≡ refile_in (order_in (map (replaced s l) (map pack_entry m.keys))) ([], map (replaced s l) (map pack_pair ps))
    filed =
        refile_is arity (in_order (map (rename_entry s l) m.keys)) ([], map (rename_pair s l) ps) ordered_fit tt
        ∙ ap₂ (λ (x y : List ℕ). refile_in x ([], y)) (order_is arity (map (rename_entry s l) m.keys) keys_fit_lem ∙ ap order_in (keys_rename arity s l h m.keys g.keys)) pairs_rename

    -- A fact's value is 0, renamed or not.
    plain : All Plain (map (replaced s l) (map pack_fact m.facts))
    plain = subst (All Plain) (facts_rename arity s l h m.facts g.facts)
        (all_map {0, 0, 0, 0} (λ (_ : Fact). Unit) Plain pack_fact (λ f _. value_of_lem (fact_entry f) (omega arith)) (map (rename_fact s l) m.facts) (all_any (λ (_ : Fact). Unit) (λ _. tt) (map (rename_fact s l) m.facts)))

    facted : map pack_fact (refact (map (rename_fact s l) m.facts) []) ≡ refact_in (order_in (map (replaced s l) (map pack_fact m.facts))) []
    facted =
        refact_is arity (map (rename_fact s l) m.facts) [] facts_fit_lem tt
        ∙ ap (λ (x : List ℕ). refact_in x []) (facts_rename arity s l h m.facts g.facts)
        ∙ sym (refact_order (map (replaced s l) (map pack_fact m.facts)) [] plain)

    pub into_is : work_of n (merge_into s l m ps).0 (λ e. rename s l (now e)) (merge_into s l m ps).1 ≡ into_in s l (work_of n m now ps)
    unfolding merge_into into_in
    into_is = λ i. record {
      keys = (filed i).0;
      pairs = (filed i).1;
      facts = facted i;
      depths = merge_depths s l m.depths;
      history = history_rename i;
    }

    pub into_pairs : All OctetPair (merge_into s l m ps).1
    unfolding merge_into
    into_pairs = refile_pairs (in_order (map (rename_entry s l) m.keys)) ([], map (rename_pair s l) ps)
        (all_all (FitsEntry arity) OctetValue (λ x p. p.value) (in_order (map (rename_entry s l) m.keys)) ordered_fit) tt
        (all_map OctetPair OctetPair (rename_pair s l) (λ p q. (rename_octet s l p.0 b q.0, rename_octet s l p.1 b q.1)) ps a)

-- ---- the pairs one after another

-- The tables are those of a model and a history that are ready; whatever pairs wait.
pub record Packs (arity : ℕ → ℕ → ℕ) (n : ℕ) (v : Work) (r : Model × History) : Type 0 where
  pub ready : Ready arity n r.0 r.1
  pub keys : v.keys ≡ map pack_entry r.0.keys
  pub facts : v.facts ≡ map pack_fact r.0.facts
  pub depths : v.depths ≡ r.0.depths
  pub history : v.history ≡ map r.1 (from 0 n)

packs : (arity : ℕ → ℕ → ℕ) (n : ℕ) (m : Model) (now : History) (ps : List Pair) → Ready arity n m now → Packs arity n (work_of n m now ps) (m, now)
packs arity n m now ps g = record { ready = g; keys = refl; facts = refl; depths = refl; history = refl }

next_is : (p : Pair) → OctetPair p → (v : Work) → next_in (pack_pair p) v ≡ if (eqb p.0 p.1) (λ _. v) (λ _. into_in (min p.0 p.1) (max p.0 p.1) v)
unfolding next_in
next_is p o v =
    let q : pack_pair p / 256 ≡ p.0 = omega (arith, o.1) in
    let m : pack_pair p % 256 ≡ p.1 = omega (arith, o.1) in
    ap₂ (λ (a b : ℕ). if (eqb a b) (λ _. v) (λ _. into_in (min a b) (max a b) v)) q m

pub all_is : (arity : ℕ → ℕ → ℕ) (n k : ℕ) (m : Model) (now : History) (ps : List Pair) → Ready arity n m now → All OctetPair ps
    → Packs arity n (merge_all_in k (work_of n m now ps)) (merge_all k m now ps)
unfolding merge_all_in merge_all case_l
all_is arity n zero m now ps g a = packs arity n m now ps g
all_is arity n (suc k) m now [] g a = packs arity n m now [] g
all_is arity n (suc k) m now (p ∷ ps) g a =
    let v = work_of n m now ps in
    let s : ℕ = min p.0 p.1 in
    let l : ℕ = max p.0 p.1 in
    let b : s < 256 = omega (arith, a.0.0) in
    let e = next_is p a.0 v in
    if_elim (Packs arity n (merge_all_in k (next_in (pack_pair p) v))) (eqb p.0 p.1) _ _
    (λ t. subst (λ u. Packs arity n (merge_all_in k u) (merge_all k m now ps)) (sym (e ∙ if_true (eqb p.0 p.1) _ _ t)) (all_is arity n k m now ps g a.1))
    (λ t.
    let d = neqb→ne p.0 p.1 t in
    let h : s < l = omega arith in
    subst (λ u. Packs arity n (merge_all_in k u) (merge_all k (merge_into s l m ps).0 (λ e. rename s l (now e)) (merge_into s l m ps).1))
    (into_is arity n s l h b m now ps g a.1 ∙ sym (e ∙ if_false (eqb p.0 p.1) _ _ t))
    (all_is arity n k (merge_into s l m ps).0 (λ e. rename s l (now e)) (merge_into s l m ps).1
    (into_ready arity n s l h b m now ps g) (into_pairs arity n s l h b m now ps g a.1)))

-- ---- a merge

-- a and b become one, and depths are lowered.
unfoldable pub merged_in : ℕ → ℕ → Work → Work
merged_in a b v = lowered_in (merge_all_in (suc (length v.keys)) (waiting (pack_pair (a, b) ∷ []) v))

pub merge_is : (arity : ℕ → ℕ → ℕ) (n a b : ℕ) (m : Model) (now : History) (ps : List Pair) → Ready arity n m now → a < 256 → b < 256
    → Packs arity n (merged_in a b (work_of n m now ps)) (merge a b m now)
unfolding merged_in merge lowered
merge_is arity n a b m now ps g p q =
    let k = suc (length m.keys) in
    let e : suc (length (map pack_entry m.keys)) ≡ k = ap suc (length-map m.keys pack_entry) in
    let r = subst (λ j. Packs arity n (merge_all_in j (work_of n m now ((a, b) ∷ []))) (merge_all k m now ((a, b) ∷ []))) (sym e)
    (all_is arity n k m now ((a, b) ∷ []) g ((p, q), tt)) in
    let x = (merge_all k m now ((a, b) ∷ [])).0 in
    record {
      ready = record { keys = r.ready.keys; facts = r.ready.facts; history = r.ready.history };
      keys = r.keys;
      facts = r.facts;
      depths = ap₂ (λ (ks ds : List ℕ). lower_in (sum ds) ks ds) r.keys r.depths
          ∙ lower_is (sum x.depths) x.keys (all_all (FitsEntry arity) Eight (λ y z. eight_of y z) x.keys r.ready.keys) x.depths;
      history = r.history;
    }
