-- Merging two elements that have one thing keeps the fit, and each element keeps its thing: h itself goes on fitting. For h does
-- not tell an element from its survivor, and two values of one key both have the thing that the key names.
use Rattle.std.specs.Prelude.{◌≡◌, refl, length}
use Rattle.std.proofs.Math.Path.{sym, ap, subst}
use Rattle.std.proofs.Common.{◌∙◌, eqb→eq}
use Prim.Native.Nat.{ℕ, zero, suc, ◌<◌, min, max}
use Rattle.std.proofs.Math.Decide.{dec_le}
use native.Mathlib.Omega.{arith}
use mathlib.Core.List.{List, [], ◌∷◌, map}
use Rattle.std.proofs.Math.Dec.{T}
use Rattle.base.specs.Lists.{All}
use Rattle.base.specs.BranchLaws.{if_elim, case_o_elim}
use Rattle.base.specs.ListLaws.{map_map, map_agree, all_map}
use Rattle.rules.specs.Sheet.{Fact, Entry, Model}
use Rattle.rules.specs.Bound.{History}
use Rattle.rules.specs.Merge.{rename, rename_entry, rename_fact, Pair, rename_pair, Filed, file, refile, merge_into, merge_all, lowered, merge}
use Rattle.rules.specs.Arrangement.{Arrangement}
use Rattle.laws.specs.Tables.{find_all, insert_key_all, refile_all, refact_all}
use Rattle.laws.specs.InOrder.{in_order_all}
use Rattle.fitting.specs.Enter.{Low, KeyFits, FactFits, FitsBy, Has, Follows}

-- Two created elements that have one thing.
record PairFits (n : ℕ) (h : ℕ → ℕ) (p : Pair) : Type 0 where
  left : p.0 < n
  right : p.1 < n
  one : h p.0 ≡ h p.1

-- One of them is the survivor, the other goes.
one_of : (h : ℕ → ℕ) (a b : ℕ) → h a ≡ h b → h (min a b) ≡ h (max a b)
one_of h a b e = elim (dec_le a b) [
  | yes p ↦ (let q : min a b ≡ a = omega arith in let r : max a b ≡ b = omega arith in ap h q ∙ e ∙ ap h (sym r))
  | no p ↦ (let q : min a b ≡ b = omega arith in let r : max a b ≡ a = omega arith in ap h q ∙ sym e ∙ ap h (sym r))
]

module _ (A : Arrangement) (n : ℕ) (h : ℕ → ℕ) where
  -- Two values for one key make a pair that fits.
  refile_pairs : (xs : List Entry) (r : Filed) → All (KeyFits A n h) xs → All (KeyFits A n h) r.0 → All (PairFits n h) r.1
      → All (PairFits n h) (refile xs r).1
  unfolding refile file
  refile_pairs [] r a b c = c
  refile_pairs (x ∷ xs) r a b c = refile_pairs xs (file x r) a.1 (insert_key_all (KeyFits A n h) x r.0 a.0 b)
      (case_o_elim (All (PairFits n h)) _ _ _ (λ _. c)
      (λ v p. let q = find_all (KeyFits A n h) x.0 r.0 v b p in
      (record { left = q.value_low; right = a.0.value_low; one = sym q.stands ∙ a.0.stands }, c)))

  module _ (s l : ℕ) (low : s < n) (one : h s ≡ h l) where
    -- An element's survivor is a created one, with the element's thing.
    renamed_has : (e v : ℕ) → Has n h e v → Has n h (rename s l e) v
    unfolding rename
    renamed_has e v i = if_elim (λ x. Has n h x v) _ _ _ (λ t. (low, one ∙ ap h (sym (eqb→eq e l t)) ∙ i.1)) (λ _. i)

    renamed_low : (e : ℕ) → e < n → rename s l e < n
    renamed_low e p = (renamed_has e (h e) (p, refl)).0

    renamed_things : (xs : List ℕ) → Low n xs → map h (map (rename s l) xs) ≡ map h xs
    renamed_things xs a = map_map h (rename s l) xs
        ∙ map_agree (λ (e : ℕ). e < n) (λ e. h (rename s l e)) h (λ e p. (renamed_has e (h e) (p, refl)).1) xs a

    renamed_lows : (xs : List ℕ) → Low n xs → Low n (map (rename s l) xs)
    renamed_lows xs a = all_map (λ (e : ℕ). e < n) (λ (e : ℕ). e < n) (rename s l) renamed_low xs a

    entry_fits : (x : Entry) → KeyFits A n h x → KeyFits A n h (rename_entry s l x)
    unfolding rename_entry
    entry_fits x f =
        let v = renamed_has x.1 _ (f.value_low, sym f.stands) in
        record {
          stands = ap (A.value x.0.kind x.0.symbol) (renamed_things x.0.args f.low) ∙ sym v.1;
          low = renamed_lows x.0.args f.low;
          value_low = v.0;
        }

    fact_fits : (x : Fact) → FactFits A n h x → FactFits A n h (rename_fact s l x)
    unfolding rename_fact
    fact_fits x f = record {
      stands = subst (λ v. T (A.truth x.relation v)) (sym (renamed_things x.args f.low)) f.stands;
      low = renamed_lows x.args f.low;
    }

    pair_fits : (p : Pair) → PairFits n h p → PairFits n h (rename_pair s l p)
    pair_fits p f =
        let a = renamed_has p.0 _ (f.left, f.one) in
        let b = renamed_has p.1 _ (f.right, refl) in
        record { left = a.0; right = b.0; one = a.1 ∙ sym b.1 }

module _ (A : Arrangement) (h : ℕ → ℕ) where
  -- One round: a pair that fits becomes one element.
  into_fits : (s l : ℕ) (m : Model) (ps : List Pair) → FitsBy A m h → s < m.created → h s ≡ h l → All (PairFits m.created h) ps
      → FitsBy A (merge_into s l m ps).0 h × All (PairFits m.created h) (merge_into s l m ps).1
  unfolding merge_into
  into_fits s l m ps f low one a =
      let n = m.created in
      let ks = in_order_all (KeyFits A n h) _ (all_map _ (KeyFits A n h) (rename_entry s l) (entry_fits A n h s l low one) m.keys f.keys) in
      let fs = all_map _ (FactFits A n h) (rename_fact s l) (fact_fits A n h s l low one) m.facts f.facts in
      let qs = all_map _ (PairFits n h) (rename_pair s l) (pair_fits A n h s l low one) ps a in (
        record { things = f.things; keys = refile_all (KeyFits A n h) _ _ ks tt; facts = refact_all (FactFits A n h) _ [] fs tt },
        refile_pairs A n h _ _ ks tt qs,
      )

  module _ (base : ℕ) (h₀ : ℕ → ℕ) where
    abbrev Merged : Model × History → Type 0
    Merged r = FitsBy A r.0 h × Follows base h₀ r.1 r.0.created h

    all_fits : (k : ℕ) (m : Model) (now : History) (ps : List Pair) → FitsBy A m h → Follows base h₀ now m.created h → All (PairFits m.created h) ps
        → Merged (merge_all k m now ps)
    unfolding merge_all merge_into
    all_fits zero m now ps f w a = (f, w)
    all_fits (suc k) m now [] f w a = (f, w)
    all_fits (suc k) m now (p ∷ ps) f w a =
        if_elim Merged _ _ _ (λ _. all_fits k m now ps f w a.1) (λ _.
        let s : ℕ = min p.0 p.1 in
        let l : ℕ = max p.0 p.1 in
        let x = a.0.left in
        let y = a.0.right in
        let low : s < m.created = omega arith in
        let one : h s ≡ h l = one_of h p.0 p.1 a.0.one in
        let r = into_fits s l m ps f low one a.1 in
        all_fits k (merge_into s l m ps).0 (λ e. rename s l (now e)) (merge_into s l m ps).1 r.0
        (λ e i. renamed_has A m.created h s l low one (now e) (h₀ e) (w e i)) r.1)

    pub merge_fits : (a b : ℕ) (m : Model) (now : History) → FitsBy A m h → Follows base h₀ now m.created h → a < m.created → b < m.created → h a ≡ h b
        → Merged (merge a b m now)
    unfolding merge lowered
    merge_fits a b m now f w i j e =
        let r = all_fits (suc (length m.keys)) m now ((a, b) ∷ []) f w (record { left = i; right = j; one = e }, tt) in
        (record { things = r.0.things; keys = r.0.keys; facts = r.0.facts }, r.1)
