-- Renaming, ordering and filing on numbers are the document's, through packing.
use Rattle.std.specs.Prelude.{◌≡◌}
use Rattle.std.proofs.Math.Path.{refl, ap, ap₂}
use Rattle.std.proofs.Common.{sym, ◌∙◌, arith}
use Prim.Native.Nat.{ℕ, ◌+◌, ◌*◌, ◌/◌, ◌%◌, ◌^◌, ◌<◌, compare, Ordering}
use Rattle.std.proofs.Math.Option.{Option, none, some}
use mathlib.Core.List.{List, [], ◌∷◌, map}
use Rattle.base.specs.Branch.{case_o, three}
use Rattle.base.specs.Lists.{All}
use Rattle.base.specs.ListLaws.{map_map, map_agree}
use Rattle.rules.specs.Sheet.{Fact, Entry, find, insert_fact}
use Rattle.rules.specs.Merge.{rename, rename_entry, rename_fact, Pair, rename_pair, entry_order, insert_entry, in_order, Filed, file, refile, refact}
use Rattle.laws.specs.Tables.{insert_key_all, insert_fact_all}
use Rattle.laws.specs.InOrder.{in_order_all}
use Rattle.packing.specs.Compare.{ways, compare_lt, compare_eq, compare_gt}
use Rattle.packing.specs.Pack.{pack_key, pack_entry, pack_fact, fact_entry, FitsEntry, key_order_lem}
use Rattle.packing.specs.Replace.{key_of, arg_of, replaced, eight_of, key_of_lem, value_of_lem, pack_rename, fact_rename, rename_zero}
use Rattle.tables.specs.Table.{look_in}
use Rattle.tables.specs.Carry.{FitsFact, find_is, insert_is, facts_insert_is}
use Rattle.renaming.specs.Order.{insert_in, order_in}
use Rattle.filing.specs.File.{Files, file_in, refile_in, refact_in}

-- ---- pairs

abbrev pub pack_pair : Pair → ℕ
pack_pair p = p.0 * 256 + p.1

-- An element alone is renamed as an entry is: all its other digits are 0.
zeros : (s l x : ℕ) → s < l → x < 256 * 256 → replaced s l x ≡ rename s l (x / 256) * 256 + rename s l (x % 256)
unfolding replaced arg_of
zeros s l x h b =
    let z = rename_zero s l h in
    let e0 : x / 256 ^ 4 % 256 ≡ 0 = omega arith in
    let e1 : x / 256 ^ 3 % 256 ≡ 0 = omega arith in
    let e2 : x / 256 ^ 2 % 256 ≡ 0 = omega arith in
    let e3 : x / 256 % 256 ≡ x / 256 = omega arith in
    let e4 : x / 256 ^ 5 ≡ 0 = omega arith in
    rw (e0, e1, e2, e3, e4, z) (omega arith)

pub element_rename : (s l e : ℕ) → s < l → e < 256 → replaced s l e ≡ rename s l e
element_rename s l e h b =
    let q : e / 256 ≡ 0 = omega arith in
    let m : e % 256 ≡ e = omega arith in
    zeros s l e h (omega arith) ∙ (rw (q, m, rename_zero s l h) (omega arith))

pub pair_rename : (s l : ℕ) (p : Pair) → s < l → p.0 < 256 → p.1 < 256 → pack_pair (rename_pair s l p) ≡ replaced s l (pack_pair p)
pair_rename s l p h a b =
    let q : (p.0 * 256 + p.1) / 256 ≡ p.0 = omega arith in
    let m : (p.0 * 256 + p.1) % 256 ≡ p.1 = omega arith in
    sym (zeros s l (p.0 * 256 + p.1) h (omega arith) ∙ (rw (q, m)))

module _ (arity : ℕ → ℕ → ℕ) (s l : ℕ) (h : s < l) where
  pub keys_rename : (xs : List Entry) → All (FitsEntry arity) xs → map pack_entry (map (rename_entry s l) xs) ≡ map (replaced s l) (map pack_entry xs)
  keys_rename xs a =
      map_map pack_entry (rename_entry s l) xs
      ∙ map_agree (FitsEntry arity) (λ x. pack_entry (rename_entry s l x)) (λ x. replaced s l (pack_entry x)) (λ x p. pack_rename s l x h (eight_of x p)) xs a
      ∙ sym (map_map (replaced s l) pack_entry xs)

  pub facts_rename : (xs : List Fact) → All (FitsFact arity) xs → map pack_fact (map (rename_fact s l) xs) ≡ map (replaced s l) (map pack_fact xs)
  facts_rename xs a =
      map_map pack_fact (rename_fact s l) xs
      ∙ map_agree (FitsFact arity) (λ x. pack_fact (rename_fact s l x)) (λ x. replaced s l (pack_fact x)) (λ x p. fact_rename s l x h (eight_of (fact_entry x) p)) xs a
      ∙ sym (map_map (replaced s l) pack_fact xs)

-- ---- in order

-- Packed entries are ordered as entries are.
entry_order_is : (arity : ℕ → ℕ → ℕ) (x y : Entry) → FitsEntry arity x → FitsEntry arity y → entry_order x y ≡ compare (pack_entry x) (pack_entry y)
unfolding pack_entry three
entry_order_is arity x y p q =
    ap (λ o. three o (λ _. Ordering.lt) (λ _. compare x.1 y.1) (λ _. Ordering.gt)) (key_order_lem x.0 y.0 p.key q.key)
    ∙ ways (λ o. three o (λ _. Ordering.lt) (λ _. compare x.1 y.1) (λ _. Ordering.gt) ≡ compare (pack_key x.0 * 256 + x.1) (pack_key y.0 * 256 + y.1)) (pack_key x.0) (pack_key y.0)
    (λ h. sym (compare_lt _ _ (omega (arith, p.value))))
    (λ h. ways (λ o. o ≡ compare (pack_key x.0 * 256 + x.1) (pack_key y.0 * 256 + y.1)) x.1 y.1
    (λ g. sym (compare_lt _ _ (omega arith))) (λ g. sym (compare_eq _ _ (omega arith))) (λ g. sym (compare_gt _ _ (omega arith))))
    (λ h. sym (compare_gt _ _ (omega (arith, q.value))))

module _ (arity : ℕ → ℕ → ℕ) where
  entry_is : (x : Entry) (ys : List Entry) → FitsEntry arity x → All (FitsEntry arity) ys → map pack_entry (insert_entry x ys) ≡ insert_in (pack_entry x) (map pack_entry ys)
  unfolding insert_entry insert_in three
  entry_is x [] p a = refl
  entry_is x (y ∷ ys) p a =
      through (entry_is x ys p a.1) (entry_order x y) ∙ ap (λ o. three o (λ _. pack_entry x ∷ pack_entry y ∷ map pack_entry ys) (λ _. pack_entry y ∷ insert_in (pack_entry x) (map pack_entry ys))
      (λ _. pack_entry y ∷ insert_in (pack_entry x) (map pack_entry ys))) (entry_order_is arity x y p a.0)
    where
      through : map pack_entry (insert_entry x ys) ≡ insert_in (pack_entry x) (map pack_entry ys) → (o : Ordering) → map pack_entry (three o (λ _. x ∷ y ∷ ys) (λ _. y ∷ insert_entry x ys) (λ _. y ∷ insert_entry x ys))
          ≡ three o (λ _. pack_entry x ∷ pack_entry y ∷ map pack_entry ys) (λ _. pack_entry y ∷ insert_in (pack_entry x) (map pack_entry ys)) (λ _. pack_entry y ∷ insert_in (pack_entry x) (map pack_entry ys))
      through e Ordering.lt = refl
      through e Ordering.eq = ap (λ (l : List ℕ). pack_entry y ∷ l) e
      through e Ordering.gt = ap (λ (l : List ℕ). pack_entry y ∷ l) e

  pub order_is : (xs : List Entry) → All (FitsEntry arity) xs → map pack_entry (in_order xs) ≡ order_in (map pack_entry xs)
  unfolding in_order order_in
  order_is [] a = refl
  order_is (x ∷ xs) a = entry_is x (in_order xs) a.0 (in_order_all (FitsEntry arity) xs a.1) ∙ ap (insert_in (pack_entry x)) (order_is xs a.1)

-- ---- filing

abbrev pub pack_filed : Filed → Files
pack_filed r = (map pack_entry r.0, map pack_pair r.1)

module _ (arity : ℕ → ℕ → ℕ) where
  pub file_is : (x : Entry) (r : Filed) → FitsEntry arity x → All (FitsEntry arity) r.0 → pack_filed (file x r) ≡ file_in (pack_entry x) (pack_filed r)
  unfolding file file_in case_o
  file_is x r p a =
      let o : find x.0 r.0 ≡ look_in (key_of (pack_entry x)) (map pack_entry r.0) =
      find_is arity x.0 r.0 p.key a ∙ ap (λ k. look_in k (map pack_entry r.0)) (sym (key_of_lem x p.value)) in
      ap₂ (λ (a b : List ℕ). (a, b)) (insert_is arity x r.0 p a)
      (pairs (find x.0 r.0) ∙ ap₂ (λ (q : Option ℕ) (w : ℕ). case_o q (λ _. map pack_pair r.1) (λ v. (v * 256 + w) ∷ map pack_pair r.1)) o (sym (value_of_lem x p.value)))
    where
      pairs : (o : Option ℕ) → map pack_pair (case_o o (λ _. r.1) (λ v. (v, x.1) ∷ r.1)) ≡ case_o o (λ _. map pack_pair r.1) (λ v. (v * 256 + x.1) ∷ map pack_pair r.1)
      pairs none = refl
      pairs (some v) = refl

  pub refile_is : (xs : List Entry) (r : Filed) → All (FitsEntry arity) xs → All (FitsEntry arity) r.0
      → pack_filed (refile xs r) ≡ refile_in (map pack_entry xs) (pack_filed r)
  unfolding refile refile_in file
  refile_is [] r a b = refl
  refile_is (x ∷ xs) r a b =
      refile_is xs (file x r) a.1 (insert_key_all (FitsEntry arity) x r.0 a.0 b)
      ∙ ap (refile_in (map pack_entry xs)) (file_is x r a.0 b)

  pub refact_is : (fs ds : List Fact) → All (FitsFact arity) fs → All (FitsFact arity) ds
      → map pack_fact (refact fs ds) ≡ refact_in (map pack_fact fs) (map pack_fact ds)
  unfolding refact refact_in
  refact_is [] ds a b = refl
  refact_is (f ∷ fs) ds a b =
      refact_is fs (insert_fact f ds) a.1 (insert_fact_all (FitsFact arity) f ds a.0 b)
      ∙ ap (refact_in (map pack_fact fs)) (facts_insert_is arity f ds a.0 b)
