-- A table of numbers is the document's table of keys, or of facts: looking, putting in and rising agree through packing.
-- The entries fit: a symbol has one arity. A fact is an entry of kind 0 with value 0, so its laws are those of keys.
use Rattle.std.specs.Prelude.{◌≡◌, Bool, true, false}
use Rattle.std.proofs.Math.Path.{refl, ap, ap₂}
use Rattle.std.proofs.Common.{sym, ◌∙◌, subst}
use Prim.Native.Nat.{ℕ, ◌<◌, compare, Ordering}
use Rattle.std.proofs.Math.Option.{Option, none, some}
use mathlib.Core.List.{List, [], ◌∷◌, map}
use Rattle.base.specs.Branch.{three, case_o}
use Rattle.base.specs.Lists.{All}
use Rattle.base.specs.ListLaws.{map_map, all_map}
use Rattle.rules.specs.Sheet.{Key, Fact, Entry, key_order, fact_order, find, holds, insert_key, insert_fact}
use Rattle.laws.specs.Tables.{KeysRise, FactsRise}
use Rattle.packing.specs.Compare.{compare_is_lt}
use Rattle.packing.specs.Pack.{pack_key, pack_entry, pack_fact, fact_key, fact_entry, Fits, FitsEntry, key_order_lem, fact_order_lem}
use Rattle.packing.specs.Replace.{key_of, value_of, key_of_lem, value_of_lem}
use Rattle.tables.specs.Table.{look_in, put_in, Rising, is_some}

-- What is made of the branch that is taken.
three_map {ℓ κ} : {A : Type ℓ} {B : Type κ} (m : A → B) (o : Ordering) (f g h : Unit {0} → A)
    → m (three o f g h) ≡ three o (λ _. m (f tt)) (λ _. m (g tt)) (λ _. m (h tt))
unfolding three
three_map m Ordering.lt f g h = refl
three_map m Ordering.eq f g h = refl
three_map m Ordering.gt f g h = refl

module _ (arity : ℕ → ℕ → ℕ) where
  order_is : (k : Key) (x : Entry) → Fits arity k → FitsEntry arity x → key_order k x.0 ≡ compare (pack_key k) (key_of (pack_entry x))
  order_is k x p q = key_order_lem k x.0 p q.key ∙ ap (compare (pack_key k)) (sym (key_of_lem x q.value))

  -- ---- keys

  pub find_is : (k : Key) (xs : List Entry) → Fits arity k → All (FitsEntry arity) xs → find k xs ≡ look_in (pack_key k) (map pack_entry xs)
  unfolding find look_in
  find_is k [] p a = refl
  find_is k (x ∷ xs) p a =
      ap₂ (λ (v : ℕ) (r : Option ℕ). three (key_order k x.0) (λ _. none) (λ _. some v) (λ _. r)) (sym (value_of_lem x a.0.value)) (find_is k xs p a.1)
      ∙ ap (λ o. three o (λ _. none) (λ _. some (value_of (pack_entry x))) (λ _. look_in (pack_key k) (map pack_entry xs))) (order_is k x p a.0)

  pub insert_is : (n : Entry) (xs : List Entry) → FitsEntry arity n → All (FitsEntry arity) xs
      → map pack_entry (insert_key n xs) ≡ put_in (pack_entry n) (map pack_entry xs)
  unfolding insert_key put_in
  insert_is n [] p a = refl
  insert_is n (x ∷ xs) p a =
      three_map (map pack_entry) (key_order n.0 x.0) _ _ _
      ∙ ap₂ (λ (o : Ordering) (l : List ℕ). three o (λ _. pack_entry n ∷ pack_entry x ∷ map pack_entry xs) (λ _. pack_entry n ∷ map pack_entry xs) (λ _. pack_entry x ∷ l))
      (order_is n.0 x p.key a.0 ∙ ap (λ k. compare k (key_of (pack_entry x))) (sym (key_of_lem n p.value))) (insert_is n xs p a.1)

  pub rising_is : (xs : List Entry) → All (FitsEntry arity) xs → KeysRise xs → Rising (map pack_entry xs)
  unfolding Rising
  rising_is [] a r = tt
  rising_is (x ∷ xs) a r = (above xs a.1 r.0, rising_is xs a.1 r.1)
    where
      above : (ys : List Entry) → All (FitsEntry arity) ys → All (λ (y : Entry). key_order x.0 y.0 ≡ Ordering.lt) ys → All (λ n. key_of (pack_entry x) < key_of n) (map pack_entry ys)
      above [] b c = tt
      above (y ∷ ys) b c =
          (subst (λ k. k < key_of (pack_entry y)) (sym (key_of_lem x a.0.value)) (compare_is_lt (pack_key x.0) (key_of (pack_entry y)) (sym (order_is x.0 y a.0.key b.0) ∙ c.0)), above ys b.1 c.1)

-- ---- facts, as entries

pub insert_fact_is : (f : Fact) (xs : List Fact) → map fact_entry (insert_fact f xs) ≡ insert_key (fact_entry f) (map fact_entry xs)
unfolding insert_fact insert_key
insert_fact_is f [] = refl
insert_fact_is f (x ∷ xs) =
    three_map (map fact_entry) (fact_order f x) _ _ _
    ∙ ap₂ (λ (o : Ordering) (l : List Entry). three o (λ _. fact_entry f ∷ fact_entry x ∷ map fact_entry xs) (λ _. fact_entry f ∷ map fact_entry xs) (λ _. fact_entry x ∷ l))
    (fact_order_lem f x) (insert_fact_is f xs)

pub holds_is : (f : Fact) (xs : List Fact) → holds f xs ≡ is_some (find (fact_key f) (map fact_entry xs))
unfolding holds find is_some case_o
holds_is f [] = refl
holds_is f (x ∷ xs) =
    ap₂ (λ (o : Ordering) (b : Bool). three o (λ _. false) (λ _. true) (λ _. b)) (fact_order_lem f x) (holds_is f xs)
    ∙ sym (three_map is_some (key_order (fact_key f) (fact_key x)) _ _ _)

pub facts_rise_is : (xs : List Fact) → FactsRise xs → KeysRise (map fact_entry xs)
facts_rise_is [] r = tt
facts_rise_is (x ∷ xs) r =
    (all_map (λ y. fact_order x y ≡ Ordering.lt) (λ (y : Entry). key_order (fact_key x) y.0 ≡ Ordering.lt) fact_entry (λ y e. sym (fact_order_lem x y) ∙ e) xs r.0, facts_rise_is xs r.1)

-- ---- facts, as numbers

abbrev pub FitsFact : (ℕ → ℕ → ℕ) → Fact → Type 0
FitsFact arity f = FitsEntry arity (fact_entry f)

module _ (arity : ℕ → ℕ → ℕ) where
  entries_fit : (xs : List Fact) → All (FitsFact arity) xs → All (FitsEntry arity) (map fact_entry xs)
  entries_fit xs a = all_map (FitsFact arity) (FitsEntry arity) fact_entry (λ f p. p) xs a

  pub facts_insert_is : (f : Fact) (xs : List Fact) → FitsFact arity f → All (FitsFact arity) xs
      → map pack_fact (insert_fact f xs) ≡ put_in (pack_fact f) (map pack_fact xs)
  facts_insert_is f xs p a =
      sym (map_map pack_entry fact_entry (insert_fact f xs)) ∙ ap (map pack_entry) (insert_fact_is f xs)
      ∙ insert_is arity (fact_entry f) (map fact_entry xs) p (entries_fit xs a) ∙ ap (put_in (pack_fact f)) (map_map pack_entry fact_entry xs)

  pub facts_hold_is : (f : Fact) (xs : List Fact) → FitsFact arity f → All (FitsFact arity) xs
      → holds f xs ≡ is_some (look_in (pack_key (fact_key f)) (map pack_fact xs))
  facts_hold_is f xs p a =
      holds_is f xs ∙ ap is_some (find_is arity (fact_key f) (map fact_entry xs) p.key (entries_fit xs a) ∙ ap (look_in (pack_key (fact_key f))) (map_map pack_entry fact_entry xs))

  pub facts_rising_is : (xs : List Fact) → All (FitsFact arity) xs → FactsRise xs → Rising (map pack_fact xs)
  facts_rising_is xs a r = subst Rising (map_map pack_entry fact_entry xs) (rising_is arity (map fact_entry xs) (entries_fit xs a) (facts_rise_is xs r))
