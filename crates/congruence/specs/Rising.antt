-- Two rising lists with the same entries are one list, for keys and for facts alike: their first entries are one, since of two
-- entries not each can be below the other; and so on with the rest, where the first does not occur again.
use Rattle.std.specs.Prelude.{◌≡◌, refl, ℕ, List, [], ◌∷◌, T}
use Rattle.std.proofs.Common.{sym, ap₂, ◌∙◌, subst, inl, inr}
use Prim.Native.Nat.{Ordering}
use Rattle.std.proofs.Math.Dec.{compare_is_eq}
use Rattle.base.specs.Branch.{order}
use Rattle.base.specs.Lists.{All}
use Rattle.base.specs.BranchLaws.{order_self, order_trans}
use Rattle.base.specs.ListLaws.{In, all_in, all_all, all_both}
use Rattle.rules.specs.Sheet.{Fact, Entry, key_order, fact_order}
use Rattle.laws.specs.Tables.{KeysRise, FactsRise}
use Rattle.soundness.specs.Tools.{in_has}
use Rattle.congruence.specs.Images.{Images}

module _ {A : Type 0} (Below : A → A → Type 0) (apart : (x y : A) → Below x y → Below y x → ⊥)
    (Rise : List A → Type 0) (parts : (x : A) (xs : List A) → Rise (x ∷ xs) → All (Below x) xs × Rise xs) where
  first_one : (x y : A) (xs ys : List A) → Rise (x ∷ xs) → Rise (y ∷ ys) → In x (y ∷ ys) → In y (x ∷ xs) → x ≡ y
  first_one x y xs ys r s (inl p) j = sym p
  first_one x y xs ys r s (inr i) (inl q) = q
  first_one x y xs ys r s (inr i) (inr j) =
      absurd (apart x y (in_has (Below x) y xs j (parts x xs r).0) (in_has (Below y) x ys i (parts y ys s).0))

  -- What is above the first entry is among the rest.
  in_rest : (x y : A) (ys : List A) → x ≡ y → (z : A) → Below x z → In z (y ∷ ys) → In z ys
  in_rest x y ys e z b (inl p) = let l = subst (Below x) (sym (e ∙ p)) b in absurd (apart x x l l)
  in_rest x y ys e z b (inr i) = i

  rising_same : (xs ys : List A) → Rise xs → Rise ys → All (λ x. In x ys) xs → All (λ y. In y xs) ys → xs ≡ ys
  rising_same [] [] r s a b = refl
  rising_same [] (y ∷ ys) r s a b = absurd b.0.lower
  rising_same (x ∷ xs) [] r s a b = absurd a.0.lower
  rising_same (x ∷ xs) (y ∷ ys) r s a b =
      let e = first_one x y xs ys r s a.0 b.0 in
      let p = parts x xs r in
      let q = parts y ys s in
      ap₂ {C = List A} ◌∷◌ e (rising_same xs ys p.1 q.1
      (all_both (Below x) (λ z. In z (y ∷ ys)) (λ z. In z ys) (in_rest x y ys e) xs p.0 a.1)
      (all_both (Below y) (λ z. In z (x ∷ xs)) (λ z. In z xs) (in_rest y x xs (sym e)) ys q.0 b.1))

  -- So a rising list of images is determined.
  images_unique : (f : A → A) (xs ys zs : List A) → Rise ys → Rise zs → Images f xs ys → Images f xs zs → ys ≡ zs
  images_unique f xs ys zs r s u v = rising_same ys zs r s (within ys zs u v) (within zs ys v u)
    where
      within : (ps qs : List A) → Images f xs ps → Images f xs qs → All (λ p. In p qs) ps
      within ps qs m n = all_all (λ p. In p ps) (λ p. In p qs) (λ p i. (n p).1 ((m p).0 i)) ps (all_in ps)

not_both : (xs ys : List ℕ) → order xs ys ≡ Ordering.lt → order ys xs ≡ Ordering.lt → ⊥
not_both xs ys p q = subst (λ o. T (compare_is_eq o)) (order_trans xs ys xs p q) (order_self xs)

pub keys_unique : (f : Entry → Entry) (xs ys zs : List Entry) → KeysRise ys → KeysRise zs → Images f xs ys → Images f xs zs → ys ≡ zs
keys_unique = images_unique (λ x y. key_order x.0 y.0 ≡ Ordering.lt) (λ x y. not_both _ _) KeysRise (λ x xs r. r)

pub facts_unique : (f : Fact → Fact) (xs ys zs : List Fact) → FactsRise ys → FactsRise zs → Images f xs ys → Images f xs zs → ys ≡ zs
facts_unique = images_unique (λ x y. fact_order x y ≡ Ordering.lt) (λ x y. not_both _ _) FactsRise (λ x xs r. r)
