-- Tables of keys and facts: what is found was there, inserting keeps what holds of all entries, and keeps them rising.
use Rattle.std.specs.Prelude.{◌≡◌, ℕ, T}
use Rattle.std.proofs.Common.{sym, subst}
use Prim.Native.Nat.{Ordering}
use Rattle.std.proofs.Math.Option.{some, none-ne-some, some-injective}
use mathlib.Core.List.{List, [], ◌∷◌, head-eq_of_cons-eq, tail-eq_of_cons-eq}
use Rattle.std.proofs.Math.Dec.{compare_is_eq}
use Rattle.base.specs.Branch.{is_lt}
use Rattle.base.specs.Lists.{All}
use Rattle.base.specs.BranchLaws.{three_elim, and_l, and_r, and_i, order_eq, order_trans, order_flip, is_lt_is, is_is_lt}
use Rattle.base.specs.ListLaws.{all_all}
use Rattle.rules.specs.Sheet.{Key, Fact, Entry, key_order, fact_order, find, holds, insert_key, insert_fact}
use Rattle.rules.specs.Merge.{Filed, file, refile, refact}
use Rattle.rules.specs.Sound.{rising, rising_from}

-- ---- what compares as equal is equal

pub key_eq : (a b : Key) → T (compare_is_eq (key_order a b)) → a ≡ b
key_eq a b t =
    let e = order_eq _ _ t in
    let p = head-eq_of_cons-eq e in
    let q = head-eq_of_cons-eq (tail-eq_of_cons-eq e) in
    let r = tail-eq_of_cons-eq (tail-eq_of_cons-eq e) in
    λ i. record { kind = p i; symbol = q i; args = r i }

pub fact_eq : (a b : Fact) → T (compare_is_eq (fact_order a b)) → a ≡ b
fact_eq a b t =
    let e = order_eq _ _ t in
    let p = head-eq_of_cons-eq e in
    let q = tail-eq_of_cons-eq e in
    λ i. record { relation = p i; args = q i }

-- ---- all entries

pub find_all {κ} : (P : Entry → Type κ) (k : Key) (xs : List Entry) (v : ℕ) → All P xs → find k xs ≡ some v → P (k, v)
unfolding find
find_all P k [] v a e = absurd (none-ne-some v e)
find_all P k (x ∷ xs) v a e =
    three_elim (λ o. o ≡ some v → P (k, v)) _ _ _ _
    (λ _ q. absurd (none-ne-some v q))
    (λ t q. let p = key_eq k x.0 t in let r = some-injective _ _ q in subst P (λ i. (sym p i, r i)) a.0)
    (λ _ q. find_all P k xs v a.1 q) e

pub holds_all {κ} : (P : Fact → Type κ) (f : Fact) (xs : List Fact) → All P xs → T (holds f xs) → P f
unfolding holds
holds_all P f [] a t = absurd t
holds_all P f (x ∷ xs) a t =
    three_elim (λ b. T b → P f) _ _ _ _ (λ _ q. absurd q) (λ s _. subst P (sym (fact_eq f x s)) a.0) (λ _ q. holds_all P f xs a.1 q) t

pub insert_key_all {κ} : (P : Entry → Type κ) (n : Entry) (xs : List Entry) → P n → All P xs → All P (insert_key n xs)
unfolding insert_key
insert_key_all P n [] p a = (p, tt)
insert_key_all P n (x ∷ xs) p a = three_elim (All P) _ _ _ _ (λ _. (p, a)) (λ _. (p, a.1)) (λ _. (a.0, insert_key_all P n xs p a.1))

pub insert_fact_all {κ} : (P : Fact → Type κ) (n : Fact) (xs : List Fact) → P n → All P xs → All P (insert_fact n xs)
unfolding insert_fact
insert_fact_all P n [] p a = (p, tt)
insert_fact_all P n (x ∷ xs) p a = three_elim (All P) _ _ _ _ (λ _. (p, a)) (λ _. (p, a.1)) (λ _. (a.0, insert_fact_all P n xs p a.1))

pub refile_all {κ} : (P : Entry → Type κ) (xs : List Entry) (r : Filed) → All P xs → All P r.0 → All P (refile xs r).0
unfolding refile file
refile_all P [] r a b = b
refile_all P (x ∷ xs) r a b = refile_all P xs (file x r) a.1 (insert_key_all P x r.0 a.0 b)

pub refact_all {κ} : (P : Fact → Type κ) (fs ds : List Fact) → All P fs → All P ds → All P (refact fs ds)
unfolding refact
refact_all P [] ds a b = b
refact_all P (f ∷ fs) ds a b = refact_all P fs (insert_fact f ds) a.1 (insert_fact_all P f ds a.0 b)

-- ---- rising: each entry is below all that follow

abbrev pub KeysRise : List Entry → Type 0
KeysRise [] = Unit
KeysRise (x ∷ xs) = All (λ (y : Entry). key_order x.0 y.0 ≡ Ordering.lt) xs × KeysRise xs

abbrev pub FactsRise : List Fact → Type 0
FactsRise [] = Unit
FactsRise (x ∷ xs) = All (λ (y : Fact). fact_order x y ≡ Ordering.lt) xs × FactsRise xs

pub insert_key_rises : (n : Entry) (xs : List Entry) → KeysRise xs → KeysRise (insert_key n xs)
unfolding insert_key
insert_key_rises n [] r = (tt, tt)
insert_key_rises n (x ∷ xs) r = three_elim KeysRise _ _ _ _
    (λ e. ((e, all_all (λ (y : Entry). key_order x.0 y.0 ≡ Ordering.lt) (λ (y : Entry). key_order n.0 y.0 ≡ Ordering.lt) (λ y p. order_trans _ _ _ e p) xs r.0), r))
    (λ t. (subst (λ k. All (λ (y : Entry). key_order k y.0 ≡ Ordering.lt) xs) (sym (key_eq n.0 x.0 t)) r.0, r.1))
    (λ e. (insert_key_all (λ (y : Entry). key_order x.0 y.0 ≡ Ordering.lt) n xs (order_flip _ _ e) r.0, insert_key_rises n xs r.1))

pub insert_fact_rises : (n : Fact) (xs : List Fact) → FactsRise xs → FactsRise (insert_fact n xs)
unfolding insert_fact
insert_fact_rises n [] r = (tt, tt)
insert_fact_rises n (x ∷ xs) r = three_elim FactsRise _ _ _ _
    (λ e. ((e, all_all (λ (y : Fact). fact_order x y ≡ Ordering.lt) (λ (y : Fact). fact_order n y ≡ Ordering.lt) (λ y p. order_trans _ _ _ e p) xs r.0), r))
    (λ t. (subst (λ k. All (λ (y : Fact). fact_order k y ≡ Ordering.lt) xs) (sym (fact_eq n x t)) r.0, r.1))
    (λ e. (insert_fact_all (λ (y : Fact). fact_order x y ≡ Ordering.lt) n xs (order_flip _ _ e) r.0, insert_fact_rises n xs r.1))

pub refile_rises : (xs : List Entry) (r : Filed) → KeysRise r.0 → KeysRise (refile xs r).0
unfolding refile file
refile_rises [] r a = a
refile_rises (x ∷ xs) r a = refile_rises xs (file x r) (insert_key_rises x r.0 a)

pub refact_rises : (fs ds : List Fact) → FactsRise ds → FactsRise (refact fs ds)
unfolding refact
refact_rises [] ds a = a
refact_rises (f ∷ fs) ds a = refact_rises fs (insert_fact f ds) (insert_fact_rises f ds a)

-- ---- the test for rising says just that

rising_keys_from : (x : Entry) (xs : List Entry) → T (rising_from (λ (a b : Entry). key_order a.0 b.0) x xs) → KeysRise (x ∷ xs)
unfolding rising_from
rising_keys_from x [] t = (tt, tt)
rising_keys_from x (y ∷ ys) t =
    let e = is_lt_is _ (and_l (is_lt (key_order x.0 y.0)) _ t) in
    let r = rising_keys_from y ys (and_r (is_lt (key_order x.0 y.0)) _ t) in
    ((e, all_all (λ (z : Entry). key_order y.0 z.0 ≡ Ordering.lt) (λ (z : Entry). key_order x.0 z.0 ≡ Ordering.lt) (λ z p. order_trans _ _ _ e p) ys r.0), r)

pub rising_keys : (xs : List Entry) → T (rising (λ (a b : Entry). key_order a.0 b.0) xs) → KeysRise xs
unfolding rising
rising_keys [] t = tt
rising_keys (x ∷ xs) t = rising_keys_from x xs t

keys_rising_from : (x : Entry) (xs : List Entry) → KeysRise (x ∷ xs) → T (rising_from (λ (a b : Entry). key_order a.0 b.0) x xs)
unfolding rising_from
keys_rising_from x [] r = tt
keys_rising_from x (y ∷ ys) r = and_i (is_lt (key_order x.0 y.0)) _ (is_is_lt _ r.0.0) (keys_rising_from y ys r.1)

pub keys_rising : (xs : List Entry) → KeysRise xs → T (rising (λ (a b : Entry). key_order a.0 b.0) xs)
unfolding rising
keys_rising [] r = tt
keys_rising (x ∷ xs) r = keys_rising_from x xs r

rising_facts_from : (x : Fact) (xs : List Fact) → T (rising_from fact_order x xs) → FactsRise (x ∷ xs)
unfolding rising_from
rising_facts_from x [] t = (tt, tt)
rising_facts_from x (y ∷ ys) t =
    let e = is_lt_is _ (and_l (is_lt (fact_order x y)) _ t) in
    let r = rising_facts_from y ys (and_r (is_lt (fact_order x y)) _ t) in
    ((e, all_all (λ (z : Fact). fact_order y z ≡ Ordering.lt) (λ (z : Fact). fact_order x z ≡ Ordering.lt) (λ z p. order_trans _ _ _ e p) ys r.0), r)

pub rising_facts : (xs : List Fact) → T (rising fact_order xs) → FactsRise xs
unfolding rising
rising_facts [] t = tt
rising_facts (x ∷ xs) t = rising_facts_from x xs t

facts_rising_from : (x : Fact) (xs : List Fact) → FactsRise (x ∷ xs) → T (rising_from fact_order x xs)
unfolding rising_from
facts_rising_from x [] r = tt
facts_rising_from x (y ∷ ys) r = and_i (is_lt (fact_order x y)) _ (is_is_lt _ r.0.0) (facts_rising_from y ys r.1)

pub facts_rising : (xs : List Fact) → FactsRise xs → T (rising fact_order xs)
unfolding rising
facts_rising [] r = tt
facts_rising (x ∷ xs) r = facts_rising_from x xs r
