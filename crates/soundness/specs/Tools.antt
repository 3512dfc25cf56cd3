-- General laws that the proofs of this crate need: of lists of numbers, of tables that get one entry more, and of the elements that
-- keys and facts are over and that keys yield.
use Rattle.std.specs.Prelude.{◌≡◌, refl, ◌⊎◌, ◌≢◌, List, [], ◌∷◌, ◌++◌, length, get_or, set, T}
use Rattle.std.proofs.Common.{sym, ap, subst, le_refl, arith, inl, inr}
use Prim.Native.Nat.{ℕ, zero, suc, ◌+◌, ◌≤◌, ◌<◌, Ordering}
use Rattle.std.proofs.Math.Decide.{ℕ_discrete}
use Rattle.std.proofs.Math.Option.{Option, none, some, none-ne-some}
use Rattle.std.proofs.Math.Dec.{compare_is_eq}
use Rattle.base.specs.Branch.{three}
use Rattle.base.specs.Lists.{All, Some, from}
use Rattle.base.specs.BranchLaws.{three_elim, order_self, order_trans, order_flip}
use Rattle.base.specs.ListLaws.{all_all, all_both, some_all, some_elim, some_some, some_map, firsts_some, firsts_all, all_mem, all_map, all_in, in_mem, In}
use Rattle.rules.specs.Sheet.{Key, Fact, Entry, Model, key_order, find, insert_key, insert_fact, domain, known}
use Rattle.laws.specs.Tables.{key_eq, KeysRise}

-- ---- lists of numbers

-- A smaller number at one place: no entry rises.
pub set_below : (ds : List ℕ) (v n : ℕ) → n ≤ get_or ds v 0 → (e : ℕ) → get_or (set ds v n) e 0 ≤ get_or ds e 0
set_below [] v n l e = le_refl 0
set_below (x ∷ xs) zero n l zero = l
set_below (x ∷ xs) zero n l (suc e) = le_refl _
set_below (x ∷ xs) (suc v) n l zero = le_refl _
set_below (x ∷ xs) (suc v) n l (suc e) = set_below xs v n l e

-- Only a place within the list holds more than the default.
pub within : (ds : List ℕ) (v : ℕ) → 0 < get_or ds v 0 → v < length ds
within [] v p = omega arith
within (x ∷ xs) zero p = omega arith
within (x ∷ xs) (suc v) p = let q = within xs v p in omega arith

-- A number behind a list: the other places hold what they held.
pub append_other : (ds : List ℕ) (d e : ℕ) → e ≢ length ds → get_or (ds ++ (d ∷ [])) e 0 ≡ get_or ds e 0
append_other [] d zero n = absurd (n refl)
append_other [] d (suc e) n = refl
append_other (x ∷ xs) d zero n = refl
append_other (x ∷ xs) d (suc e) n = append_other xs d e (λ p. n (ap suc p))

-- ---- entries of lists

pub all_pair {ℓ κ ν} : {A : Type ℓ} (P : A → Type κ) (Q : A → Type ν) (xs : List A) → All P xs → All Q xs → All (λ x. P x × Q x) xs
all_pair P Q xs a b = all_both P Q (λ x. P x × Q x) (λ x p q. (p, q)) xs a b

-- What follows from an entry with P where all have Q.
pub some_meets {ℓ κ ν μ} : {A : Type ℓ} (P : A → Type κ) (Q : A → Type ν) (C : Type μ) → ((x : A) → P x → Q x → C) → (xs : List A) → Some P xs → All Q xs → C
some_meets P Q C f xs s a = some_elim (λ x. P x × Q x) C (λ x q. f x q.0 q.1) xs (some_all P Q xs s a)

pub in_has {ℓ κ} : {A : Type ℓ} (P : A → Type κ) (x : A) (xs : List A) → In x xs → All P xs → P x
in_has P x xs i a = some_meets (λ y. y ≡ x) P (P x) (λ y e p. subst P e p) xs i a

-- Where no entry has P, each that has P has anything.
pub none_have {ℓ κ ν} : {A : Type ℓ} (P : A → Type κ) (Q : A → Type ν) (xs : List A) → (Some P xs → ⊥) → All (λ x. P x → Q x) xs
none_have P Q [] n = tt
none_have P Q (x ∷ xs) n = (λ p. absurd (n (inl p)), none_have P Q xs (λ s. n (inr s)))

pub from_has {κ} : (P : ℕ → Type κ) (a n : ℕ) → All P (from a n) → (e : ℕ) → a ≤ e → e < a + n → P e
unfolding from
from_has P a zero l e p q = absurd (omega arith)
from_has P a (suc n) l e p q = elim (ℕ_discrete a e) [ yes z ↦ subst P z l.0 | no z ↦ from_has P (suc a) n l.1 e (omega arith) (omega arith) ]

-- ---- a table and one entry more

pub insert_key_new {κ} : (Q : Entry → Type κ) (x : Entry) (ys : List Entry) → Q x → Some Q (insert_key x ys)
unfolding insert_key
insert_key_new Q x [] q = inl q
insert_key_new Q x (y ∷ ys) q = three_elim (Some Q) _ _ _ _ (λ _. inl q) (λ _. inl q) (λ _. inr (insert_key_new Q x ys q))

-- What some entry has, some entry has afterwards, if the new entry has it where the one that it replaces has.
pub insert_key_old {κ} : (Q : Entry → Type κ) (x : Entry) (ys : List Entry) → ((v : ℕ) → find x.0 ys ≡ some v → Q (x.0, v) → Q x)
    → Some Q ys → Some Q (insert_key x ys)
unfolding insert_key find three
insert_key_old Q x [] f s = absurd s.lower
insert_key_old Q x (y ∷ ys) f s = go (key_order x.0 y.0) (key_eq x.0 y.0) f (λ g u. insert_key_old Q x ys g u) s
  where
    go : (o : Ordering) → (T (compare_is_eq o) → x.0 ≡ y.0)
        → ((v : ℕ) → three o (λ _. none) (λ _. some y.1) (λ _. find x.0 ys) ≡ some v → Q (x.0, v) → Q x)
        → (((v : ℕ) → find x.0 ys ≡ some v → Q (x.0, v) → Q x) → Some Q ys → Some Q (insert_key x ys))
        → Q y ⊎ Some Q ys → Some Q (three o (λ _. x ∷ y ∷ ys) (λ _. x ∷ ys) (λ _. y ∷ insert_key x ys))
    go Ordering.lt e g r u = inr u
    go Ordering.eq e g r (inl q) = inl (g y.1 refl (subst (λ k. Q (k, y.1)) (sym (e tt)) q))
    go Ordering.eq e g r (inr u) = inr u
    go Ordering.gt e g r (inl q) = inl q
    go Ordering.gt e g r (inr u) = inr (r g u)

-- A new key makes the table longer by one, a key that is there does not.
abbrev Longer : List Entry → Option ℕ → List Entry → Type 0
Longer ys o zs = (o ≡ none → length zs ≡ suc (length ys)) × ((v : ℕ) → o ≡ some v → length zs ≡ length ys)

pub insert_key_length : (x : Entry) (ys : List Entry) → Longer ys (find x.0 ys) (insert_key x ys)
unfolding insert_key find three
insert_key_length x [] = (λ _. refl, λ v e. absurd (none-ne-some v e))
insert_key_length x (y ∷ ys) = go (key_order x.0 y.0) (insert_key_length x ys)
  where
    go : (o : Ordering) → Longer ys (find x.0 ys) (insert_key x ys)
        → Longer (y ∷ ys) (three o (λ _. none) (λ _. some y.1) (λ _. find x.0 ys)) (three o (λ _. x ∷ y ∷ ys) (λ _. x ∷ ys) (λ _. y ∷ insert_key x ys))
    go Ordering.lt r = (λ _. refl, λ v e. absurd (none-ne-some v e))
    go Ordering.eq r = (λ e. absurd (none-ne-some _ (sym e)), λ v e. refl)
    go Ordering.gt r = (λ e. ap suc (r.0 e), λ v e. ap suc (r.1 v e))

pub insert_key_short : (n : Entry) (xs : List Entry) → length (insert_key n xs) ≤ suc (length xs)
unfolding insert_key
insert_key_short n [] = le_refl 1
insert_key_short n (x ∷ xs) =
    three_elim (λ (r : List Entry). length r ≤ suc (length (x ∷ xs))) _ _ _ _ (λ _. le_refl _) (λ _. omega arith) (λ _. let q = insert_key_short n xs in omega arith)

pub insert_fact_short : (n : Fact) (xs : List Fact) → length (insert_fact n xs) ≤ suc (length xs)
unfolding insert_fact
insert_fact_short n [] = le_refl 1
insert_fact_short n (x ∷ xs) =
    three_elim (λ (r : List Fact). length r ≤ suc (length (x ∷ xs))) _ _ _ _ (λ _. le_refl _) (λ _. omega arith) (λ _. let q = insert_fact_short n xs in omega arith)

no_self : (k : Key) → key_order k k ≡ Ordering.lt → ⊥
no_self k e = subst (λ o. T (compare_is_eq o)) e (order_self _)

-- What stands in a rising table is found.
pub find_in : (ks : List Entry) → KeysRise ks → (x : Entry) → In x ks → find x.0 ks ≡ some x.1
unfolding find
find_in [] r x i = absurd i.lower
find_in (y ∷ ks) r x (inl p) = three_elim (λ o. o ≡ some x.1) _ _ _ _
    (λ e. absurd (no_self x.0 (subst (λ (z : Entry). key_order x.0 z.0 ≡ Ordering.lt) p e)))
    (λ _. ap (λ (z : Entry). some z.1) p)
    (λ e. absurd (no_self x.0 (subst (λ (z : Entry). key_order z.0 x.0 ≡ Ordering.lt) p (order_flip _ _ e))))
find_in (y ∷ ks) r x (inr i) =
    let l = in_has (λ (z : Entry). key_order y.0 z.0 ≡ Ordering.lt) x ks i r.0 in
    three_elim (λ o. o ≡ some x.1) _ _ _ _
    (λ e. absurd (no_self x.0 (order_trans _ _ _ e l)))
    (λ t. absurd (no_self x.0 (subst (λ k. key_order k x.0 ≡ Ordering.lt) (sym (key_eq x.0 y.0 t)) l)))
    (λ _. find_in ks r.1 x i)

-- ---- elements of keys and facts

-- What a key or a fact is over, and what a key yields, has P.
abbrev pub KeyOver : (ℕ → Type 0) → Entry → Type 0
KeyOver P x = All P x.0.args

abbrev pub FactOver : (ℕ → Type 0) → Fact → Type 0
FactOver P f = All P f.args

abbrev pub Yields : (ℕ → Type 0) → Entry → Type 0
Yields P x = P x.1

pub keys_over : (P Q : ℕ → Type 0) → ((e : ℕ) → P e → Q e) → (ks : List Entry) → All (KeyOver P) ks → All (KeyOver Q) ks
keys_over P Q f ks a = all_all (KeyOver P) (KeyOver Q) (λ x b. all_all P Q f x.0.args b) ks a

pub facts_over : (P Q : ℕ → Type 0) → ((e : ℕ) → P e → Q e) → (fs : List Fact) → All (FactOver P) fs → All (FactOver Q) fs
facts_over P Q f fs a = all_all (FactOver P) (FactOver Q) (λ x b. all_all P Q f x.args b) fs a

-- Some key yields the element.
abbrev pub Yielded : List Entry → ℕ → Type 0
Yielded ks e = Some (λ (x : Entry). x.1 ≡ e) ks

pub all_yielded : (ks : List Entry) → All (Yields (Yielded ks)) ks
all_yielded ks = all_all (λ x. In x ks) (Yields (Yielded ks)) (λ x i. some_some (λ y. y ≡ x) (λ (y : Entry). y.1 ≡ x.1) (λ y e. ap (λ (z : Entry). z.1) e) ks i) ks (all_in ks)

-- It has what all values have.
pub yielded_has : (P : ℕ → Type 0) (ks : List Entry) → All (Yields P) ks → (e : ℕ) → Yielded ks e → P e
yielded_has P ks a e y = some_meets (λ (x : Entry). x.1 ≡ e) (Yields P) (P e) (λ x q p. subst P q p) ks y a

pub known_yielded : (m : Model) (e : ℕ) → T (known m e) → Yielded m.keys e
unfolding known domain
known_yielded m e t =
    all_mem (Yielded m.keys) (domain m)
    (firsts_all (Yielded m.keys) _ (all_map (Yields (Yielded m.keys)) (Yielded m.keys) (λ (x : Entry). x.1) (λ x y. y) m.keys (all_yielded m.keys))) e t

pub yielded_known : (m : Model) (e : ℕ) → Yielded m.keys e → T (known m e)
unfolding known domain
yielded_known m e y =
    in_mem e (domain m) (firsts_some (λ z. z ≡ e) _ (some_map (λ (x : Entry). x.1 ≡ e) (λ z. z ≡ e) (λ (x : Entry). x.1) (λ x p. p) m.keys y))
