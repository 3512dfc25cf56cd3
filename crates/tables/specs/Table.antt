-- A table of packed entries in the order of their keys: the place of a key, its value, an entry put in. As the document has
-- them for keys (`find`, `insert_key`), with numbers compared for keys.
use Rattle.std.specs.Prelude.{◌≡◌, List, [], ◌∷◌, ◌++◌, Bool, true, false, length, get_or, take, drop}
use Rattle.std.proofs.Math.Path.{refl, ap}
use Rattle.std.proofs.Common.{sym, subst, arith}
use Rattle.std.proofs.Math.Decide.{dec_lt}
use Prim.Native.Nat.{ℕ, zero, suc, ◌≤◌, ◌<◌, compare}
use Rattle.std.proofs.Math.Option.{Option, none, some, none-ne-some, some-injective}
use Rattle.std.specs.Prelude as std
use Rattle.std.specs.Prelude.{Some, None}
use Rattle.std.specs.Coded.{×_prop, Unit-prop, le_prop}
use Rattle.base.specs.Branch.{three, case_o}
use Rattle.base.specs.Lists.{All}
use Rattle.base.specs.ListLaws.{all_all, all_get_d}
use Rattle.packing.specs.Compare.{ways, three_ways, three_gt}
use Rattle.packing.specs.Replace.{key_of, value_of}

-- How many entries stand before the first whose key is not below q.
unfoldable pub rank : ℕ → List ℕ → ℕ
rank q [] = 0
rank q (x ∷ xs) = three (compare q (key_of x)) (λ _. 0) (λ _. 0) (λ _. suc (rank q xs))

-- The value of key q.
unfoldable pub look_in : ℕ → List ℕ → Option ℕ
look_in q [] = none
look_in q (x ∷ xs) = three (compare q (key_of x)) (λ _. none) (λ _. some (value_of x)) (λ _. look_in q xs)

-- An entry into its place; one with its key gives way.
unfoldable pub put_in : ℕ → List ℕ → List ℕ
put_in e [] = e ∷ []
put_in e (x ∷ xs) = three (compare (key_of e) (key_of x)) (λ _. e ∷ x ∷ xs) (λ _. e ∷ xs) (λ _. x ∷ put_in e xs)

-- Each key is below all that follow.
unfoldable pub Rising : List ℕ → Type 0
Rising [] = Unit
Rising (x ∷ xs) = All (λ y. key_of x < key_of y) xs × Rising xs

all_prop : (P : ℕ → Type 0) → ((x : ℕ) → IsProp (P x)) → (xs : List ℕ) → IsProp (All P xs)
all_prop P p [] = Unit-prop
all_prop P p (x ∷ xs) = ×_prop (p x) (all_prop P p xs)

pub rising_prop : (xs : List ℕ) → IsProp (Rising xs)
unfolding Rising
rising_prop [] = Unit-prop
rising_prop (x ∷ xs) = ×_prop (all_prop (λ y. key_of x < key_of y) (λ y. le_prop) xs) (rising_prop xs)

-- An option of the definitions as code has it.
abbrev pub option_of : {A : Type 0} → Option A → std.Option A
option_of none = None
option_of (some v) = Some v

-- The number of a value, which is below 256, or 256 for none.
unfoldable pub or_none : Option ℕ → ℕ
or_none none = 256
or_none (some v) = v

unfoldable pub is_some : Option ℕ → Bool
is_some o = case_o o (λ _. false) (λ _. true)

-- ---- the place of a key

pub rank_le : (q : ℕ) (xs : List ℕ) → rank q xs ≤ length xs
unfolding rank
rank_le q [] = omega arith
rank_le q (x ∷ xs) = three_ways (λ r. r ≤ suc (length xs)) q (key_of x) _ _ _ (λ _. omega arith) (λ _. omega arith) (λ _. omega (arith, rank_le q xs))

-- An entry tells on which side the place is.
pub rank_above : (q : ℕ) (xs : List ℕ) → Rising xs → (m : ℕ) → m < length xs → key_of (get_or xs m 0) < q → m < rank q xs
unfolding rank Rising
rank_above q [] r m l h = absurd (omega arith)
rank_above q (x ∷ xs) r zero l h = rw (three_gt q (key_of x) (λ _. 0) (λ _. 0) (λ _. suc (rank q xs)) h) (omega arith)
rank_above q (x ∷ xs) r (suc m) l h =
    let b : key_of x < key_of (get_or xs m 0) = all_get_d (λ y. key_of x < key_of y) xs m 0 (omega arith) r.0 in
    let g : key_of x < q = omega arith in
    rw (three_gt q (key_of x) (λ _. 0) (λ _. 0) (λ _. suc (rank q xs)) g) (omega (arith, rank_above q xs r.1 m (omega arith) h))

pub rank_below : (q : ℕ) (xs : List ℕ) (m : ℕ) → m < length xs → q ≤ key_of (get_or xs m 0) → rank q xs ≤ m
unfolding rank
rank_below q [] m l h = omega arith
rank_below q (x ∷ xs) zero l h = three_ways (λ r. r ≤ 0) q (key_of x) _ _ _ (λ _. omega arith) (λ _. omega arith) (λ g. absurd (lt_le g h))
  where
    lt_le : {a b : ℕ} → a < b → b ≤ a → ⊥
    lt_le {a} {b} p q = omega arith
rank_below q (x ∷ xs) (suc m) l h =
    three_ways (λ r. r ≤ suc m) q (key_of x) _ _ _ (λ _. omega arith) (λ _. omega arith) (λ _. omega (arith, rank_below q xs m (omega arith) h))

-- In a table that rises, the key of an entry is below those of all that follow.
pub rising_below : (q : ℕ) (xs : List ℕ) → Rising xs → (d i j : ℕ) → i ≤ j → j < length xs → key_of (get_or xs j d) < q → key_of (get_or xs i d) < q
unfolding Rising
rising_below q [] r d i j h l k = absurd (omega arith)
rising_below q (x ∷ xs) r d zero zero h l k = k
rising_below q (x ∷ xs) r d zero (suc j) h l k =
    let b : key_of x < key_of (get_or xs j d) = all_get_d (λ y. key_of x < key_of y) xs j d (omega arith) r.0 in
    omega arith
rising_below q (x ∷ xs) r d (suc i) zero h l k = absurd (omega arith)
rising_below q (x ∷ xs) r d (suc i) (suc j) h l k = rising_below q xs r.1 d i j (omega arith) (omega arith) k

-- The place that has the keys below q before it and the others behind it.
pub rank_point : (q : ℕ) (xs : List ℕ) → Rising xs → (r : ℕ) → r ≤ length xs → ((i : ℕ) → i < r → key_of (get_or xs i 0) < q)
    → ((i : ℕ) → r ≤ i → i < length xs → q ≤ key_of (get_or xs i 0)) → r ≡ rank q xs
rank_point q xs rise r fits low high = go (r_le r fits low) le_r
  where
    r_le : (r : ℕ) → r ≤ length xs → ((i : ℕ) → i < r → key_of (get_or xs i 0) < q) → r ≤ rank q xs
    r_le zero f l = omega arith
    r_le (suc m) f l = rank_above q xs rise m (omega arith) (l m (omega arith))

    le_r : rank q xs ≤ r
    le_r = elim (dec_lt r (length xs)) [ yes h ↦ rank_below q xs r h (high r (omega arith) h) | no h ↦ omega (arith, rank_le q xs) ]

    go : r ≤ rank q xs → rank q xs ≤ r → r ≡ rank q xs
    go a b = omega arith

-- ---- looking, by the place

-- Steps of arithmetic that the cases below share.
none_there : {r : ℕ} → r < 0 → ⊥
none_there {r} p = omega arith

apart : {a b : ℕ} → a < b → b ≡ a → ⊥
apart {a} {b} p e = omega arith

next : {a b : ℕ} → suc a < suc b → a < b
next {a} {b} p = omega arith

further : {a b : ℕ} → a < b → suc a < suc b
further {a} {b} p = omega arith

-- The entry at the place of q has that key.
abbrev pub Here : ℕ → List ℕ → ℕ → Type 0
Here q xs r = (r < length xs) × (key_of (get_or xs r 0) ≡ q)

abbrev Looked : ℕ → List ℕ → ℕ → Option ℕ → Type 0
Looked q xs r o = (Here q xs r → o ≡ some (value_of (get_or xs r 0))) × ((Here q xs r → ⊥) → o ≡ none)

looked : (q : ℕ) (xs : List ℕ) → Looked q xs (rank q xs) (look_in q xs)
unfolding rank look_in three
looked q [] = (λ h. absurd (none_there h.0), λ _. refl)
looked q (x ∷ xs) =
    ways (λ o. Looked q (x ∷ xs) (three o (λ _. 0) (λ _. 0) (λ _. suc (rank q xs))) (three o (λ _. none) (λ _. some (value_of x)) (λ _. look_in q xs))) q (key_of x)
    (λ g. (λ h. absurd (apart g h.1), λ _. refl))
    (λ g. (λ _. refl, λ n. absurd (n (omega arith, sym g))))
    (λ g. let r = looked q xs in (λ h. r.0 (next h.0, h.1), λ n. r.1 (λ h. n (further h.0, h.1))))

pub look_here : (q : ℕ) (xs : List ℕ) → Here q xs (rank q xs) → look_in q xs ≡ some (value_of (get_or xs (rank q xs) 0))
look_here q xs h = (looked q xs).0 h

pub look_none : (q : ℕ) (xs : List ℕ) → (Here q xs (rank q xs) → ⊥) → look_in q xs ≡ none
look_none q xs n = (looked q xs).1 n

-- ---- putting in, by the place

abbrev pub insert_at : ℕ → ℕ → List ℕ → List ℕ
insert_at r e xs = take r xs ++ e ∷ drop r xs

abbrev pub over : ℕ → ℕ → List ℕ → List ℕ
over r e xs = take r xs ++ e ∷ drop (suc r) xs

abbrev PutBy : ℕ → List ℕ → ℕ → List ℕ → Type 0
PutBy e xs r ys = (Here (key_of e) xs r → ys ≡ over r e xs) × ((Here (key_of e) xs r → ⊥) → ys ≡ insert_at r e xs)

put_by : (e : ℕ) (xs : List ℕ) → PutBy e xs (rank (key_of e) xs) (put_in e xs)
unfolding rank put_in three
put_by e [] = (λ h. absurd (none_there h.0), λ _. refl)
put_by e (x ∷ xs) =
    ways (λ o. PutBy e (x ∷ xs) (three o (λ _. 0) (λ _. 0) (λ _. suc (rank (key_of e) xs))) (three o (λ _. e ∷ x ∷ xs) (λ _. e ∷ xs) (λ _. x ∷ put_in e xs))) (key_of e) (key_of x)
    (λ g. (λ h. absurd (apart g h.1), λ _. refl))
    (λ g. (λ _. refl, λ n. absurd (n (omega arith, sym g))))
    (λ g. let r = put_by e xs in (λ h. ap (λ (l : List ℕ). x ∷ l) (r.0 (next h.0, h.1)), λ n. ap (λ (l : List ℕ). x ∷ l) (r.1 (λ h. n (further h.0, h.1)))))

pub put_over : (e : ℕ) (xs : List ℕ) → Here (key_of e) xs (rank (key_of e) xs) → put_in e xs ≡ over (rank (key_of e) xs) e xs
put_over e xs h = (put_by e xs).0 h

pub put_new : (e : ℕ) (xs : List ℕ) → (Here (key_of e) xs (rank (key_of e) xs) → ⊥) → put_in e xs ≡ insert_at (rank (key_of e) xs) e xs
put_new e xs n = (put_by e xs).1 n

-- ---- what putting in keeps

pub put_all {κ} : (P : ℕ → Type κ) (e : ℕ) (xs : List ℕ) → P e → All P xs → All P (put_in e xs)
unfolding put_in
put_all P e [] p a = (p, tt)
put_all P e (x ∷ xs) p a = three_ways (All P) (key_of e) (key_of x) _ _ _ (λ _. (p, a)) (λ _. (p, a.1)) (λ _. (a.0, put_all P e xs p a.1))

pub put_rises : (e : ℕ) (xs : List ℕ) → Rising xs → Rising (put_in e xs)
unfolding put_in Rising
put_rises e [] r = (tt, tt)
put_rises e (x ∷ xs) r = three_ways Rising (key_of e) (key_of x) _ _ _
    (λ g. ((g, all_all (λ y. key_of x < key_of y) (λ y. key_of e < key_of y) (λ y p. omega arith) xs r.0), r))
    (λ g. (subst (λ k. All (λ y. k < key_of y) xs) (sym g) r.0, r.1))
    (λ g. (put_all (λ y. key_of x < key_of y) e xs g r.0, put_rises e xs r.1))

-- ---- what a look's answer says

pub look_octet : (q : ℕ) (xs : List ℕ) (v : ℕ) → look_in q xs ≡ some v → v < 256
unfolding look_in
look_octet q [] v = λ e. absurd (none-ne-some v e)
look_octet q (x ∷ xs) v = three_ways (λ (o : Option ℕ). o ≡ some v → v < 256) q (key_of x) _ _ _
    (λ _ e. absurd (none-ne-some v e)) (λ _ e. subst (λ w. w < 256) (some-injective _ _ e) (omega arith)) (λ _ e. look_octet q xs v e)

module _ (q : ℕ) (xs : List ℕ) (r : ℕ) (e : r ≡ or_none (look_in q xs)) where
  pub look_some : r < 256 → look_in q xs ≡ some r
  unfolding or_none
  look_some h = go (look_in q xs) e
    where
      go : (o : Option ℕ) → r ≡ or_none o → o ≡ some r
      go none i = absurd (omega arith)
      go (some v) i = ap some (sym i)

  pub look_missing : 256 ≤ r → look_in q xs ≡ none
  unfolding or_none
  look_missing h = go (look_in q xs) e (look_octet q xs)
    where
      go : (o : Option ℕ) → r ≡ or_none o → ((v : ℕ) → o ≡ some v → v < 256) → o ≡ none
      go none i f = refl
      go (some v) i f = let l = f v refl in absurd (omega arith)

-- A key that has a value takes no more room.
pub put_known : (x : ℕ) (xs : List ℕ) (v : ℕ) → look_in (key_of x) xs ≡ some v → length (put_in x xs) ≡ length xs
unfolding look_in put_in three
put_known x [] v = λ e. absurd (none-ne-some v e)
put_known x (y ∷ ys) v = ways
    (λ o. three o (λ _. none) (λ _. some (value_of y)) (λ _. look_in (key_of x) ys) ≡ some v → length (three o (λ _. x ∷ y ∷ ys) (λ _. x ∷ ys) (λ _. y ∷ put_in x ys)) ≡ suc (length ys)) (key_of x) (key_of y)
    (λ _ e. absurd (none-ne-some v e)) (λ _ _. refl) (λ _ e. ap suc (put_known x ys v e))
