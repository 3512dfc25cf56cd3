-- Numbers in order, equal ones beside one another. Which number is put in first does not matter.
use Rattle.std.specs.Prelude.{◌≡◌, refl, List, [], ◌∷◌, ◌++◌, map, length}
use Rattle.std.proofs.Common.{sym, ap, ap₂, ◌∙◌, arith}
use Prim.Native.Nat.{ℕ, suc, ◌≤◌, ◌<◌, compare}
use Rattle.std.proofs.Math.Decide.{dec_le}
use Rattle.base.specs.Branch.{three}
use Rattle.base.specs.Lists.{All}
use Rattle.base.specs.ListLaws.{all_all, all_append}
use Rattle.packing.specs.Compare.{three_ways}

-- Behind all that are not above it.
unfoldable pub insert_in : ℕ → List ℕ → List ℕ
insert_in x [] = x ∷ []
insert_in x (y ∷ ys) = three (compare x y) (λ _. x ∷ y ∷ ys) (λ _. y ∷ insert_in x ys) (λ _. y ∷ insert_in x ys)

unfoldable pub order_in : List ℕ → List ℕ
order_in [] = []
order_in (x ∷ xs) = insert_in x (order_in xs)

-- None is above a later one.
unfoldable pub Sorted : List ℕ → Type 0
Sorted [] = Unit
Sorted (x ∷ xs) = All (λ y. x ≤ y) xs × Sorted xs

-- ---- one more

insert_before : (x y : ℕ) (ys : List ℕ) → x < y → insert_in x (y ∷ ys) ≡ x ∷ y ∷ ys
unfolding insert_in
insert_before x y ys h = three_ways (λ (l : List ℕ). l ≡ x ∷ y ∷ ys) x y _ _ _ (λ _. refl) (λ e. absurd (omega arith)) (λ g. absurd (omega arith))

insert_past : (x y : ℕ) (ys : List ℕ) → y ≤ x → insert_in x (y ∷ ys) ≡ y ∷ insert_in x ys
unfolding insert_in
insert_past x y ys h = three_ways (λ (l : List ℕ). l ≡ y ∷ insert_in x ys) x y _ _ _ (λ g. absurd (omega arith)) (λ _. refl) (λ _. refl)

-- Before the first, or behind it.
pub insert_cases {κ} : (P : List ℕ → Type κ) (x y : ℕ) (ys : List ℕ) → (x < y → P (x ∷ y ∷ ys)) → (y ≤ x → P (y ∷ insert_in x ys)) → P (insert_in x (y ∷ ys))
unfolding insert_in
insert_cases P x y ys f g = three_ways P x y _ _ _ f (λ e. g (omega arith)) (λ h. g (omega arith))

-- Of two numbers the one goes in first or the other.
insert_two : (a b : ℕ) (t : List ℕ) → a ≤ b → insert_in a (insert_in b t) ≡ insert_in b (insert_in a t)
unfolding insert_in
insert_two a b [] h = insert_cases (λ (l : List ℕ). l ≡ insert_in b (a ∷ [])) a b [] (λ _. sym (insert_past b a [] h))
    (λ g. let e : a ≡ b = omega arith in ap₂ (λ (u v : ℕ). u ∷ v ∷ []) (sym e) e ∙ sym (insert_past b a [] h))
insert_two a b (y ∷ t) h = insert_cases (λ (l : List ℕ). insert_in a l ≡ insert_in b (insert_in a (y ∷ t))) b y t
    (λ g. low (omega arith) (insert_cases (λ (l : List ℕ). l ≡ a ∷ b ∷ y ∷ t) a b (y ∷ t) (λ _. refl)
    (λ q. let e : a ≡ b = omega arith in ap (λ (l : List ℕ). b ∷ l) (insert_before a y t (omega arith)) ∙ ap₂ (λ (u v : ℕ). u ∷ v ∷ y ∷ t) (sym e) e)
    ∙ sym (ap (λ (l : List ℕ). a ∷ l) (insert_before b y t g))))
    (λ g. elim (dec_le y a) [
      | yes p ↦ insert_past a y (insert_in b t) p ∙ ap (λ (l : List ℕ). y ∷ l) (insert_two a b t h) ∙ sym (insert_past b y (insert_in a t) g)
          ∙ sym (ap (insert_in b) (insert_past a y t p))
      | no p ↦ low (omega arith) (insert_before a y (insert_in b t) (omega arith) ∙ ap (λ (l : List ℕ). a ∷ l) (sym (insert_past b y t g)))
    ])
  where
    low : {l : List ℕ} → a < y → l ≡ a ∷ insert_in b (y ∷ t) → l ≡ insert_in b (insert_in a (y ∷ t))
    low q e = e ∙ sym (insert_past b a (y ∷ t) h) ∙ sym (ap (insert_in b) (insert_before a y t q))

either_first : (a b : ℕ) (t : List ℕ) → insert_in a (insert_in b t) ≡ insert_in b (insert_in a t)
either_first a b t = elim (dec_le a b) [ yes h ↦ insert_two a b t h | no h ↦ sym (insert_two b a t (omega arith)) ]

-- ---- all of them

pub insert_all {κ} : (P : ℕ → Type κ) (x : ℕ) (ys : List ℕ) → P x → All P ys → All P (insert_in x ys)
unfolding insert_in
insert_all P x [] p a = (p, tt)
insert_all P x (y ∷ ys) p a = insert_cases (All P) x y ys (λ _. (p, a)) (λ _. (a.0, insert_all P x ys p a.1))

pub order_all {κ} : (P : ℕ → Type κ) (xs : List ℕ) → All P xs → All P (order_in xs)
unfolding order_in
order_all P [] a = tt
order_all P (x ∷ xs) a = insert_all P x (order_in xs) a.0 (order_all P xs a.1)

insert_sorts : (x : ℕ) (ys : List ℕ) → Sorted ys → Sorted (insert_in x ys)
unfolding insert_in Sorted
insert_sorts x [] s = (tt, tt)
insert_sorts x (y ∷ ys) s = insert_cases Sorted x y ys
    (λ h. ((omega arith, all_all (λ z. y ≤ z) (λ z. x ≤ z) (λ z q. omega arith) ys s.0), s))
    (λ h. (insert_all (λ z. y ≤ z) x ys h s.0, insert_sorts x ys s.1))

pub order_sorts : (xs : List ℕ) → Sorted (order_in xs)
unfolding order_in Sorted
order_sorts [] = tt
order_sorts (x ∷ xs) = insert_sorts x (order_in xs) (order_sorts xs)

insert_length : (x : ℕ) (ys : List ℕ) → length (insert_in x ys) ≡ suc (length ys)
unfolding insert_in
insert_length x [] = refl
insert_length x (y ∷ ys) = insert_cases (λ (l : List ℕ). length l ≡ suc (suc (length ys))) x y ys (λ _. refl) (λ _. ap suc (insert_length x ys))

pub order_length : (xs : List ℕ) → length (order_in xs) ≡ length xs
unfolding order_in
order_length [] = refl
order_length (x ∷ xs) = insert_length x (order_in xs) ∙ ap suc (order_length xs)

-- What is in order stays so.
insert_first : (x : ℕ) (ys : List ℕ) → All (λ y. x ≤ y) ys → insert_in x ys ≡ x ∷ ys
unfolding insert_in
insert_first x [] a = refl
insert_first x (y ∷ ys) a = insert_cases (λ (l : List ℕ). l ≡ x ∷ y ∷ ys) x y ys (λ _. refl)
    (λ h. let e : x ≡ y = omega (arith, a.0) in ap (λ (l : List ℕ). y ∷ l) (insert_first x ys a.1) ∙ ap₂ (λ (u v : ℕ). u ∷ v ∷ ys) (sym e) e)

pub order_same : (xs : List ℕ) → Sorted xs → order_in xs ≡ xs
unfolding order_in Sorted
order_same [] s = refl
order_same (x ∷ xs) s = ap (insert_in x) (order_same xs s.1) ∙ insert_first x xs s.0

-- A number from the middle, put in last.
pub order_middle : (xs : List ℕ) (u : ℕ) (ys : List ℕ) → order_in (xs ++ u ∷ ys) ≡ insert_in u (order_in (xs ++ ys))
unfolding order_in
order_middle [] u ys = refl
order_middle (x ∷ xs) u ys = ap (insert_in x) (order_middle xs u ys) ∙ either_first x u (order_in (xs ++ ys))

insert_last : (u : ℕ) (ys : List ℕ) → All (λ y. y ≤ u) ys → insert_in u ys ≡ ys ++ (u ∷ [])
unfolding insert_in
insert_last u [] a = refl
insert_last u (y ∷ ys) a = insert_past u y ys a.0 ∙ ap (λ (l : List ℕ). y ∷ l) (insert_last u ys a.1)

-- The greatest is the last.
pub order_greatest : (xs : List ℕ) (u : ℕ) (ys : List ℕ) → All (λ y. y ≤ u) xs → All (λ y. y ≤ u) ys → order_in (xs ++ u ∷ ys) ≡ order_in (xs ++ ys) ++ (u ∷ [])
order_greatest xs u ys a b =
    order_middle xs u ys ∙ insert_last u (order_in (xs ++ ys)) (order_all (λ y. y ≤ u) (xs ++ ys) (all_append (λ y. y ≤ u) xs ys a b))

-- Putting in order before a function is applied changes nothing of the order afterwards.
insert_through : (f : ℕ → ℕ) (x : ℕ) (ys : List ℕ) → order_in (map f (insert_in x ys)) ≡ insert_in (f x) (order_in (map f ys))
unfolding insert_in order_in
insert_through f x [] = refl
insert_through f x (y ∷ ys) = insert_cases (λ (l : List ℕ). order_in (map f l) ≡ insert_in (f x) (order_in (map f (y ∷ ys)))) x y ys (λ _. refl)
    (λ _. ap (insert_in (f y)) (insert_through f x ys) ∙ either_first (f y) (f x) (order_in (map f ys)))

pub order_through : (f : ℕ → ℕ) (xs : List ℕ) → order_in (map f (order_in xs)) ≡ order_in (map f xs)
unfolding order_in
order_through f [] = refl
order_through f (x ∷ xs) = insert_through f x (order_in xs) ∙ ap (insert_in (f x)) (order_through f xs)
