-- Laws of lists: carrying a statement about all or some entries through maps, joins and parts; membership; tests as statements.
use Rattle.std.specs.Prelude.{◌≡◌, refl, ℕ, zero, suc, ◌<◌, Bool, true, false, not, ◌||◌, ◌⊎◌, List, [], ◌∷◌, ◌++◌, map, length, get_or, take, drop, set}
use Rattle.std.proofs.Common.{sym, ap, ap₂, ◌∙◌, subst, arith, inl, inr, length-append}
use Rattle.std.proofs.Math.Option.{none, some, none-ne-some, some-ne-none, some-injective}
use lib.Dec.{T, eqb, eqb→eq, eqb_refl}
use Rattle.base.specs.Branch.{if}
use Rattle.base.specs.Lists.{All, Some, all, any, mem, without, firsts, first_of, flat, equal, entries}
use Rattle.base.specs.BranchLaws.{if_elim, and_l, and_r, and_i, or_is}

-- ---- maps

pub map_map {ℓ κ ν} : {A : Type ℓ} {B : Type κ} {C : Type ν} (g : B → C) (f : A → B) (xs : List A) → map g (map f xs) ≡ map (λ x. g (f x)) xs
map_map g f [] = refl
map_map g f (x ∷ xs) = ap {B = List _} (λ r. g (f x) ∷ r) (map_map g f xs)

pub map_append {ℓ κ} : {A : Type ℓ} {B : Type κ} (f : A → B) (xs ys : List A) → map f (xs ++ ys) ≡ map f xs ++ map f ys
map_append f [] ys = refl
map_append f (x ∷ xs) ys = ap {B = List _} (λ r. f x ∷ r) (map_append f xs ys)

-- Two functions that agree on the entries.
pub map_agree {ℓ κ ν} : {A : Type ℓ} {B : Type κ} (P : A → Type ν) (f g : A → B) → ((x : A) → P x → f x ≡ g x) → (xs : List A) → All P xs → map f xs ≡ map g xs
map_agree P f g e [] a = refl
map_agree P f g e (x ∷ xs) a = ap₂ (λ y ys. y ∷ ys) (e x a.0) (map_agree P f g e xs a.1)

-- ---- all entries

pub all_all {ℓ κ ν} : {A : Type ℓ} (P : A → Type κ) (Q : A → Type ν) → ((x : A) → P x → Q x) → (xs : List A) → All P xs → All Q xs
all_all P Q f [] a = tt
all_all P Q f (x ∷ xs) a = (f x a.0, all_all P Q f xs a.1)

pub all_both {ℓ κ ν μ} : {A : Type ℓ} (P : A → Type κ) (Q : A → Type ν) (R : A → Type μ) → ((x : A) → P x → Q x → R x) → (xs : List A) → All P xs → All Q xs → All R xs
all_both P Q R f [] a b = tt
all_both P Q R f (x ∷ xs) a b = (f x a.0 b.0, all_both P Q R f xs a.1 b.1)

pub all_any {ℓ κ} : {A : Type ℓ} (P : A → Type κ) → ((x : A) → P x) → (xs : List A) → All P xs
all_any P f [] = tt
all_any P f (x ∷ xs) = (f x, all_any P f xs)

pub all_map {ℓ κ ν μ} : {A : Type ℓ} {B : Type κ} (P : A → Type ν) (Q : B → Type μ) (f : A → B) → ((x : A) → P x → Q (f x)) → (xs : List A) → All P xs → All Q (map f xs)
all_map P Q f g [] a = tt
all_map P Q f g (x ∷ xs) a = (g x a.0, all_map P Q f g xs a.1)

pub all_unmap {ℓ κ ν} : {A : Type ℓ} {B : Type κ} (Q : B → Type ν) (f : A → B) (xs : List A) → All Q (map f xs) → All (λ x. Q (f x)) xs
all_unmap Q f [] a = tt
all_unmap Q f (x ∷ xs) a = (a.0, all_unmap Q f xs a.1)

pub all_append {ℓ κ} : {A : Type ℓ} (P : A → Type κ) (xs ys : List A) → All P xs → All P ys → All P (xs ++ ys)
all_append P [] ys a b = b
all_append P (x ∷ xs) ys a b = (a.0, all_append P xs ys a.1 b)

pub all_left {ℓ κ} : {A : Type ℓ} (P : A → Type κ) (xs ys : List A) → All P (xs ++ ys) → All P xs
all_left P [] ys a = tt
all_left P (x ∷ xs) ys a = (a.0, all_left P xs ys a.1)

pub all_right {ℓ κ} : {A : Type ℓ} (P : A → Type κ) (xs ys : List A) → All P (xs ++ ys) → All P ys
all_right P [] ys a = a
all_right P (x ∷ xs) ys a = all_right P xs ys a.1

pub all_take {ℓ κ} : {A : Type ℓ} (P : A → Type κ) (i : ℕ) (xs : List A) → All P xs → All P (take i xs)
all_take P zero xs a = tt
all_take P (suc i) [] a = tt
all_take P (suc i) (x ∷ xs) a = (a.0, all_take P i xs a.1)

pub all_drop {ℓ κ} : {A : Type ℓ} (P : A → Type κ) (i : ℕ) (xs : List A) → All P xs → All P (drop i xs)
all_drop P zero xs a = a
all_drop P (suc i) [] a = tt
all_drop P (suc i) (x ∷ xs) a = all_drop P i xs a.1

pub all_parts {ℓ κ} : {A : Type ℓ} (P : A → Type κ) (i : ℕ) (xs : List A) → All P (take i xs) → All P (drop i xs) → All P xs
all_parts P zero xs a b = b
all_parts P (suc i) [] a b = tt
all_parts P (suc i) (x ∷ xs) a b = (a.0, all_parts P i xs a.1 b)

pub all_flat {ℓ κ} : {A : Type ℓ} (P : A → Type κ) (ls : List (List A)) → All (All P) ls → All P (flat ls)
unfolding flat
all_flat P [] a = tt
all_flat P (l ∷ ls) a = all_append P l (flat ls) a.0 (all_flat P ls a.1)

pub all_unflat {ℓ κ} : {A : Type ℓ} (P : A → Type κ) (ls : List (List A)) → All P (flat ls) → All (All P) ls
unfolding flat
all_unflat P [] a = tt
all_unflat P (l ∷ ls) a = (all_left P l (flat ls) a, all_unflat P ls (all_right P l (flat ls) a))

-- An entry at a place within the list, and at any place if the default has it too.
pub all_get_d {ℓ κ} : {A : Type ℓ} (P : A → Type κ) (xs : List A) (i : ℕ) (d : A) → i < length xs → All P xs → P (get_or xs i d)
all_get_d P [] i d l a = absurd (omega arith)
all_get_d P (x ∷ xs) zero d l a = a.0
all_get_d P (x ∷ xs) (suc i) d l a = all_get_d P xs i d (omega arith) a.1

pub all_get_d_or {ℓ κ} : {A : Type ℓ} (P : A → Type κ) (xs : List A) (i : ℕ) (d : A) → All P xs → P d → P (get_or xs i d)
all_get_d_or P [] i d a p = p
all_get_d_or P (x ∷ xs) zero d a p = a.0
all_get_d_or P (x ∷ xs) (suc i) d a p = all_get_d_or P xs i d a.1 p

pub all_set {ℓ κ} : {A : Type ℓ} (P : A → Type κ) (xs : List A) (i : ℕ) (y : A) → All P xs → P y → All P (set xs i y)
all_set P [] i y a p = tt
all_set P (x ∷ xs) zero y a p = (p, a.1)
all_set P (x ∷ xs) (suc i) y a p = (a.0, all_set P xs i y a.1 p)

-- ---- some entry

pub some_some {ℓ κ ν} : {A : Type ℓ} (P : A → Type κ) (Q : A → Type ν) → ((x : A) → P x → Q x) → (xs : List A) → Some P xs → Some Q xs
some_some P Q f [] s = absurd s.lower
some_some P Q f (x ∷ xs) (inl p) = inl (f x p)
some_some P Q f (x ∷ xs) (inr s) = inr (some_some P Q f xs s)

-- Some entry has P, and all have Q.
pub some_all {ℓ κ ν} : {A : Type ℓ} (P : A → Type κ) (Q : A → Type ν) (xs : List A) → Some P xs → All Q xs → Some (λ x. P x × Q x) xs
some_all P Q [] s a = absurd s.lower
some_all P Q (x ∷ xs) (inl p) a = inl (p, a.0)
some_all P Q (x ∷ xs) (inr s) a = inr (some_all P Q xs s a.1)

-- What follows from any one entry.
pub some_elim {ℓ κ ν} : {A : Type ℓ} (P : A → Type κ) (C : Type ν) → ((x : A) → P x → C) → (xs : List A) → Some P xs → C
some_elim P C f [] s = absurd s.lower
some_elim P C f (x ∷ xs) (inl p) = f x p
some_elim P C f (x ∷ xs) (inr s) = some_elim P C f xs s

pub some_map {ℓ κ ν μ} : {A : Type ℓ} {B : Type κ} (P : A → Type ν) (Q : B → Type μ) (f : A → B) → ((x : A) → P x → Q (f x)) → (xs : List A) → Some P xs → Some Q (map f xs)
some_map P Q f g [] s = absurd s.lower
some_map P Q f g (x ∷ xs) (inl p) = inl (g x p)
some_map P Q f g (x ∷ xs) (inr s) = inr (some_map P Q f g xs s)

-- The thing is an entry of the list.
abbrev pub In {ℓ} : {A : Type ℓ} → A → List A → Type ℓ
In x xs = Some (λ y. y ≡ x) xs

pub in_some {ℓ κ} : {A : Type ℓ} (P : A → Type κ) (x : A) (xs : List A) → In x xs → P x → Some P xs
in_some P x xs i p = some_some (λ y. y ≡ x) P (λ y e. subst P (sym e) p) xs i

pub all_in {ℓ} : {A : Type ℓ} (xs : List A) → All (λ x. In x xs) xs
all_in [] = tt
all_in (x ∷ xs) = (inl refl, all_all (λ y. In y xs) (λ y. In y (x ∷ xs)) (λ y i. inr i) xs (all_in xs))

-- ---- tests

pub all_of {ℓ} : {A : Type ℓ} (p : A → Bool) (xs : List A) → T (all p xs) → All (λ x. T (p x)) xs
all_of p [] t = tt
all_of p (x ∷ xs) t = (and_l (p x) (all p xs) t, all_of p xs (and_r (p x) (all p xs) t))

pub of_all {ℓ} : {A : Type ℓ} (p : A → Bool) (xs : List A) → All (λ x. T (p x)) xs → T (all p xs)
of_all p [] a = tt
of_all p (x ∷ xs) a = and_i (p x) (all p xs) a.0 (of_all p xs a.1)

pub any_some {ℓ} : {A : Type ℓ} (p : A → Bool) (xs : List A) → T (any p xs) → Some (λ x. T (p x)) xs
any_some p [] t = absurd t
any_some p (x ∷ xs) t = go (or_is (p x) (any p xs) t) (λ u. any_some p xs u)
  where
    go : T (p x) ⊎ T (any p xs) → (T (any p xs) → Some (λ x. T (p x)) xs) → T (p x) ⊎ Some (λ x. T (p x)) xs
    go (inl u) f = inl u
    go (inr u) f = inr (f u)

pub some_any {ℓ} : {A : Type ℓ} (p : A → Bool) (xs : List A) → Some (λ x. T (p x)) xs → T (any p xs)
some_any p [] s = absurd s.lower
some_any p (x ∷ xs) (inl t) = yes_l (p x) t
  where
    yes_l : (b : Bool) → T b → T (b || any p xs)
    yes_l true t = tt
    yes_l false t = absurd t
some_any p (x ∷ xs) (inr s) = yes_r (p x) (some_any p xs s)
  where
    yes_r : (b : Bool) → T (any p xs) → T (b || any p xs)
    yes_r true t = tt
    yes_r false t = t

-- ---- membership

pub mem_in : (e : ℕ) (xs : List ℕ) → T (mem e xs) → In e xs
unfolding mem
mem_in e xs t = some_some (λ x. T (eqb e x)) (λ x. x ≡ e) (λ x q. sym (eqb→eq e x q)) xs (any_some (eqb e) xs t)

pub in_mem : (e : ℕ) (xs : List ℕ) → In e xs → T (mem e xs)
unfolding mem
in_mem e xs i = some_any (eqb e) xs (some_some (λ x. x ≡ e) (λ x. T (eqb e x)) (λ x q. subst (λ z. T (eqb e z)) (sym q) (eqb_refl e)) xs i)

pub all_mem {κ} : (P : ℕ → Type κ) (d : List ℕ) → All P d → (e : ℕ) → T (mem e d) → P e
all_mem P d a e t = some_elim (λ x. (x ≡ e) × P x) (P e) (λ x q. subst P q.0 q.1) d (some_all (λ x. x ≡ e) P d (mem_in e d t) a)

pub without_all {κ} : (P : ℕ → Type κ) (e : ℕ) (xs : List ℕ) → All P xs → All P (without e xs)
unfolding without
without_all P e [] a = tt
without_all P e (x ∷ xs) a = if_elim (All P) _ _ _ (λ _. without_all P e xs a.1) (λ _. (a.0, without_all P e xs a.1))

pub firsts_all {κ} : (P : ℕ → Type κ) (xs : List ℕ) → All P xs → All P (firsts xs)
unfolding firsts
firsts_all P [] a = tt
firsts_all P (x ∷ xs) a = (a.0, without_all P x (firsts xs) (firsts_all P xs a.1))

without_some : (Q : ℕ → Type 0) (e : ℕ) (xs : List ℕ) → Some Q xs → Q e ⊎ Some Q (without e xs)
unfolding without
without_some Q e [] s = absurd s.lower
without_some Q e (x ∷ xs) (inl q) = if_elim (λ (l : List ℕ). Q e ⊎ Some Q l) _ _ _ (λ t. inl (subst Q (sym (eqb→eq e x t)) q)) (λ _. inr (inl q))
without_some Q e (x ∷ xs) (inr s) = go (without_some Q e xs s)
  where
    go : Q e ⊎ Some Q (without e xs) → Q e ⊎ Some Q (if (eqb e x) (λ _. without e xs) (λ _. x ∷ without e xs))
    go (inl q) = inl q
    go (inr u) = if_elim (λ (l : List ℕ). Q e ⊎ Some Q l) _ _ _ (λ _. inr u) (λ _. inr (inr u))

-- First appearances lose no number.
pub firsts_some : (Q : ℕ → Type 0) (xs : List ℕ) → Some Q xs → Some Q (firsts xs)
unfolding firsts
firsts_some Q [] s = s
firsts_some Q (x ∷ xs) (inl q) = inl q
firsts_some Q (x ∷ xs) (inr s) = go (without_some Q x (firsts xs) (firsts_some Q xs s))
  where
    go : Q x ⊎ Some Q (without x (firsts xs)) → Q x ⊎ Some Q (without x (firsts xs))
    go u = u

-- ---- the first entry that passes

pub first_is {ℓ κ} : {A : Type ℓ} (P : A → Type κ) (p : A → Bool) (xs : List A) → All P xs → (x : A) → first_of p xs ≡ some x → P x × T (p x)
unfolding first_of
first_is P p [] a x e = absurd (none-ne-some x e)
first_is P p (y ∷ ys) a x e =
    if_elim (λ o. o ≡ some x → P x × T (p x)) _ _ _
    (λ t q. let r = some-injective _ _ q in (subst P r a.0, subst (λ z. T (p z)) r t))
    (λ _ q. first_is P p ys a.1 x q) e

pub first_none {ℓ} : {A : Type ℓ} (p : A → Bool) (xs : List A) → first_of p xs ≡ none → All (λ x. T (not (p x))) xs
unfolding first_of
first_none p [] e = tt
first_none p (y ∷ ys) e =
    if_elim (λ o. o ≡ none → All (λ x. T (not (p x))) (y ∷ ys)) _ _ _
    (λ t q. absurd (some-ne-none y q)) (λ t q. (t, first_none p ys q)) e

-- ---- equal lists

pub equal_eq : (xs ys : List ℕ) → T (equal xs ys) → xs ≡ ys
unfolding equal
equal_eq [] [] t = refl
equal_eq [] (y ∷ ys) t = absurd t
equal_eq (x ∷ xs) [] t = absurd t
equal_eq (x ∷ xs) (y ∷ ys) t =
    if_elim (λ b. T b → x ∷ xs ≡ y ∷ ys) _ _ _ (λ p q. ap₂ (λ (a : ℕ) (b : List ℕ). a ∷ b) (eqb→eq x y p) (equal_eq xs ys q)) (λ _ q. absurd q) t

pub equal_self : (xs : List ℕ) → T (equal xs xs)
unfolding equal
equal_self [] = tt
equal_self (x ∷ xs) = if_elim T _ _ _ (λ _. equal_self xs) (λ t. absurd (lib.Dec.T_not (eqb x x) t (eqb_refl x)))

-- ---- entries at some places

pub entries_length {ℓ} : {A : Type ℓ} (c : List A) (is : List ℕ) → All (λ i. i < length c) is → length (entries c is) ≡ length is
unfolding entries
entries_length c [] a = refl
entries_length {A = A} c (i ∷ is) a =
    length-append (take 1 (drop i c)) (entries c is) ∙ (let p = one c i a.0 in let q = entries_length c is a.1 in omega arith)
  where
    one : (c : List A) (i : ℕ) → i < length c → length (take 1 (drop i c)) ≡ 1
    one [] i l = absurd (omega arith)
    one (x ∷ c) zero l = refl
    one (x ∷ c) (suc i) l = one c i (omega arith)

pub entries_all {ℓ κ} : {A : Type ℓ} (P : A → Type κ) (c : List A) (is : List ℕ) → All P c → All P (entries c is)
unfolding entries
entries_all P c [] a = tt
entries_all P c (i ∷ is) a = all_append P (take 1 (drop i c)) (entries c is) (all_take P 1 (drop i c) (all_drop P i c a)) (entries_all P c is a)
