-- How often a number stands in a list. With counts, that lists name a slot once, and that a list was rearranged, is arithmetic.
use Rattle.std.specs.Prelude.{◌≡◌, refl, ℕ, zero, suc, ◌+◌, ◌≤◌, ◌<◌, Bool, not, ◌⊎◌, length, eqb}
use Rattle.std.proofs.Common.{sym, subst, arith, inl, inr, T_not, eqb→eq}
use Rattle.std.proofs.Math.Nat.{le_refl}
use mathlib.Core.List.{List, [], ◌∷◌, ◌++◌}
use Rattle.std.proofs.Math.Dec.{T, not_T}
use Rattle.base.specs.Branch.{if}
use Rattle.base.specs.Lists.{All, Some, mem, distinct, keep, from}
use Rattle.base.specs.BranchLaws.{if_elim, and_l, and_r, and_i, neqb→ne, decided}
use Rattle.base.specs.ListLaws.{In, mem_in, in_mem}
use Rattle.rules.specs.Pool.{Scheduler, fifo, lifo}
use Rattle.rules.specs.Step.{pushed, schedule}

unfoldable pub hit : ℕ → ℕ → ℕ
hit j x = if (eqb x j) (λ _. 1) (λ _. 0)

unfoldable pub cnt : ℕ → List ℕ → ℕ
cnt j [] = 0
cnt j (x ∷ xs) = hit j x + cnt j xs

-- A number hits itself and no other.
pub hit_elim : (P : ℕ → Type 0) (j x : ℕ) → (x ≡ j → P 1) → ((x ≡ j → ⊥) → P 0) → P (hit j x)
unfolding hit
hit_elim P j x f g = if_elim P _ _ _ (λ t. f (eqb→eq x j t)) (λ t. g (neqb→ne x j t))

pub hit_self : (j : ℕ) → hit j j ≡ 1
hit_self j = hit_elim (λ n. n ≡ 1) j j (λ _. refl) (λ f. absurd (f refl))

pub hit_other : (j x : ℕ) → (x ≡ j → ⊥) → hit j x ≡ 0
hit_other j x f = hit_elim (λ n. n ≡ 0) j x (λ e. absurd (f e)) (λ _. refl)

pub hit_is : (j x : ℕ) → 1 ≤ hit j x → x ≡ j
hit_is j x = hit_elim (λ n. 1 ≤ n → x ≡ j) j x (λ e _. e) (λ _ l. absurd (omega arith))

pub cnt_append : (j : ℕ) (xs ys : List ℕ) → cnt j (xs ++ ys) ≡ cnt j xs + cnt j ys
unfolding cnt
cnt_append j [] ys = omega arith
cnt_append j (x ∷ xs) ys = let r = cnt_append j xs ys in omega arith

cnt_pushed : (j : ℕ) (xs ws : List ℕ) → cnt j (pushed xs ws) ≡ cnt j xs + cnt j ws
unfolding cnt pushed
cnt_pushed j [] ws = omega arith
cnt_pushed j (x ∷ xs) ws = let r = cnt_pushed j xs (x ∷ ws) in omega arith

pub cnt_schedule : (j : ℕ) (sc : Scheduler) (xs ws : List ℕ) → cnt j (schedule sc xs ws) ≡ cnt j xs + cnt j ws
unfolding schedule
cnt_schedule j fifo xs ws = let r = cnt_append j ws xs in omega arith
cnt_schedule j lifo xs ws = cnt_pushed j xs ws

-- ---- membership and counting

pub cnt_in : (j : ℕ) (xs : List ℕ) → 1 ≤ cnt j xs → In j xs
unfolding cnt
cnt_in j [] l = absurd (omega arith)
cnt_in j (x ∷ xs) l = hit_elim (λ n. 1 ≤ n + cnt j xs → In j (x ∷ xs)) j x (λ e _. inl e) (λ _ q. inr (cnt_in j xs (omega arith))) l

pub in_cnt : (j : ℕ) (xs : List ℕ) → In j xs → 1 ≤ cnt j xs
unfolding cnt
in_cnt j [] i = absurd i.lower
in_cnt j (x ∷ xs) (inl e) = let h = subst (λ z. hit j z ≡ 1) (sym e) (hit_self j) in omega arith
in_cnt j (x ∷ xs) (inr i) = let r = in_cnt j xs i in omega arith

pub mem_cnt : (j : ℕ) (xs : List ℕ) → T (mem j xs) → 1 ≤ cnt j xs
mem_cnt j xs t = in_cnt j xs (mem_in j xs t)

pub cnt_mem : (j : ℕ) (xs : List ℕ) → 1 ≤ cnt j xs → T (mem j xs)
cnt_mem j xs l = in_mem j xs (cnt_in j xs l)

pub not_mem_cnt : (j : ℕ) (xs : List ℕ) → T (not (mem j xs)) → cnt j xs ≡ 0
not_mem_cnt j xs t = go (cnt j xs) refl
  where
    go : (n : ℕ) → cnt j xs ≡ n → cnt j xs ≡ 0
    go zero e = e
    go (suc n) e = absurd (T_not (mem j xs) t (cnt_mem j xs (omega arith)))

pub cnt_not_mem : (j : ℕ) (xs : List ℕ) → cnt j xs ≡ 0 → T (not (mem j xs))
cnt_not_mem j xs e = not_T (mem j xs) (λ t. let l = mem_cnt j xs t in omega arith)

-- All that are counted, as a statement about the list and back.
pub all_cnt : (P : ℕ → Type 0) (xs : List ℕ) → All P xs → (j : ℕ) → 1 ≤ cnt j xs → P j
unfolding cnt
all_cnt P [] a j l = absurd (omega arith)
all_cnt P (x ∷ xs) a j l = hit_elim (λ n. 1 ≤ n + cnt j xs → P j) j x (λ e _. subst P e a.0) (λ _ q. all_cnt P xs a.1 j (omega arith)) l

pub cnt_all : (P : ℕ → Type 0) (xs : List ℕ) → ((j : ℕ) → 1 ≤ cnt j xs → P j) → All P xs
unfolding cnt
cnt_all P [] f = tt
cnt_all P (x ∷ xs) f = (f x (let h = hit_self x in omega arith), cnt_all P xs (λ j l. f j (omega arith)))

-- No number twice.
pub distinct_cnt : (xs : List ℕ) → T (distinct xs) → (j : ℕ) → cnt j xs ≤ 1
unfolding distinct cnt
distinct_cnt [] t j = omega arith
distinct_cnt (x ∷ xs) t j =
    let z = not_mem_cnt x xs (and_l (not (mem x xs)) (distinct xs) t) in
    let r = distinct_cnt xs (and_r (not (mem x xs)) (distinct xs) t) j in
    hit_elim (λ n. n + cnt j xs ≤ 1) j x (λ e. let q = subst (λ y. cnt y xs ≡ 0) e z in omega arith) (λ _. omega arith)

pub cnt_distinct : (xs : List ℕ) → ((j : ℕ) → cnt j xs ≤ 1) → T (distinct xs)
unfolding distinct cnt
cnt_distinct [] f = tt
cnt_distinct (x ∷ xs) f =
    and_i (not (mem x xs)) (distinct xs) (cnt_not_mem x xs (let h = hit_self x in let g = f x in omega arith)) (cnt_distinct xs (λ j. let g = f j in omega arith))

-- ---- numbers in a row, and those of them that pass a test

pub from_all : (P : ℕ → Type 0) (a n : ℕ) → ((j : ℕ) → a ≤ j → j < a + n → P j) → All P (from a n)
unfolding from
from_all P a zero f = tt
from_all P a (suc n) f = (f a (le_refl a) (omega arith), from_all P (suc a) n (λ j l m. f j (omega arith) (omega arith)))

pub all_from : (P : ℕ → Type 0) (a n : ℕ) → All P (from a n) → (j : ℕ) → a ≤ j → j < a + n → P j
unfolding from
all_from P a zero g j l m = absurd (omega arith)
all_from P a (suc n) g j l m = go (decided (eqb a j)) (λ u v. all_from P (suc a) n g.1 j u v)
  where
    go : T (eqb a j) ⊎ T (not (eqb a j)) → (suc a ≤ j → j < suc a + n → P j) → P j
    go (inl t) f = subst P (eqb→eq a j t) g.0
    go (inr t) f = let d = neqb→ne a j t in f (omega arith) (omega arith)

pub from_low : (j a n : ℕ) → j < a → cnt j (from a n) ≡ 0
unfolding from cnt
from_low j a zero l = refl
from_low j a (suc n) l = let r = from_low j (suc a) n (omega arith) in let h = hit_other j a (λ e. omega arith) in omega arith

pub from_once : (j a n : ℕ) → cnt j (from a n) ≤ 1
unfolding from cnt
from_once j a zero = omega arith
from_once j a (suc n) =
    hit_elim (λ h. h + cnt j (from (suc a) n) ≤ 1) j a (λ e. let z = from_low j (suc a) n (omega arith) in omega arith) (λ _. let r = from_once j (suc a) n in omega arith)

pub from_has : (j a n : ℕ) → a ≤ j → j < a + n → 1 ≤ cnt j (from a n)
from_has j a n l m = all_from (λ i. 1 ≤ cnt i (from a n)) a n (cnt_all (λ i. 1 ≤ cnt i (from a n)) (from a n) (λ i k. k)) j l m

module _ (p : ℕ → Bool) where
  pub keep_le : (j : ℕ) (xs : List ℕ) → cnt j (keep p xs) ≤ cnt j xs
  unfolding keep cnt
  keep_le j [] = le_refl 0
  keep_le j (x ∷ xs) = let r = keep_le j xs in if_elim (λ (l : List ℕ). cnt j l ≤ hit j x + cnt j xs) _ _ _ (λ _. omega arith) (λ _. omega arith)

  pub keep_all : (xs : List ℕ) → All (λ x. T (p x)) (keep p xs)
  unfolding keep
  keep_all [] = tt
  keep_all (x ∷ xs) = if_elim (All (λ y. T (p y))) _ _ _ (λ t. (t, keep_all xs)) (λ _. keep_all xs)

-- A weaker test keeps no fewer; and more, where it keeps one that the other does not.
pub keep_longer : (p q : ℕ → Bool) (xs : List ℕ) → All (λ x. T (p x) → T (q x)) xs → length (keep p xs) ≤ length (keep q xs)
unfolding keep
keep_longer p q [] a = le_refl 0
keep_longer p q (x ∷ xs) a =
    let r = keep_longer p q xs a.1 in
    if_elim (λ (l : List ℕ). length l ≤ length (keep q (x ∷ xs))) _ _ _
    (λ t. if_elim (λ (l : List ℕ). suc (length (keep p xs)) ≤ length l) _ _ _ (λ _. omega arith) (λ u. absurd (T_not (q x) u (a.0 t))))
    (λ _. if_elim (λ (l : List ℕ). length (keep p xs) ≤ length l) _ _ _ (λ _. omega arith) (λ _. r))

pub keep_more : (p q : ℕ → Bool) (xs : List ℕ) → All (λ x. T (p x) → T (q x)) xs → Some (λ x. T (not (p x)) × T (q x)) xs → suc (length (keep p xs)) ≤ length (keep q xs)
unfolding keep
keep_more p q [] a s = absurd s.lower
keep_more p q (x ∷ xs) a (inl s) =
    let r = keep_longer p q xs a.1 in
    if_elim (λ (l : List ℕ). suc (length l) ≤ length (keep q (x ∷ xs))) _ _ _
    (λ t. absurd (T_not (p x) s.0 t))
    (λ _. if_elim (λ (l : List ℕ). suc (length (keep p xs)) ≤ length l) _ _ _ (λ _. omega arith) (λ u. absurd (T_not (q x) u s.1)))
keep_more p q (x ∷ xs) a (inr s) =
    let r = keep_more p q xs a.1 s in
    if_elim (λ (l : List ℕ). suc (length l) ≤ length (keep q (x ∷ xs))) _ _ _
    (λ t. if_elim (λ (l : List ℕ). suc (suc (length (keep p xs))) ≤ length l) _ _ _ (λ _. omega arith) (λ u. absurd (T_not (q x) u (a.0 t))))
    (λ _. if_elim (λ (l : List ℕ). suc (length (keep p xs)) ≤ length l) _ _ _ (λ _. omega arith) (λ _. r))
