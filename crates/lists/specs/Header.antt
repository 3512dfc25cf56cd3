-- What a header says: its lists, its next number, and which slots no list names.
use Rattle.std.specs.Prelude.{◌≡◌, refl, ℕ, zero, suc, ◌-◌, ◌≤◌, ◌<◌, min, Bool, true, false, not, ◌||◌, List, [], ◌∷◌, ◌++◌, get_or, take, drop, T, eqb, Option, None, Some, MatchOption}
use Rattle.std.proofs.Common.{sym, ◌∙◌, subst, arith, take-take, take_all, length-take}
use Rattle.std.proofs.Math.Path.{ap}
use Rattle.std.proofs.Math.Decide.{dec_le}
use Rattle.std.specs.List.{list_any}
use Rattle.base.specs.Branch.{if}
use Rattle.base.specs.Lists.{mem, keep, from}
use Rattle.rules.specs.Reading.{Bytes}
use Rattle.rules.specs.Sheet.{Limits}
use Rattle.rules.specs.Pool.{used}
use Rattle.rules.specs.Image.{part, list_in, pool_in, most_slots}
use Rattle.poolparts.specs.Tests.{next_of}

-- ---- the lists

unfoldable pub in_use : Bytes → List ℕ
in_use p = list_in 16 (get_or p 12 0) p ++ (list_in 80 (get_or p 13 0) p ++ list_in 144 (get_or p 14 0) p)

pub used_in : (lim : Limits) (p : Bytes) → in_use p ≡ used (pool_in lim p)
unfolding in_use used pool_in
used_in lim p = refl

pub next_in_lem : (lim : Limits) (p : Bytes) → next_of p ≡ (pool_in lim p).next
unfolding next_of pool_in
next_in_lem lim p = refl

-- A number is one of a list.
pub any_mem : (i : ℕ) (xs : List ℕ) → list_any (eqb i) xs ≡ mem i xs
unfolding mem
any_mem i [] = refl
any_mem i (x ∷ xs) = ap (λ b. eqb i x || b) (any_mem i xs)

-- A list is the front of its room.
pub list_front : (at n : ℕ) (p : Bytes) → take (min n 64) (drop at p) ≡ list_in at n p
unfolding list_in part most_slots
list_front at n p = elim (dec_le n 64) [
  | yes l ↦ (let e : min n 64 ≡ n = omega arith in ap (λ k. take k (drop at p)) e ∙ sym (take-take n 64 (drop at p) l))
  | no l ↦ (let e : min n 64 ≡ 64 = omega arith in ap (λ k. take k (drop at p)) e ∙ sym (take_all n (take 64 (drop at p)) (omega (arith, length-take 64 (drop at p)))))
]

-- ---- the slots that no list names

abbrev pub unnamed : Bytes → ℕ → Bool
unnamed p i = not (mem i (in_use p))

-- The slots below r are named, and r is not, if it is one of n.
pub record LowestFree (p : Bytes) (n r : ℕ) : Type 0 where
  pub rest : keep (unnamed p) (from 0 n) ≡ keep (unnamed p) (from r (n - r))
  pub here : r < n → T (unnamed p r)

abbrev pub FreeFrom : Bytes → ℕ → ℕ → Type 0
FreeFrom p n i = keep (unnamed p) (from 0 n) ≡ keep (unnamed p) (from i (n - i))

from_more : (i n : ℕ) → i < n → from i (n - i) ≡ i ∷ from (suc i) (n - suc i)
unfolding from
from_more i n h = let e : n - i ≡ suc (n - suc i) = omega arith in ap (from i) e

keep_yes : (q : ℕ → Bool) (i : ℕ) (xs : List ℕ) → T (q i) → keep q (i ∷ xs) ≡ i ∷ keep q xs
unfolding keep if
keep_yes q i xs t = go (q i) t
  where
    go : (b : Bool) → T b → if b (λ _. i ∷ keep q xs) (λ _. keep q xs) ≡ i ∷ keep q xs
    go true t = refl
    go false t = absurd t

keep_no : (q : ℕ → Bool) (i : ℕ) (xs : List ℕ) → q i ≡ false → keep q (i ∷ xs) ≡ keep q xs
unfolding keep if
keep_no q i xs e = ap (λ b. if b (λ _. i ∷ keep q xs) (λ _. keep q xs)) e

-- The first of n slots that no list names is the lowest that is free.
module _ (p : Bytes) (n : ℕ) where
  abbrev pub NamedBelow : ℕ → Type 0
  NamedBelow r = (i : ℕ) → 0 ≤ i → i < r → true ≡ mem i (in_use p)

  pub named_on : (i : ℕ) → FreeFrom p n i → i < n → true ≡ mem i (in_use p) → FreeFrom p n (suc i)
  named_on i f h e = f ∙ ap (keep (unnamed p)) (from_more i n h) ∙ keep_no (unnamed p) i _ (ap not (sym e))

  free_from : (r : ℕ) → r ≤ n → NamedBelow r → FreeFrom p n r
  free_from zero l f = let e : n ≡ n - 0 = omega arith in ap (λ k. keep (unnamed p) (from 0 k)) e
  free_from (suc r) l f = named_on r (free_from r (omega arith) (λ i k h. f i k (omega arith))) (omega arith) (f r (omega arith) (omega arith))

  pub lowest_found : (r : Option ℕ) → MatchOption r (NamedBelow n) (λ i. (0 ≤ i) × (i < n) × (false ≡ mem i (in_use p)) × NamedBelow i)
      → MatchOption r (LowestFree p n n) (λ i. (i < n) × LowestFree p n i)
  lowest_found None f = record { rest = free_from n (omega arith) f; here = λ z. absurd (omega arith) }
  lowest_found (Some i) f = (f.1, record { rest = free_from i (omega (arith, f.1)) f.3; here = λ _. subst (λ b. T (not b)) f.2 tt })

-- So it is the first that is free.
pub lowest_first : (p : Bytes) (n r : ℕ) → LowestFree p n r → r < n → keep (unnamed p) (from 0 n) ≡ r ∷ keep (unnamed p) (from (suc r) (n - suc r))
lowest_first p n r l h = l.rest ∙ ap (keep (unnamed p)) (from_more r n h) ∙ keep_yes (unnamed p) r _ (l.here h)

pub lowest_gone : (p : Bytes) (n r : ℕ) → LowestFree p n r → n ≤ r → r ≤ n → keep (unnamed p) (from 0 n) ≡ []
unfolding keep from
lowest_gone p n r l h k = let e : n - r ≡ 0 = omega arith in l.rest ∙ ap (λ z. keep (unnamed p) (from r z)) e

-- ---- a slot in one of three lists

pub mem_append : (i : ℕ) (xs ys : List ℕ) → mem i (xs ++ ys) ≡ mem i xs || mem i ys
unfolding mem
mem_append i [] ys = refl
mem_append i (x ∷ xs) ys = go (eqb i x) (mem_append i xs ys)
  where
    go : (b : Bool) → mem i (xs ++ ys) ≡ mem i xs || mem i ys → b || mem i (xs ++ ys) ≡ (b || mem i xs) || mem i ys
    go true e = refl
    go false e = e

module _ (p : Bytes) (i : ℕ) where
  abbrev in_one : ℕ → ℕ → Bool
  in_one at count = mem i (list_in at (get_or p count 0) p)

  pub three : mem i (in_use p) ≡ in_one 16 12 || (in_one 80 13 || in_one 144 14)
  unfolding in_use
  three = mem_append i (list_in 16 (get_or p 12 0) p) _ ∙ ap (λ b. in_one 16 12 || b) (mem_append i (list_in 80 (get_or p 13 0) p) (list_in 144 (get_or p 14 0) p))
