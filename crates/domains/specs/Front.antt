-- What is left of the first n entries of a list at place i, for a loop that goes over them: an entry and the rest; at n, nothing.
use Rattle.std.specs.Prelude.{◌≡◌, refl, ℕ, ◌+◌, ◌≤◌, ◌<◌, Bool, ◌||◌, true, false, List, [], ◌∷◌, ◌++◌, length, get_or, take, drop, eqb}
use Rattle.std.specs.List.{list_any}
use Rattle.std.proofs.Math.Path.{sym}
use Rattle.std.proofs.Common.{◌∙◌, ap₂, add-one, length-take, drop_of_length-le, drop-cons, get_or-take, take-suc, eq-eqb, ne_eqb}
use native.Mathlib.Omega.{arith}
use Rattle.std.proofs.lemmas.Bool.Decides.{nat_tests}
use Rattle.base.specs.Lists.{mem}

pub front_cons : {A : Type 0} (t : List A) (n i : ℕ) (d : A) → n ≤ length t → i < n → drop i (take n t) ≡ get_or t i d ∷ drop (i + 1) (take n t)
front_cons t n i d h q = rw (add-one, drop-cons (take n t) i d (simp length-take (omega arith)), get_or-take n t i d q)

pub front_end : {A : Type 0} (t : List A) (n : ℕ) → drop n (take n t) ≡ []
front_end t n = drop_of_length-le (take n t) {i = n} (simp length-take (omega arith))

-- One entry more.
pub front_more : {A : Type 0} (t : List A) (i : ℕ) (d : A) → i < length t → take (i + 1) t ≡ take i t ++ (get_or t i d ∷ [])
front_more t i d h = rw add-one (take-suc t i d h)

module _ (e : ℕ) (t : List ℕ) (n i : ℕ) (fits : n ≤ length t) (before : mem e (take n t) ≡ mem e (drop i (take n t))) where
  pub mem_here : i < n → get_or t i 0 ≡ e → true ≡ mem e (take n t)
  unfolding mem
  mem_here h q = sym (before ∙ (rw (front_cons t n i 0 fits h) (simp (eq-eqb e (get_or t i 0) (sym q)))))

  pub mem_on : i < n → (get_or t i 0 ≡ e → ⊥) → mem e (take n t) ≡ mem e (drop (i + 1) (take n t))
  unfolding mem
  mem_on h q = before ∙ (rw (front_cons t n i 0 fits h) (simp (ne_eqb e (get_or t i 0) (λ p. q (sym p)))))

  pub mem_end : n ≤ i → i ≤ n → false ≡ mem e (take n t)
  unfolding mem
  mem_end h q = let z : i ≡ n = omega arith in sym (before ∙ (rw (z, front_end t n)))

swapped : (a b : ℕ) → eqb a b ≡ eqb b a
swapped a b = grind (arith, nat_tests)

-- The library's test whether a number is in a list.
pub contains_is : (e : ℕ) (xs : List ℕ) → list_any (λ y. eqb y e) xs ≡ mem e xs
unfolding mem
contains_is e [] = refl
contains_is e (x ∷ xs) = ap₂ (λ (a b : Bool). a || b) (swapped x e) (contains_is e xs)
