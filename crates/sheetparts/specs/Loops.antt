-- A test of each number from i up to n, as a loop makes it: one law for a turn, one for the way out, one for the end.
use Rattle.std.specs.Prelude.{◌≡◌, refl, ℕ, zero, suc, ◌+◌, ◌-◌, ◌≤◌, ◌<◌, Bool, true, false, ◌&&◌, List, [], ◌∷◌, T}
use Rattle.std.proofs.Common.{sym, ◌∙◌, arith, add-one}
use Rattle.std.proofs.Math.Path.{ap}
use Rattle.base.specs.Lists.{all, from}
use Rattle.base.specs.ListLaws.{all_of, of_all}
use Rattle.pools.specs.Count.{from_all, all_from}

-- The numbers from i up to n.
unfoldable pub up_to : ℕ → ℕ → List ℕ
up_to i n = from i (n - i)

pub up_next : (i n : ℕ) → i < n → up_to i n ≡ i ∷ up_to (i + 1) n
unfolding up_to from
up_next i n h = go (n - i) refl
  where
    go : (k : ℕ) → n - i ≡ k → from i k ≡ i ∷ from (i + 1) (n - (i + 1))
    go zero e = absurd (omega arith)
    go (suc k) e = let q : k ≡ n - (i + 1) = omega arith in rw (q, add-one)

pub up_end : (i n : ℕ) → n ≤ i → up_to i n ≡ []
unfolding up_to from
up_end i n h = let z : n - i ≡ 0 = omega arith in rw z

-- p passes at each of them.
unfoldable pub every : (ℕ → Bool) → ℕ → ℕ → Bool
every p i n = all p (up_to i n)

module _ (p : ℕ → Bool) (i n : ℕ) where
  pub every_next : i < n → p i ≡ true → every p i n ≡ every p (i + 1) n
  unfolding every
  every_next h e = ap (all p) (up_next i n h) ∙ ap (λ b. b && all p (up_to (i + 1) n)) e

  pub every_not : i < n → p i ≡ false → every p i n ≡ false
  unfolding every
  every_not h e = ap (all p) (up_next i n h) ∙ ap (λ b. b && all p (up_to (i + 1) n)) e

  pub every_end : n ≤ i → every p i n ≡ true
  unfolding every
  every_end h = ap (all p) (up_end i n h)

pub every_at : (p : ℕ → Bool) (n : ℕ) → T (every p 0 n) → (i : ℕ) → i < n → T (p i)
unfolding every up_to
every_at p n t i h = all_from (λ j. T (p j)) 0 (n - 0) (all_of p (from 0 (n - 0)) t) i (omega arith) (omega arith)

pub at_every : (p : ℕ → Bool) (n : ℕ) → ((i : ℕ) → i < n → T (p i)) → T (every p 0 n)
unfolding every up_to
at_every p n f = of_all p (from 0 (n - 0)) (from_all (λ j. T (p j)) 0 (n - 0) (λ j l h. f j (omega arith)))

-- The same, where the answer so far is that of the whole.
module _ (w : Bool) (p : ℕ → Bool) (i n : ℕ) (e : w ≡ every p i n) where
  pub turn : i < n → p i ≡ true → w ≡ every p (i + 1) n
  turn h q = e ∙ every_next p i n h q

  pub out : i < n → p i ≡ false → false ≡ w
  out h q = sym (e ∙ every_not p i n h q)

  pub done : n ≤ i → true ≡ w
  done h = sym (e ∙ every_end p i n h)
