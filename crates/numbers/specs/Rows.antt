-- A row: things checked one after another, each from the place behind the last, and that it is the reading of so many.
use Rattle.std.specs.Prelude.{◌≡◌, ℕ, zero, suc, ◌+◌, ◌-◌, ◌<◌, ◌≤◌, ◌^◌, ◌∷◌, Result, Ok, Err}
use Rattle.std.proofs.Common.{refl, sym, ◌∙◌, subst, arith}
use Rattle.rules.specs.Reading.{Read, and_then, giving, many}
use Rattle.numbers.specs.declared.Fault.{Fault}
use Rattle.numbers.specs.Answers.{checked, checking, checked_giving, checked_ends, checked_refused}

-- `One p r`: the check of one thing answers r at place p. A row ends behind its last thing, or at the first that is refused.
-- Each place fits a `usize`, since of other places what a closure ensures says nothing.
pub data Row (One : ℕ → Result ℕ Fault → Type 0) : ℕ → ℕ → Result ℕ Fault → Type 0 where
  ends : {p : ℕ} → Row One zero p (Ok p)
  stops : {n p : ℕ} {f : Fault} → p < 2 ^ 64 → One p (Err f) → Row One (suc n) p (Err f)
  goes : {n p e : ℕ} {r : Result ℕ Fault} → p < 2 ^ 64 → One p (Ok e) → Row One n e r → Row One (suc n) p r

-- Where each check reads by f, the row reads as many by f.
pub row_reads : {A : Type 0} {One : ℕ → Result ℕ Fault → Type 0} (f : ℕ → Read A)
    → ((p : ℕ) (r : Result ℕ Fault) → p < 2 ^ 64 → One p r → checking r ≡ checked (f p))
    → {n p : ℕ} {r : Result ℕ Fault} → Row One n p r → checking r ≡ checked (many n f p)
unfolding many and_then checked giving
row_reads f reads ends = refl
row_reads f reads (stops {p = p} lt one) = rw (checked_refused (f p) _ _ (reads p _ lt one))
row_reads f reads (goes {n} {p} {e} lt one row) =
    let d = checked_ends (f p) e (reads p (Ok e) lt one) in
    rw d.read (row_reads f reads row ∙ sym (checked_giving (λ xs. d.thing ∷ xs) (many n f e)))

-- ---- the turns of a loop that runs a row: i of n are checked, and the next starts at p

module _ {One : ℕ → Result ℕ Fault → Type 0} (n i p : ℕ) where
  pub at_start : (r : Result ℕ Fault) → Row One (n - 0) p r → Row One n p r
  at_start r row = let z : n - 0 ≡ n = omega arith in subst (λ k. Row One k p r) z row

  pub at_end : n ≤ i → Row One (n - i) p (Ok p)
  at_end h = subst (λ k. Row One k p (Ok p)) (omega arith) ends

  pub at_fault : (f : Fault) → i < n → p < 2 ^ 64 → One p (Err f) → Row One (n - i) p (Err f)
  at_fault f h lt one = let z : suc (n - (i + 1)) ≡ n - i = omega arith in subst (λ k. Row One k p (Err f)) z (stops lt one)

  pub at_next : (e : ℕ) (r : Result ℕ Fault) → i < n → p < 2 ^ 64 → One p (Ok e) → Row One (n - (i + 1)) e r → Row One (n - i) p r
  at_next e r h lt one row = let z : suc (n - (i + 1)) ≡ n - i = omega arith in subst (λ k. Row One k p r) z (goes lt one row)
