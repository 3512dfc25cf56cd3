-- What an answer says by document 01: a reading or a check that ends has the place behind what it read, one that is refused has the
-- refusal's number and the place of the fault.
use Rattle.std.specs.Prelude.{◌≡◌, refl, ℕ, ◌≤◌, Bool, true, false, ◌&&◌, leb, T, Result, Ok, Err}
use Rattle.std.proofs.Common.{ap, arith, sym, subst, leb→le}
use Rattle.refusals.specs.Numbers.{number}
use Rattle.rules.specs.Reading.{Read, got, refused, giving}
use Rattle.numbers.specs.declared.Fault.{Fault}

-- The reading that an answer stands for.
abbrev pub reading : Result (ℕ × ℕ) Fault → Read ℕ
reading (Ok r) = got r.0 r.1
reading (Err f) = refused (number f.refusal) f.at

-- A check keeps no more than the place behind what it read.
abbrev pub checking : Result ℕ Fault → Read (Unit {0})
checking (Ok e) = got tt e
checking (Err f) = refused (number f.refusal) f.at

-- A reading without the thing read.
unfoldable pub checked : {A : Type 0} → Read A → Read (Unit {0})
checked r = giving (λ _. tt) r

-- What is made of the thing read does not change the answer.
pub checked_giving : {A B : Type 0} (f : A → B) (r : Read A) → checked (giving f r) ≡ checked r
unfolding checked giving
checked_giving f (got a e) = refl
checked_giving f (refused n p) = refl

-- ---- what an answer tells of the reading

-- A check that ends read some thing.
pub record Ended {A : Type 0} (r : Read A) (e : ℕ) : Type 0 where
  pub thing : A
  pub read : r ≡ got thing e

pub checked_ends : {A : Type 0} (r : Read A) (e : ℕ) → got tt e ≡ checked r → Ended r e
unfolding checked giving
checked_ends (got a m) e h = let q : m ≡ e = cc in record { thing = a; read = ap (got a) q }
checked_ends (refused n p) e h = let z : ◌≡◌ {A = ℕ} 0 1 = cc in absurd (omega arith)

pub checked_refused : {A : Type 0} (r : Read A) (n p : ℕ) → refused n p ≡ checked r → r ≡ refused n p
unfolding checked giving
checked_refused (got a m) n p h = let z : ◌≡◌ {A = ℕ} 0 1 = cc in absurd (omega arith)
checked_refused (refused m q) n p h = cc

-- A number outside a range is below it or above it.
pub outside : (low high x : ℕ) → (low ≤ x → x ≤ high → ⊥) → leb low x && leb x high ≡ false
outside low high x h = go (leb low x) (leb x high) refl refl
  where
    go : (a b : Bool) → leb low x ≡ a → leb x high ≡ b → leb low x && leb x high ≡ false
    go false b p q = rw p
    go true false p q = rw (p, q)
    go true true p q = absurd (h (leb→le low x (subst T (sym p) tt)) (leb→le x high (subst T (sym q) tt)))
