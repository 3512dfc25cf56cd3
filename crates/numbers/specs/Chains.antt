-- A check that follows a reading step by step: what the answer so far says of the whole, one law for each kind of step.
use Rattle.std.specs.Prelude.{◌≡◌, ℕ, Bool, true, false}
use Rattle.std.proofs.Common.{ap}
use Rattle.base.specs.Branch.{if}
use Rattle.rules.specs.Reading.{Read, got, refused, and_then, giving}
use Rattle.numbers.specs.Answers.{checked, checked_ends, checked_refused}

-- After a number.
pub after_is : {B : Type 0} (r : Read ℕ) (f : ℕ → ℕ → Read B) (x e : ℕ) → got x e ≡ r → checked (and_then r f) ≡ checked (f x e)
unfolding and_then
after_is r f x e h = rw (← h)

pub after_fault : {B : Type 0} (r : Read ℕ) (f : ℕ → ℕ → Read B) (n p : ℕ) → refused n p ≡ r → checked (and_then r f) ≡ refused n p
unfolding and_then checked giving
after_fault r f n p h = rw (← h)

-- After a check.
pub after_ends : {A B : Type 0} (r : Read A) (f : A → ℕ → Read B) (e : ℕ) (h : got tt e ≡ checked r) → checked (and_then r f) ≡ checked (f (checked_ends r e h).thing e)
unfolding and_then
after_ends r f e h = ap (λ q. checked (and_then q f)) (checked_ends r e h).read

pub after_refused : {A B : Type 0} (r : Read A) (f : A → ℕ → Read B) (n p : ℕ) → refused n p ≡ checked r → checked (and_then r f) ≡ refused n p
unfolding and_then checked giving
after_refused r f n p h = rw (checked_refused r n p h)

-- A test.
pub on_true : {A : Type 0} (b : Bool) (f g : Unit {0} → Read A) → b ≡ true → checked (if b f g) ≡ checked (f tt)
unfolding if
on_true b f g h = rw h

pub on_false : {A : Type 0} (b : Bool) (f g : Unit {0} → Read A) → b ≡ false → checked (if b f g) ≡ checked (g tt)
unfolding if
on_false b f g h = rw h
