-- The length of a pool is checked before the numbers that a call is given are read.
use Rattle.std.specs.Prelude.{◌≡◌, ℕ, true, false, Result, MatchResult}
use Rattle.rules.specs.Calls.{right_length}
use Rattle.refusals.specs.declared.Refusal.{Refusal}
use Rattle.refusals.specs.declared.Refusal.TheVariants.{WrongPoolLength}

-- The length is right, or the refusal is 11.
abbrev pub LengthChecked : ℕ → Result (Unit {0}) Refusal → Type 0
LengthChecked len r = MatchResult r (λ _. right_length len ≡ true) (λ e. (e ≡ WrongPoolLength) × (right_length len ≡ false))
