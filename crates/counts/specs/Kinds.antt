-- The kinds of witnesses by their numbers in a book.
use Rattle.std.specs.Prelude.{◌≡◌, ◌≤◌, Result, MatchResult}
use Rattle.std.proofs.Common.{arith}
use Prim.Native.Nat.{ℕ}
use Rattle.refusals.specs.declared.Refusal.{Refusal}
use Rattle.refusals.specs.declared.Refusal.TheVariants.{UnknownKind}
use Rattle.counts.specs.declared.WitnessKind.{WitnessKind}
use Rattle.counts.specs.declared.WitnessKind.TheVariants.{Constant, Function}

abbrev pub code_of_kind : WitnessKind → ℕ
code_of_kind Constant = 0
code_of_kind Function = 1

-- The kind that a number stands for; two numbers stand for one.
abbrev pub KindOf : ℕ → Result WitnessKind Refusal → Type 0
KindOf n r = MatchResult r (λ k. code_of_kind k ≡ n) (λ e. (e ≡ UnknownKind) × (2 ≤ n))

pub kind_low : (k : WitnessKind) → code_of_kind k ≤ 1
kind_low Constant = omega arith
kind_low Function = omega arith
