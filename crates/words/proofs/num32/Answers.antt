-- The two halves are read by `num16`; where none stands there, all four bytes read as 0.
use mathlib.Core.Path.{◌≡◌}
use Prim.Native.Nat.{ℕ, suc, ◌+◌, ◌≤◌}
use native.Mathlib.Omega.{arith}
use lib.ListN.{get_or, get_or-eq_default}
use Rattle.rules.specs.Reading.{num}
use Rattle.words.proofs.num32.Goals as goal

pub returns-else-at-s : goal.returns-else-at-s
unfolding num
returns-else-at-s c =
    let none : (k : ℕ) → c.args.at ≤ k → get_or c.args.s.now k 0 ≡ 0 = λ k l. get_or-eq_default c.args.s.now 0 {n = k} (omega (arith, c.if-at-s.false)) in
    omega (arith, none c.args.at (omega arith), none (suc c.args.at) (omega arith), none (c.args.at + 2) (omega arith), none (suc (c.args.at + 2)) (omega arith))
