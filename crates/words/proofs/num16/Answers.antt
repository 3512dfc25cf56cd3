-- The two bytes are read by `byte`; where none stands there, both read as 0.
use Prim.Native.Nat.{suc}
use native.Mathlib.Omega.{arith}
use native.Mathlib.Numerals.{add-one}
use lib.ListN.{get_or-eq_default}
use Rattle.rules.specs.Reading.{num}
use Rattle.words.proofs.num16.Goals as goal

pub returns-then-at-s : goal.returns-then-at-s
unfolding num
returns-then-at-s c = let e = rw add-one at c.byte-then-at-s.ensures.0 in (omega arith, omega arith)

pub returns-else-at-s : goal.returns-else-at-s
unfolding num
returns-else-at-s c =
    omega (
      arith,
      get_or-eq_default c.args.s.now 0 c.if-at-s.false,
      get_or-eq_default c.args.s.now 0 {n = suc c.args.at} (omega arith),
    )
