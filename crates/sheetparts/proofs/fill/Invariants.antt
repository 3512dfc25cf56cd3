-- The keys passed give the least depths.
use Rattle.std.specs.Prelude.{◌≡◌, map, length}
use Rattle.sheetparts.specs.Tests.{Lows, shown}
use Rattle.sheetparts.proofs.fill.Given as goal

abbrev pub invariant-loop-i : goal.invariant-loop-i
invariant-loop-i l = (length l.t ≡ 256) × Lows l.s l.d l.at l.i l.n (map shown l.t)
