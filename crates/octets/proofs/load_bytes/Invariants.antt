use Rattle.std.proofs.Common.{◌≡◌, ◌++◌, take, drop}
use Rattle.octets.proofs.load_bytes.Given as goal

abbrev pub invariant-loop-i : goal.invariant-loop-i
invariant-loop-i l = l.t ≡ take l.i (drop l.at l.s) ++ drop l.i l.initial.t
