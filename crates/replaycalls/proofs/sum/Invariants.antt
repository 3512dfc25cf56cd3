-- The sum stays below the modulus, so that the next product fits.
use Rattle.std.proofs.Common.{◌<◌}
use Rattle.replaycalls.proofs.sum.Given as goal

abbrev pub invariant-loop-b : goal.invariant-loop-b
invariant-loop-b l = l.h < 4294967291
