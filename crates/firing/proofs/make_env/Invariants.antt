use mathlib.Core.Path.{◌≡◌}
use lib.ListN.{length, take}
use Rattle.skips.specs.Rest.{Within}
use Rattle.firing.specs.Origins.{Makes}
use Rattle.firing.proofs.make_env.Given as goal

abbrev pub invariant-loop-i : goal.invariant-loop-i
invariant-loop-i l = record {
  within : Within l.at (length l.s.bytes.now) l.p;
  as_long : length l.env ≡ length l.initial.env;
  chosen : take l.v l.env ≡ take l.v l.initial.env;
  makes : Makes l.s.book.now l.s.bytes.now l.at l.k l.v (take l.v l.initial.env) l.i l.p l.env;
}
