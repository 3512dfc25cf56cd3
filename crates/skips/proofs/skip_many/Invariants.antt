use lib.ListN.{length}
use Rattle.skips.specs.Rest.{Within, Gives, Chain}
use Rattle.skips.proofs.skip_many.Given as goal

abbrev pub invariant-loop : goal.invariant-loop
invariant-loop g l = Within l.at (length l.s.bytes.now) l.p × Chain (Gives (goal.F-post g l.one) l.s) (length l.s.bytes.now) l.counter l.at l.p
