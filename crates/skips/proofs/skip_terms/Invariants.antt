use Prim.Native.Nat.{◌-◌}
use lib.ListN.{length}
use Rattle.texts.specs.Names.{names_in}
use Rattle.skips.specs.Rest.{Within}
use Rattle.skips.specs.Terms.{Awaits}
use Rattle.skips.proofs.skip_terms.Given as goal

abbrev pub invariant-loop-left : goal.invariant-loop-left
invariant-loop-left l = Within l.at (length l.s.bytes.now) l.p × Awaits (names_in l.s.book.now) l.s.bytes.now l.at l.n l.p l.left

abbrev pub decreases-loop-left : goal.decreases-loop-left
decreases-loop-left l = length l.s.bytes.now - l.p
