use Prim.Native.Nat.{◌≤◌}
use lib.ListN.{length}
use Rattle.texts.specs.Names.{names_in}
use Rattle.mentions.specs.Rows.{Left}
use Rattle.mentions.proofs.mentioned.Given as goal

abbrev pub invariant-loop : goal.invariant-loop
invariant-loop l = (l.p ≤ length l.s.bytes.now) × Left (names_in l.s.book.now) l.s.bytes.now l.v l.at l.n l.counter l.p
