use Prim.Native.Nat.{◌≤◌}
use lib.ListN.{length}
use Rattle.firing.specs.Loops.{LiteralsLeft}
use Rattle.firing.proofs.literals_observed.Given as goal

abbrev pub invariant-loop : goal.invariant-loop
invariant-loop l = record { within : l.p ≤ length l.s.bytes.now; left : LiteralsLeft l.s.book.now l.s.bytes.now l.at l.n l.env l.t.keys.now l.t.facts.now l.t.domain.now l.counter l.p }
