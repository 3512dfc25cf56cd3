use mathlib.Core.Path.{◌≡◌}
use Prim.Native.Nat.{◌≤◌}
use lib.ListN.{length, take}
use Rattle.firing.specs.Loops.{HeadLeft}
use Rattle.firing.proofs.head_observed.Given as goal

abbrev pub invariant-loop : goal.invariant-loop
invariant-loop l = record {
  within : l.p ≤ length l.s.bytes.now;
  as_long : length l.env ≡ length l.initial.env;
  chosen : take l.v l.env ≡ take l.v l.initial.env;
  left : HeadLeft l.s.book.now l.s.bytes.now l.at l.n l.initial.env l.v l.t.keys.now l.t.facts.now l.t.domain.now l.counter l.p;
}
