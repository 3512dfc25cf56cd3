use Prim.Native.Nat.{◌≤◌}
use mathlib.Core.Path.{◌≡◌}
use lib.ListN.{length}
use Rattle.evaluate.specs.Visits.{SequentsLeft}
use Rattle.evaluate.proofs.first_of.Given as goal

abbrev pub invariant-loop-j : goal.invariant-loop-j
invariant-loop-j l = record {
  within : l.p ≤ length l.book;
  env_length : length l.env ≡ length l.initial.env;
  left : SequentsLeft l.book l.at l.i l.n l.t.keys.now l.t.facts.now l.t.domain.now l.j l.p;
}
