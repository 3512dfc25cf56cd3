use Prim.Native.Nat.{ℕ, ◌<◌}
use mathlib.Core.Bool.{true}
use Rattle.firing.specs.Loops.{Seen}
use Rattle.firing.proofs.have_elements.Given as goal

abbrev pub invariant-loop-i : goal.invariant-loop-i
invariant-loop-i l = (j : ℕ) → j < l.i → Seen l.v l.k l.env l.t.keys.now l.t.domain.now j true
