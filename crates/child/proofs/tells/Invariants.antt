use Rattle.limits.specs.Limits.{limits_of}
use Prim.Native.Nat.{◌≤◌}
use mathlib.Core.Bool.{false}
use lib.ListN.{length}
use Rattle.bound.specs.Bounds.{bound_is}
use Rattle.enter.specs.Grow.{Sturdy}
use Rattle.child.specs.Tells.{Left}
use Rattle.child.proofs.tells.Given as goal

abbrev pub invariant-loop : goal.invariant-loop
invariant-loop l = record {
  within : l.p ≤ length l.case.text.bytes.now;
  room : l.case.limits.keys ≤ length l.dom;
  sturdy : Sturdy (limits_of l.case.limits) l.w;
  left : Left l.case.text.book.now l.case.text.bytes.now l.at l.n (bound_is l.case.bound) (limits_of l.case.limits) l.case.env.now false l.initial.w l.counter l.p l.cut l.w;
}
