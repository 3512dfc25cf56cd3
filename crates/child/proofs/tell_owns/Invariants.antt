use Prim.Native.Nat.{◌≤◌}
use Rattle.limits.specs.Limits.{limits_of}
use lib.ListN.{length}
use Rattle.bound.specs.Bounds.{bound_is}
use Rattle.enter.specs.Grow.{Sturdy}
use Rattle.child.specs.Owns.{Left}
use Rattle.child.proofs.tell_owns.Given as goal

abbrev pub invariant-loop-i : goal.invariant-loop-i
invariant-loop-i l = record {
  room : l.case.limits.keys ≤ length l.dom;
  sturdy : Sturdy (limits_of l.case.limits) l.w;
  left : Left l.case.text.book.now l.case.text.bytes.now l.at l.n (bound_is l.case.bound) (limits_of l.case.limits) l.case.env.now l.v l.count l.before l.initial.w l.i l.cut l.w;
}
