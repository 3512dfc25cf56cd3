use Prim.Native.Nat.{◌+◌, ◌≤◌}
use lib.ListN.{length}
use Rattle.limits.specs.Limits.{limits_of}
use Rattle.bound.specs.Bounds.{bound_is}
use Rattle.bound.specs.Admitted.{AdmittedLeft}
use Rattle.bound.proofs.admitted.Given as goal

abbrev pub invariant-loop : goal.invariant-loop
invariant-loop l = record {
  within : l.p ≤ length l.s.bytes.now;
  counted : l.n ≤ l.size + l.counter;
  left : AdmittedLeft l.s.book.now l.s.bytes.now l.at l.count (bound_is l.b) l.size (limits_of l.f.limits) l.env l.f.w.now l.f.tables.domain.now l.counter l.p l.n;
}
