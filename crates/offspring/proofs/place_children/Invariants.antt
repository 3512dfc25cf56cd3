use Prim.Native.Nat.{◌≤◌}
use mathlib.Core.Path.{◌≡◌}
use lib.ListN.{length, take}
use Rattle.bound.specs.Bounds.{bound_is}
use Rattle.limits.specs.Limits.{limits_of}
use Rattle.children.specs.Lent.{SameLent}
use Rattle.offspring.specs.All.{PlacedLeft}
use Rattle.offspring.proofs.place_children.Given as goal

abbrev pub invariant-loop : goal.invariant-loop
invariant-loop l = record {
  lent : SameLent l.initial.m l.m;
  within : l.q ≤ length l.p.book.now;
  chosen : take l.p.chosen l.m.env.now ≡ take l.p.chosen l.initial.m.env.now;
  left : PlacedLeft l.p.book.now l.at l.n l.p.chosen (bound_is l.p.bound) (limits_of l.p.limits) l.place l.initial.m.env.now l.p.base.now l.slots l.initial.pool l.counter l.q l.pool;
}
