use Prim.Native.Nat.{◌≤◌}
use mathlib.Core.Path.{◌≡◌}
use lib.ListN.{length}
use Rattle.domains.specs.Firsts.{Listed}
use Rattle.domains.proofs.list_domain.Given as goal

abbrev pub invariant-loop-x : goal.invariant-loop-x
invariant-loop-x l = record {
  below : l.nd ≤ l.x-index;
  as_long : length l.dom ≡ length l.initial.dom;
  listed : Listed l.keys l.x-index l.dom l.nd;
}
