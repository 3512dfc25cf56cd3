-- Copied, cleared, and gone from its list; it is still the caller's pool that was changed.
use mathlib.Core.Path.{subst}
use Prim.Native.Nat.{◌+◌, ◌*◌}
use borrow.Author.Rules.{rules}
use lib.ListN.{replicate}
use Rattle.octets.specs.Patch.{patched}
use Rattle.settings.specs.Numbers.{number_of}
use Rattle.heads.specs.Lists.{Popped}
use Rattle.takings.specs.Take.{popped_behind}
use Rattle.takings.proofs.give.Goals as goal

pub returns : goal.returns
returns c = (
  subst (Popped (number_of c.args.list) (patched (208 + 2128 * c.args.i) (replicate 2128 0) c.args.pool.now)) (search rules) (popped_behind _ _ _ _ c.clear_slot.ensures c.pop.ensures.1),
  rw c.slot_at.ensures at c.copy_slot.ensures,
)
