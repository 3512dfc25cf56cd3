-- It is still the caller's pool that was changed.
use mathlib.Core.Path.{subst}
use borrow.Author.Rules.{rules}
use Rattle.limits.specs.Limits.{limits_of}
use Rattle.adopting.specs.Slots.{Freed, base_freed}
use Rattle.adopting.proofs.free_base.Goals as goal

pub returns : goal.returns
returns c =
    subst (Freed (limits_of c.args.limits) c.args.i c.args.pool.now) (search rules)
    (base_freed (limits_of c.args.limits) c.args.i c.args.pool.now _ _ c.clear_slot.ensures c.forget.ensures.1)
