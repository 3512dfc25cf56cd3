-- It is still the caller's pool that was changed.
use mathlib.Core.Path.{subst}
use borrow.Author.Rules.{rules}
use Rattle.limits.specs.Limits.{limits_of}
use Rattle.adopting.specs.Slots.{Adopted, numbered_formed, child_adopted}
use Rattle.adopting.proofs.place_child.Goals as goal

pub put_sheet-requires : goal.put_sheet-requires
put_sheet-requires c =
    (numbered_formed (limits_of c.args.limits) c.args.w.now _ c.args.place c.requires.0, c.requires.1)

pub returns : goal.returns
returns c =
    subst (Adopted (limits_of c.args.limits) c.args.i c.args.cut c.args.place c.args.w.now c.args.pool.now) (search rules)
    (child_adopted (limits_of c.args.limits) c.args.i c.args.cut c.args.place _ c.args.w.now c.args.pool.now _ _ c.next_number.ensures.0 c.put_sheet.ensures c.join.ensures.1)
