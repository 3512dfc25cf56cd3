-- Each way out of a branch, in the numbers that the code has.
use native.Mathlib.Omega.{arith}
use Prim.Native.Nat.{◌+◌, ◌*◌, ◌≤◌}
use lib.ListN.{length, get_or}
use mathlib.Core.Bool.{true, false}
use mathlib.Core.Path.{refl}
use Rattle.rules.specs.Reading.{num}
use Rattle.bound.specs.Bounds.{bound_is}
use Rattle.refusals.specs.Numbers.{not_done, passed_on}
use Rattle.children.specs.Lent.{room_kept}
use Rattle.stepping.specs.Settling.{settled}
use Rattle.stepping.specs.Outs.{sequent_inside, head_inside, slot_inside, base_sturdy, choice_there, out_failed, out_over, out_full, out_settled}
use Rattle.stepping.proofs.branch.Goals as goal

pub head_at-at-requires : goal.head_at-at-requires
head_at-at-requires c = (sequent_inside _ _ _ _ _ _ _ c.requires.0).0

pub free_base-requires : goal.free_base-requires
free_base-requires c = rw c.first_waiting-i.ensures (slot_inside _ _ _ _ _ _ _ c.requires.0)

pub returns-then-n-eq0-clause-branched : goal.returns-then-n-eq0-clause-branched
returns-then-n-eq0-clause-branched c =
    out_failed c.args.book.now c.args.pool.now (get_or c.args.pool.now 16 0) c.args.fired.number c.args.fired.at (bound_is c.args.bound) c.args.base.now c.args.m.now.env.now _ _ (num c.args.book.now c.args.fired.at) c.head_at-at.ensures.1 c.num16-n.ensures.0 refl c.if-n-eq0.true _ (rw c.first_waiting-i.ensures at c.free_base.ensures)

pub invariant_of-p-clause-sturdy : goal.invariant_of-p-clause-sturdy
invariant_of-p-clause-sturdy c = base_sturdy _ _ _ _ _ _ _ c.requires.0

pub all_fit-requires : goal.all_fit-requires
all_fit-requires c =
    (head_inside _ _ _ _ _ _ _ c.requires.0 _ c.head_at-at.ensures.1, choice_there _ _ _ _ _ _ _ c.requires.0 _ c.num16-chosen.ensures.0 c.args.m.now.env.now c.requires.1 refl refl, c.requires.2)

pub returns-in_err-all_fit-clause-branched : goal.returns-in_err-all_fit-clause-branched
returns-in_err-all_fit-clause-branched c =
    rw (passed_on _ _ c.from_residual.ensures.1) (out_over c.args.book.now c.args.pool.now (get_or c.args.pool.now 16 0) c.args.fired.number c.args.fired.at (bound_is c.args.bound) c.args.base.now c.args.m.now.env.now _ _ _ c.head_at-at.ensures.1 c.num16-n.ensures.0 c.num16-chosen.ensures.0 c.if-n-eq0.false (omega arith) true c.in_err-all_fit.ensures.any_over refl)

pub room_for-requires : goal.room_for-requires
room_for-requires c =
    (omega (arith, slot_inside _ _ _ _ _ _ _ c.requires.0), c.num16-n.ensures.1)

pub returns-in_err-room_for-clause-branched : goal.returns-in_err-room_for-clause-branched
returns-in_err-room_for-clause-branched c =
    rw (passed_on _ _ c.from_residual-in_err-room_for.ensures.1) (out_full c.args.book.now c.args.pool.now (get_or c.args.pool.now 16 0) c.args.fired.number c.args.fired.at (bound_is c.args.bound) c.args.base.now c.args.m.now.env.now _ _ _ c.head_at-at.ensures.1 c.num16-n.ensures.0 c.num16-chosen.ensures.0 c.if-n-eq0.false (omega arith) false c.in_ok-all_fit.ensures.any_over refl _ c.in_err-room_for.ensures (not_done c.in_err-room_for.field-0.0))

pub slots_of-slots-requires : goal.slots_of-slots-requires
slots_of-slots-requires c = omega (arith, slot_inside _ _ _ _ _ _ _ c.requires.0)

pub free_base-requires-2 : goal.free_base-requires-2
free_base-requires-2 c = rw c.first_waiting-i.ensures (slot_inside _ _ _ _ _ _ _ c.requires.0)

pub place_children-requires : goal.place_children-requires
place_children-requires c =
    let s : 208 + 2128 * (get_or c.args.pool.now 16 0) + 2128 ≤ length c.args.pool.now = slot_inside _ _ _ _ _ _ _ c.requires.0 in
    let lent = c.in_ok-all_fit.ensures.lent in
    ((head_inside _ _ _ _ _ _ _ c.requires.0 _ c.head_at-at.ensures.1, choice_there _ _ _ _ _ _ _ c.requires.0 _ c.num16-chosen.ensures.0 _ c.requires.1 lent.1.1 c.in_ok-all_fit.ensures.env_unchanged, room_kept _ _ c.args.m.now c.all_fit.new.m lent c.requires.2), omega arith)

pub returns-clause-branched : goal.returns-clause-branched
returns-clause-branched c =
    out_settled c.args.book.now c.args.pool.now (get_or c.args.pool.now 16 0) c.args.fired.number c.args.fired.at (bound_is c.args.bound) c.args.base.now c.args.m.now.env.now _ _ _ c.head_at-at.ensures.1 c.num16-n.ensures.0 c.num16-chosen.ensures.0 c.if-n-eq0.false (omega arith) false c.in_ok-all_fit.ensures.any_over refl _ c.in_ok-room_for.ensures refl
    c.next_place-place.result (rw (← c.strategy_in.ensures, ← c.sequent_count.ensures.0) c.next_place-place.ensures)
    _ (omega arith) c.in_ok-all_fit.ensures.env_unchanged _ (settled _ _ _ _ _ _ _ _ _ _ _ _ (rw c.first_waiting-i.ensures at c.free_base-2.ensures) (rw c.slots_of-slots.ensures at c.place_children.ensures.placed_all))
