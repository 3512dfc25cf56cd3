-- The key is there; or there is room, and it is put in; or there is none.
use native.Mathlib.Omega.{arith}
use Prim.Native.Nat.{ℕ, ◌+◌, ◌-◌}
use mathlib.Core.Path.{refl, sym, ap, ◌∙◌, subst}
use mathlib.Core.Logic.{inl, inr}
use mathlib.Core.List.{List}
use lib.ListN.{get_or, length-set}
use borrow.Rule.Slice.PartMut.{mid_len}
use Rattle.tables.specs.Table.{look_in, option_of, Rising}
use Rattle.tables.specs.Ways.{look_missing}
use Rattle.sheets.specs.Parts.{part_front, part_length}
use Rattle.limits.specs.Limits.{limits_of}
use Rattle.sheets.specs.Form.{view_of}
use Rattle.showing.specs.Tables.{keys_shown}
use Rattle.enter.specs.Grow.{after}
use Rattle.enter.specs.Keep.{exit_found, exit_full, exit_new}
use Rattle.enter.proofs.put_key.Goals.{then-created-limits-via-then-created-limits, then-created-limits-via-else-created-limits+then-n-limits}
use Rattle.enter.proofs.put_key.Goals as goal

pub look-old-requires : goal.look-old-requires
look-old-requires c = subst Rising (sym (keys_shown (limits_of c.args.limits) c.args.w.now _ refl)) c.requires.0.rising

pub returns-then-is_some : goal.returns-then-is_some
returns-then-is_some c =
    exit_found (limits_of c.args.limits) c.args.q c.args.d c.args.w.now c.requires.0 c.look-old.result
    (c.look-old.ensures.0 ∙ ap (λ (t : List ℕ). option_of (look_in c.args.q t)) (keys_shown (limits_of c.args.limits) c.args.w.now _ refl)) c.look-old.ensures.1 (sym c.if-is_some.ensures)

pub returns-then-created-limits : goal.returns-then-created-limits
returns-then-created-limits c =
    let o = c.look-old.ensures.0 ∙ ap (λ (t : List ℕ). option_of (look_in c.args.q t)) (keys_shown (limits_of c.args.limits) c.args.w.now _ refl) in
    exit_full (limits_of c.args.limits) c.args.q c.args.d c.args.w.now c.requires.0 (look_missing c.args.q _ c.look-old.result o (sym c.if-is_some.ensures))
    (unfold view_of in elim c.then-created-limits.branch [
      | then-created-limits-via-then-created-limits w ↦ inl w.if-created-limits.true
      | then-created-limits-via-else-created-limits+then-n-limits w ↦ inr (omega (arith, part_length 5 (get_or c.args.w.now 3 0) c.args.w.now (omega arith)))
    ])

pub put-more-requires : goal.put-more-requires
unfolding view_of
put-more-requires c =
    let e = part_front 5 (5 + c.args.limits.keys - 5) (get_or c.args.w.now 3 0) c.args.w.now (omega arith) in
    (omega (arith, mid_len 5 (5 + c.args.limits.keys) c.args.w.now (omega arith)), subst Rising (sym e) c.requires.0.rising)

pub bounds-w-2-2 : goal.bounds-w-2-2
bounds-w-2-2 c = simp length-set (omega arith)

pub bounds-w-3-2 : goal.bounds-w-3-2
bounds-w-3-2 c = simp length-set (omega arith)

pub returns : goal.returns
unfolding after
returns c =
    let o = c.look-old.ensures.0 ∙ ap (λ (t : List ℕ). option_of (look_in c.args.q t)) (keys_shown (limits_of c.args.limits) c.args.w.now _ refl) in
    let k = 5 + c.args.limits.keys - 5 in
    rw c.depths_at.ensures (exit_new (limits_of c.args.limits) c.args.q c.args.d c.args.w.now c.requires.0 (look_missing c.args.q _ c.look-old.result o (sym c.if-is_some.ensures)) (omega arith) k _ _ (omega arith)
    (c.put-more.auto.t ∙ mid_len 5 (5 + c.args.limits.keys) c.args.w.now (omega arith)) (omega arith) c.put-more.ensures)
