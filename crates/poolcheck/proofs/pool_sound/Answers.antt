-- Each way out by its law, with the slots that the length has room for.
use mathlib.Core.Path.{sym, ◌∙◌}
use native.Mathlib.Omega.{arith}
use lib.ListN.{length}
use Rattle.poolcheck.specs.Books.{right_slots, slots_out, frame_out}
use Rattle.poolcheck.proofs.pool_sound.Goals as goal

pub overflow_sub-n : goal.overflow_sub-n
overflow_sub-n c = omega (arith, right_slots (length c.args.pool.now) c.requires)

pub slots_right-requires : goal.slots_right-requires
slots_right-requires c =
    let r = right_slots (length c.args.pool.now) c.requires in
    (r.1.1, omega arith)

pub returns-then-frame_right : goal.returns-then-frame_right
returns-then-frame_right c =
    let r = right_slots (length c.args.pool.now) c.requires in
    let e = rw (c.places.ensures, c.of_byte-strategy.ensures, c.byte.ensures.0) at c.slots_right.ensures in
    λ b ok. e ∙ slots_out c.args.book.now c.args.pool.now _ r.0 (λ j. (c.type_inv.pool j).fits) b ok (sym c.frame_right.ensures ∙ c.if-frame_right.true)

pub returns-else-frame_right : goal.returns-else-frame_right
returns-else-frame_right c =
    let r = right_slots (length c.args.pool.now) c.requires in
    λ b ok. c.if-frame_right.false ∙ frame_out c.args.book.now c.args.pool.now _ r.0 (λ j. (c.type_inv.pool j).fits) b ok (sym c.frame_right.ensures ∙ c.if-frame_right.false)
