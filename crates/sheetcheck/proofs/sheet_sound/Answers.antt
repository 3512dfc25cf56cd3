-- Each way out by its law.
use mathlib.Core.Path.{sym, ◌∙◌}
use native.Mathlib.Omega.{arith}
use Rattle.std.specs.Prelude.{None, map}
use lib.ListN.{replicate, get_or-replicate}
use Rattle.texts.specs.Names.{names_in}
use Rattle.sheetparts.specs.Tests.{depths_from, shown}
use Rattle.sheetcheck.specs.Sheets.{head_counts, head_out, room_out, body_out, lows_none}
use Rattle.sheetcheck.proofs.sheet_sound.Goals as goal
use Rattle.sheetcheck.proofs.sheet_sound.Goals.{then-not-head_right-via-then-not-head_right, then-not-head_right-via-else-not-head_right+then-not-room_right}

pub room_right-requires : goal.room_right-requires
room_right-requires c =
    let e = sym c.head_right.ensures ∙ c.if-not-head_right.false in
    (c.requires.0, head_counts _ c.requires.0 (names_in c.args.book.now) c.args.slot.now c.requires.1 (λ j. (c.type_inv.slot j).fits) c.args.places e)

pub fill-requires : goal.fill-requires
fill-requires c = ((omega arith, (omega arith, omega arith)), lows_none c.args.slot.now _ 16 _ (map shown (replicate 256 None)) (λ e h. get_or-replicate 256 e 512 0 h))

pub body_right-requires : goal.body_right-requires
body_right-requires c =
    let e = sym c.head_right.ensures ∙ c.if-not-head_right.false in
    let k = head_counts _ c.requires.0 (names_in c.args.book.now) c.args.slot.now c.requires.1 (λ j. (c.type_inv.slot j).fits) c.args.places e in
    (c.requires.0, omega (arith, k.0, c.requires.0.elements))

pub returns-then-not-head_right : goal.returns-then-not-head_right
returns-then-not-head_right c = elim c.then-not-head_right.branch [
  | then-not-head_right-via-then-not-head_right w ↦
      head_out _ c.requires.0 (names_in c.args.book.now) c.args.slot.now c.requires.1 (λ j. (c.type_inv.slot j).fits) c.args.places (sym c.head_right.ensures ∙ w.if-not-head_right.true)
  | then-not-head_right-via-else-not-head_right+then-not-room_right w ↦
      room_out _ c.requires.0 (names_in c.args.book.now) c.args.slot.now c.requires.1 (λ j. (c.type_inv.slot j).fits) c.args.places (sym w.room_right.ensures ∙ w.if-not-room_right.true)
]

pub returns : goal.returns
unfolding depths_from
returns c =
    let e = sym c.head_right.ensures ∙ c.if-not-head_right.false in
    let r = sym c.room_right.ensures ∙ c.if-not-room_right.false in
    c.body_right.ensures ∙ body_out _ c.requires.0 (names_in c.args.book.now) c.args.slot.now c.requires.1 (λ j. (c.type_inv.slot j).fits) c.args.places _ e r (rw (c.num16-keys.ensures.0, c.slot_depths_at.ensures) at c.fill.ensures)
