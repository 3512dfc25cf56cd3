-- The places are those that the book's text gives.
use native.Mathlib.Omega.{arith}
use Rattle.sheetcheck.specs.Lone.{lone_out}
use Rattle.sheetcheck.proofs.lone_sound.Goals as goal

pub returns : goal.returns
returns c =
    let n = c.sequent_count.ensures.0 in
    lone_out _ c.args.book.now c.args.slot.now _ _ (omega arith) c.sheet_sound.ensures
