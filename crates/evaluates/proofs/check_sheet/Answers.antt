-- The sheet passed its check, in front of the evaluator.
use Rattle.rules.specs.Image.{sheet_size}
use Rattle.evaluates.specs.Lone.{lone}
use borrow.Author.Rules.{rules}
use Rattle.evaluates.proofs.check_sheet.Goals as goal

pub lone_sound-requires : goal.lone_sound-requires
unfolding sheet_size
lone_sound-requires c = search rules

pub evaluate_sheet-requires : goal.evaluate_sheet-requires
evaluate_sheet-requires c =
    lone c.args.book.now c.args.slot.now c.requires c.fits-slot _ c.lone_sound.ensures c.if-lone_sound.true
