-- The checked sheet, loaded, is a basis for the evaluator, whose answer is for the sheet that the bytes say.
use native.Mathlib.Omega.{arith}
use Rattle.evaluates.specs.Lone.{basis, fires_on}
use Rattle.evaluates.proofs.fires.Goals as goal

pub evaluate_form-requires : goal.evaluate_form-requires
evaluate_form-requires c =
    (basis c.args.book.now c.args.slot.now c.requires _ c.load_sheet.ensures, (omega arith, omega arith))

pub returns : goal.returns
returns c =
    fires_on c.args.book.now c.args.slot.now c.requires _ c.load_sheet.ensures _ c.evaluate_form.result c.evaluate_form.new.env c.evaluate_form.ensures
