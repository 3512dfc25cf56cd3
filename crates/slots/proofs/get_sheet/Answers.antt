use Rattle.sheets.specs.Parts.{part_lent}
use Rattle.slots.proofs.get_sheet.Goals as goal

pub returns : goal.returns
returns c = rw (part_lent, c.slot_at-a.ensures, c.slot_size.ensures) at c.load_sheet.ensures
