-- All but one are copied within the list, and one place is written.
use mathlib.Core.Path.{ap, ◌∙◌}
use lib.ListN.{set}
use Rattle.heads.specs.Shift.{raised}
use Rattle.heads.proofs.move_up.Goals as goal

pub returns : goal.returns
returns c = ap (λ l. set l (c.args.at) c.args.slot) c.copy_within.ensures.after ∙ raised c.args.pool.now c.args.at c.args.slot c.requires.1
