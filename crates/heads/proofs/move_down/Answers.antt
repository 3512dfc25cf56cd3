-- All but one are copied within the list, and one place is written.
use mathlib.Core.Path.{ap, ◌∙◌}
use Prim.Native.Nat.{◌+◌}
use lib.ListN.{set}
use Rattle.heads.specs.Shift.{lowered}
use Rattle.heads.proofs.move_down.Goals as goal

pub returns : goal.returns
returns c = ap (λ l. set l (c.args.at + 63) 0) c.copy_within.ensures.after ∙ lowered c.args.pool.now c.args.at c.requires.1
