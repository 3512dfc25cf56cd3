-- A slot more, then a number more.
use mathlib.Core.Path.{◌∙◌}
use Rattle.lists.specs.Moves.{joined}
use Rattle.lists.proofs.join.Goals as goal

pub returns : goal.returns
returns c = (c.count_on.ensures.0 ∙ c.enlist.ensures.0, joined c.args.slot c.args.cut c.args.pool.now.bytes.now _ _ c.enlist.ensures.1 c.count_on.ensures.1, c.count_on.ensures.2 ∙ c.enlist.ensures.2)
