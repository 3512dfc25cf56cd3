use mathlib.Core.Path.{◌∙◌}
use Rattle.tables.specs.Table.{look_in}
use Rattle.tables.specs.Ways.{some_is}
use Rattle.tables.proofs.contains.Goals as goal

pub returns : goal.returns
returns c = c.is_some.ensures ∙ some_is (look_in c.args.q c.args.t.now) c.look.result c.look.ensures.0
