use mathlib.Core.Path.{◌∙◌}
use Rattle.domains.specs.Front.{contains_is}
use Rattle.domains.proofs.known.Goals as goal

pub returns : goal.returns
returns c = c.contains.ensures.value ∙ contains_is c.args.e c.args.dom.now
