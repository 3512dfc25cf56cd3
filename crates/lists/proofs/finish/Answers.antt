-- A pop, then a push.
use mathlib.Core.Path.{ap, ◌∙◌}
use lib.ListN.{get_or}
use Rattle.lists.specs.Moves.{finished}
use Rattle.lists.proofs.finish.Goals as goal

pub returns : goal.returns
returns c = (c.push_back.ensures.0 ∙ c.pop.ensures.0, finished c.args.pool.now.bytes.now _ _ _ (ap (λ k. get_or c.args.pool.now.bytes.now k 0) c.starts_at.ensures.0) c.pop.ensures.1 c.push_back.ensures.1, c.push_back.ensures.2 ∙ c.pop.ensures.2)
