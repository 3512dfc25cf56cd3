-- The first waiting slot is popped.
use Rattle.lists.specs.Moves.{forgotten}
use Rattle.lists.proofs.forget.Goals as goal

pub returns : goal.returns
returns c = (c.pop.ensures.0, forgotten _ _ c.pop.ensures.1, c.pop.ensures.2)
