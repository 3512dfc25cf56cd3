-- `places` meets its contract: each way out by its law.
use mathlib.Core.Path.{◌∙◌}
use native.Mathlib.Omega.{arith}
use Rattle.poolparts.specs.Ways.{one_place, fair_places}
use Rattle.poolparts.proofs.places.Goals as goal

pub returns-in-Linear : goal.returns-in-Linear
returns-in-Linear c = rw c.in-Linear.is (one_place _)

pub returns-in-Fair : goal.returns-in-Fair
returns-in-Fair c = let e = c.sequent_count.ensures.0 in rw c.in-Fair.is (omega arith ∙ fair_places _)
