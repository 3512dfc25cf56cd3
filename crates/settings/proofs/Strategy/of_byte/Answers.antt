use mathlib.Core.Path.{refl}
use Rattle.rules.specs.Pool.{strategy_of}
use Rattle.settings.specs.declared.Strategy.TheVariants.{Linear, Fair}
use Rattle.settings.specs.Codes.{strategy_is, first_else}
use Rattle.settings.proofs.Strategy.of_byte.Goals as goal

pub returns : goal.returns
unfolding strategy_of
returns c = first_else strategy_is strategy_of Linear Fair refl (λ n. refl) _ _ c.first_or_second.ensures
