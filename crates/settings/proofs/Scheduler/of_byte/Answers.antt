use mathlib.Core.Path.{refl}
use Rattle.rules.specs.Pool.{scheduler_of}
use Rattle.settings.specs.declared.Scheduler.TheVariants.{Fifo, Lifo}
use Rattle.settings.specs.Codes.{scheduler_is, first_else}
use Rattle.settings.proofs.Scheduler.of_byte.Goals as goal

pub returns : goal.returns
unfolding scheduler_of
returns c = first_else scheduler_is scheduler_of Fifo Lifo refl (λ n. refl) _ _ c.first_or_second.ensures
