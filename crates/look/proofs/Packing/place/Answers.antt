-- A digit below 256 weighs at most 255 times its weight.
use Rattle.look.specs.Digits.{weighs}
use native.Mathlib.Omega.{arith}
use Rattle.look.proofs.Packing.place.Goals as goal

pub overflow_mul-result : goal.overflow_mul-result
overflow_mul-result c = omega (arith, weighs c.args.v c.args.self.weight c.requires)

pub overflow_add-result : goal.overflow_add-result
overflow_add-result c = omega (arith, weighs c.args.v c.args.self.weight c.requires)
