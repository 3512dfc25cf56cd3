use native.Mathlib.Omega.{arith}
use Rattle.enter.specs.Args.{resolved}
use Rattle.enter.proofs.resolve.Goals as goal

pub returns : goal.returns
unfolding resolved
returns c =
    (omega arith, omega arith)
