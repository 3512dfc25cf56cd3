use native.Mathlib.Omega.{arith}
use Rattle.enter.specs.Args.{one_more_is}
use Rattle.enter.proofs.one_more.Goals as goal

pub returns : goal.returns
returns c = omega (arith, one_more_is c.args.d, c.min.ensures, c.saturating_add.ensures)
