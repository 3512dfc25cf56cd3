use Rattle.limits.specs.Limits.{limits_of}
use mathlib.Core.Path.{◌≡◌}
use lib.ListN.{get_or}
use native.Mathlib.Omega.{arith}
use Rattle.std.proofs.lemmas.Grind.{common_steps}
use Rattle.std.proofs.lemmas.Option.{gets}
use Rattle.enter.specs.Ways.{variable_meant}
use Rattle.enter.proofs.enter_variable.Goals as goal

pub returns-clause-variable : goal.returns-clause-variable
returns-clause-variable c =
    let e : get_or c.args.env.now c.args.i 0 ≡ c.in_ok-x.field-0.now = grind (arith, common_steps, gets) in
    variable_meant (limits_of c.args.limits) c.args.env.now c.args.i c.args.w.now _ _ _ e c.record_meaning.ensures
