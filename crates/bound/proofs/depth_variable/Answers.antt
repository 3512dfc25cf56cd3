use native.Mathlib.Omega.{arith}
use mathlib.Core.Path.{◌≡◌}
use Prim.Native.Nat.{◌≤◌}
use lib.ListN.{length, get_or}
use Rattle.std.proofs.lemmas.Grind.{common_steps}
use Rattle.std.proofs.lemmas.Option.{gets}
use Rattle.limits.specs.Limits.{limits_of}
use Rattle.bound.specs.Ways.{variable_past, variable_meant}
use Rattle.bound.proofs.depth_variable.Goals as goal

pub returns-in-Some : goal.returns-in-Some
returns-in-Some c =
    let e : get_or c.args.env.now c.args.i 0 ≡ c.in-Some.x.now = grind (arith, common_steps, gets) in
    (c.depth_meaning.ensures.bound, variable_meant (limits_of c.args.limits) c.args.env.now c.args.i c.args.w.now _ _ e c.depth_meaning.ensures)

pub returns-in-None : goal.returns-in-None
returns-in-None c =
    let l : length c.args.env.now ≤ c.args.i = grind (arith, common_steps, gets) in
    (omega arith, variable_past (limits_of c.args.limits) c.args.env.now c.args.i c.args.w.now l)
