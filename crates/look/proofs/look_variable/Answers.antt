-- A number below 256 is an element, which has to live; any other is a witness.
use native.Mathlib.Omega.{arith}
use mathlib.Core.Path.{◌≡◌, sym, ◌∙◌}
use lib.ListN.{length, get_or}
use Prim.Native.Nat.{◌≤◌}
use Rattle.std.proofs.lemmas.Grind.{common_steps}
use Rattle.std.proofs.lemmas.Option.{gets}
use Rattle.look.specs.Ways.{variable_past, variable_witness, variable_lives, variable_gone}
use Rattle.look.proofs.look_variable.Goals as goal

pub returns-in_err-x : goal.returns-in_err-x
returns-in_err-x c =
    let l : length c.args.env.now ≤ c.args.i = grind (arith, common_steps, gets) in
    rw c.from_residual.ensures (variable_past c.args.env.now c.args.i c.args.t.now.keys.now c.args.t.now.domain.now l, tt)

pub returns-then-x-ge256 : goal.returns-then-x-ge256
returns-then-x-ge256 c =
    let e : get_or c.args.env.now c.args.i 0 ≡ c.in_ok-x.field-0.now = grind (arith, common_steps, gets) in
    (variable_witness c.args.env.now c.args.i c.args.t.now.keys.now c.args.t.now.domain.now c.in_ok-x.field-0.now e c.if-x-ge256.true _ c.look.ensures.0, c.look.ensures.1)

pub returns-then-known : goal.returns-then-known
returns-then-known c =
    let e : get_or c.args.env.now c.args.i 0 ≡ c.in_ok-x.field-0.now = grind (arith, common_steps, gets) in
    (variable_lives c.args.env.now c.args.i c.args.t.now.keys.now c.args.t.now.domain.now c.in_ok-x.field-0.now e (omega arith) (sym c.if-known.true ∙ c.known.ensures), omega arith)

pub returns-else-known : goal.returns-else-known
returns-else-known c =
    let e : get_or c.args.env.now c.args.i 0 ≡ c.in_ok-x.field-0.now = grind (arith, common_steps, gets) in
    (variable_gone c.args.env.now c.args.i c.args.t.now.keys.now c.args.t.now.domain.now c.in_ok-x.field-0.now e (omega arith) (sym c.if-known.false ∙ c.known.ensures), tt)
