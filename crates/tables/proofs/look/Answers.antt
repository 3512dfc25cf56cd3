-- The entry at the place of the key has it, or none has.
use native.Mathlib.Omega.{arith}
use mathlib.Core.Path.{◌≡◌}
use Prim.Native.Nat.{◌<◌, ◌≤◌}
use lib.ListN.{length, get_or}
use Rattle.std.specs.Prelude.{None}
use Rattle.std.proofs.lemmas.Grind.{common_steps}
use Rattle.std.proofs.lemmas.Option.{gets}
use Rattle.tables.specs.Ways.{whole_found, whole_past, whole_other}
use Rattle.tables.proofs.look.Goals as goal

pub returns-in_err-x : goal.returns-in_err-x
returns-in_err-x c =
    let l : length c.args.t.now ≤ c.rank.result = grind (arith, common_steps, gets) in
    let r : c.from_residual.result ≡ None = grind (arith, common_steps) in
    rw r (whole_past c.args.t.now c.args.q c.rank.result c.rank.ensures.0 l, tt)

pub returns-then-key-q : goal.returns-then-key-q
returns-then-key-q c =
    let e : c.in_ok-x.field-0.now ≡ get_or c.args.t.now c.rank.result 0 = grind (arith, common_steps, gets) in
    let l : c.rank.result < length c.args.t.now = grind (arith, common_steps, gets) in
    (rw (c.value.ensures.0, e) (whole_found c.args.t.now c.args.q c.rank.result c.rank.ensures.0 l (omega arith)), omega arith)

pub returns-else-key-q : goal.returns-else-key-q
returns-else-key-q c =
    let e : c.in_ok-x.field-0.now ≡ get_or c.args.t.now c.rank.result 0 = grind (arith, common_steps, gets) in
    (whole_other c.args.t.now c.args.q c.rank.result c.rank.ensures.0 (λ h. c.if-key-q.false (omega arith)), tt)
