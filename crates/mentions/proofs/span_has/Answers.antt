-- No nodes where the end is before the start.
use mathlib.Core.Path.{◌∙◌}
use native.Mathlib.Omega.{arith}
use Rattle.std.proofs.lemmas.Bool.{lt-leb}
use Prim.Native.Nat.{◌-◌, ◌/◌}
use Rattle.mentions.specs.Nodes.{have_none}
use Rattle.mentions.proofs.span_has.Goals as goal

pub returns-else-e-b : goal.returns-else-e-b
returns-else-e-b c = lt-leb c.args.b c.args.e c.if-e-b.false ∙ have_none c.args.text.now c.args.v c.args.b ((c.args.e - c.args.b) / 4) (omega arith)
