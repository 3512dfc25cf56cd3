use mathlib.Core.Path.{sym, ◌∙◌}
use Rattle.mentions.specs.Nodes.{node_variable, node_other}
use Rattle.mentions.proofs.node_is.Goals as goal

pub returns-then-num16-eq0 : goal.returns-then-num16-eq0
returns-then-num16-eq0 c =
    node_variable c.args.text.now c.args.at c.args.v _ (sym c.num16.ensures.0 ∙ c.if-num16-eq0.true) c.num16-then-num16-eq0.ensures.0

pub returns-else-num16-eq0 : goal.returns-else-num16-eq0
returns-else-num16-eq0 c = node_other c.args.text.now c.args.at c.args.v _ c.num16.ensures.0 c.if-num16-eq0.false
