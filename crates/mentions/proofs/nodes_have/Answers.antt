-- One of the nodes counted from 0 on.
use mathlib.Core.Path.{◌≡◌, refl, ◌∙◌, ap}
use Prim.Native.Nat.{◌+◌, ◌*◌}
use native.Mathlib.Omega.{arith}
use borrow.Author.Rules.{rules}
use Rattle.std.specs.List.{list_any, range_with_len}
use Rattle.std.proofs.lemmas.Iterator.Search.{any_from_yields_List}
use Rattle.std.proofs.lemmas.Iterator.{YieldsList-from_range}
use Rattle.mentions.specs.Nodes.{node_is, nodes_have, have_any}
use Rattle.mentions.proofs.nodes_have.Goals as goal

pub returns : goal.returns
returns c =
    let e : c.any.result ≡ list_any (λ i. node_is c.args.text.now (c.args.at + 4 * i) c.args.v) (range_with_len 0 c.args.k) = any_from_yields_List (λ i. node_is c.args.text.now (c.args.at + 4 * i) c.args.v) _ _ _ c.any.ensures.ran (YieldsList-from_range 0 c.args.k _ refl (omega arith)) (λ x b q k. search rules) in
    let z : c.args.at + 4 * 0 ≡ c.args.at = omega arith in
    e ∙ have_any c.args.text.now c.args.v c.args.at c.args.k 0 ∙ ap (λ p. nodes_have c.args.text.now p c.args.k c.args.v) z
