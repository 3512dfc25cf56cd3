-- The greatest over the arguments that are there.
use Rattle.std.proofs.Common.{rules, refl, ◌∙◌, get_or, arith}
use Prim.Native.Nat.{max}
use Rattle.std.proofs.lemmas.Iterator.{YieldsList-from_range, YieldsList-from_take, YieldsList-from_map}
use Rattle.std.proofs.lemmas.Iterator.Consumers.{YieldsList-at, fold_from_yields_List}
use Rattle.packing.specs.Replace.{arg_of}
use Rattle.lowering.specs.Lower.{greatest_of}
use Rattle.lowering.proofs.deepest.Goals as goal

pub returns : goal.returns
returns c =
    let ds = c.args.depths.now in
    let x = c.args.x in
    let n = c.count.result in
    fold_from_yields_List _ max 0 c.fold.result c.fold.ensures.ran
    (YieldsList-from_map _ (λ i. get_or ds (arg_of x i) 0)
    (YieldsList-at c.map.ensures.source (YieldsList-from_take n (YieldsList-at c.take.ensures.source (YieldsList-from_range 0 4 4 refl (omega arith))) c.take.ensures.count)) c.map.ensures.closure
    (λ x r q k. search rules))
    (λ a x b q k. search rules)
    ∙ greatest_of ds x n c.count.ensures.0
