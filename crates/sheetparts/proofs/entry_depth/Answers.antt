-- The greatest over the arguments.
use Rattle.std.proofs.Common.{rules, refl, ◌∙◌, ap, ◌+◌, map, arith}
use Prim.Native.Nat.{max}
use Rattle.std.proofs.lemmas.Iterator.{YieldsList-from_range, YieldsList-from_map}
use Rattle.std.proofs.lemmas.Iterator.Consumers.{YieldsList-at, fold_from_yields_List}
use Rattle.rules.specs.Bound.{depth_over}
use Rattle.sheetparts.specs.Loops.{up_to}
use Rattle.sheetparts.specs.Tests.{arg_depth, entry_depth}
use Rattle.sheetparts.specs.Ways.{greatest, few}
use Rattle.sheetparts.proofs.entry_depth.Goals as goal

pub returns : goal.returns
unfolding arg_depth entry_depth
returns c =
    let f = arg_depth c.args.s.now c.args.d c.args.at in
    let n = c.byte.result in
    let all = fold_from_yields_List _ max 0 c.fold.result c.fold.ensures.ran
    (YieldsList-from_map _ (λ j. f j + 1) (YieldsList-at c.map.ensures.source (YieldsList-from_range 0 n n refl (omega arith))) c.map.ensures.closure (λ x r q k. search rules))
    (λ a x b q k. search rules)
    ∙ greatest f n in
    (all ∙ ap (λ m. depth_over (map f (up_to 0 m))) c.byte.ensures.0, rw all (few f (λ j. (c.type_inv.s _).fits) 0 n))
