-- The numbers that pass are those that hit.
use mathlib.Core.Path.{◌≡◌, ap₂, ◌∙◌}
use Prim.Native.Nat.{ℕ, ◌+◌, ◌-◌}
use native.Mathlib.Omega.{arith}
use borrow.Author.Rules.{rules}
use borrow.Author.Tests.{tests}
use lib.Dec.{eqb}
use Rattle.std.specs.List.{range_with_len}
use Rattle.std.proofs.lemmas.Iterator.{YieldsList-from_range}
use Rattle.std.proofs.lemmas.Iterator.Consumers.{count_from_yields_List, YieldsList-from_filter}
use Rattle.pools.specs.Count.{cnt}
use Rattle.sheetparts.specs.Tests.{byte_at}
use Rattle.poolparts.specs.Tests.{row_at}
use Rattle.poolparts.specs.Ways.{hits, hits_counted, hits_few}
use Rattle.poolparts.proofs.times.Goals as goal

pub returns : goal.returns
unfolding row_at
returns c =
    let n = c.counted.result in
    let f : ℕ → ℕ = λ j. byte_at c.args.p.now (c.starts_at-at.result + j) in
    let z : n - 0 ≡ n = omega arith in
    let e : c.count.result ≡ hits f c.args.i (range_with_len 0 n) =
    count_from_yields_List c.filter.result c.count.result c.count.ensures.ran
    (YieldsList-from_filter _ (λ j. eqb (f j) c.args.i) (YieldsList-from_range 0 n n c.filter.ensures.source z) c.filter.ensures.closure (λ x b q k. search (rules, tests))) in
    (e ∙ hits_counted f c.args.i n ∙ ap₂ (λ a k. cnt c.args.i (row_at c.args.p.now a k)) c.starts_at-at.ensures.0 c.counted.ensures.0, omega (arith, hits_few f c.args.i n))
