-- Each of the numbers is tested.
use borrow.Author.Rules.{rules}
use Rattle.sheetparts.specs.Ran.{every_ran}
use Rattle.poolparts.specs.Tests.{slot_at, in_range}
use Rattle.poolparts.proofs.in_range.Goals as goal

pub returns : goal.returns
unfolding slot_at in_range
returns c =
    every_ran (slot_at c.args.p.now c.args.slots c.args.at) c.args.n _ _ _ c.all.ensures.ran (λ x b q k. search rules)
