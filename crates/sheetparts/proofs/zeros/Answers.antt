-- Each of the numbers is tested.
use borrow.Author.Rules.{rules}
use Rattle.sheetparts.specs.Ran.{every_ran}
use Rattle.sheetparts.specs.Tests.{zero_at, zeros}
use Rattle.sheetparts.proofs.zeros.Goals as goal

pub returns : goal.returns
unfolding zero_at zeros
returns c =
    every_ran (zero_at c.args.s.now c.args.at) c.args.n _ _ _ c.all.ensures.ran (λ x b q k. search rules)
