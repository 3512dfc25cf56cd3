-- Each of the numbers is tested.
use borrow.Author.Rules.{rules}
use Rattle.sheetparts.specs.Ran.{every_ran}
use Rattle.poolparts.specs.Tests.{other_at, differs}
use Rattle.poolparts.proofs.differs.Goals as goal

pub returns : goal.returns
unfolding differs
returns c =
    every_ran (other_at c.args.p.now c.args.i) c.args.i _ _ _ c.all.ensures.ran (λ x b q k. search rules)
