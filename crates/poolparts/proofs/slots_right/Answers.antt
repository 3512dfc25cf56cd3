-- Each of the numbers is tested.
use borrow.Author.Rules.{rules}
use Rattle.texts.specs.Names.{names_in}
use Rattle.sheetparts.specs.Ran.{every_ran}
use Rattle.poolparts.specs.Tests.{slot_right, slots_right}
use Rattle.poolparts.proofs.slots_right.Goals as goal

pub returns : goal.returns
unfolding slots_right
returns c =
    every_ran (slot_right (names_in c.args.book.now) c.args.places c.args.p.now) c.args.n _ _ _ c.all.ensures.ran (λ x b q k. search rules)
