-- Each of the numbers is tested.
use Rattle.std.specs.Prelude.{map}
use borrow.Author.Rules.{rules}
use Rattle.texts.specs.Names.{names_in}
use Rattle.sheetparts.specs.Ran.{every_ran}
use Rattle.sheetparts.specs.Tests.{shown, entry_at, table_right}
use Rattle.sheetparts.proofs.Table.right.Goals as goal

pub returns : goal.returns
unfolding entry_at table_right
returns c =
    every_ran (entry_at (names_in c.args.self.now.book.now) c.args.self.now.facts c.args.self.now.bound (map shown c.args.self.now.t.now) c.args.s.now c.args.at) c.args.n _ _ _ c.all.ensures.ran (λ x b q k. search rules)
