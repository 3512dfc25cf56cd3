-- Each of the numbers is tested.
use Rattle.std.specs.Prelude.{map}
use borrow.Author.Rules.{rules}
use Rattle.sheetparts.specs.Ran.{every_ran}
use Rattle.sheetparts.specs.Tests.{shown, depth_at, depths_right}
use Rattle.sheetparts.specs.Ways.{depth_wanted}
use Rattle.sheetparts.proofs.depths_right.Goals as goal

pub returns : goal.returns
unfolding depth_at depths_right
returns c =
    every_ran (depth_at (map shown c.args.t.now) c.args.s.now c.args.d) c.args.n _ _ _ c.all.ensures.ran (λ x b q k. search (rules, depth_wanted))
