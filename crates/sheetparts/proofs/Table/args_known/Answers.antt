-- Each of the numbers is tested.
use mathlib.Core.Path.{ap, ◌∙◌}
use Rattle.std.specs.Prelude.{map}
use borrow.Author.Rules.{rules}
use Rattle.sheetparts.specs.Loops.{every}
use Rattle.sheetparts.specs.Ran.{every_ran}
use Rattle.sheetparts.specs.Tests.{shown, known_at, args_known}
use Rattle.sheetparts.proofs.Table.args_known.Goals as goal

pub returns : goal.returns
unfolding known_at args_known
returns c =
    every_ran (known_at (map shown c.args.self.now.t.now) c.args.s.now c.args.at) _ _ _ _ c.all.ensures.ran (λ x b q k. search rules)
    ∙ ap (every (known_at (map shown c.args.self.now.t.now) c.args.s.now c.args.at) 0) c.byte-n.ensures.0
