-- The first that passes the test.
use mathlib.Core.Bool.{true, false}
use mathlib.Core.Path.{◌≡◌}
use borrow.Author.Rules.{rules}
use borrow.Author.Tests.{tests}
use Rattle.std.proofs.lemmas.Iterator.{first_from_Range}
use Rattle.base.specs.Lists.{mem}
use Rattle.lists.specs.Header.{in_use, lowest_found}
use Rattle.lists.proofs.lowest_free.Goals as goal

pub returns : goal.returns
returns c =
    lowest_found c.args.p.now c.args.n _ (first_from_Range _ _ _ c.find.result (λ i. false ≡ mem i (in_use c.args.p.now)) (λ i. true ≡ mem i (in_use c.args.p.now))
    c.find.ensures.ran (λ x q k. search (rules, tests)) (λ x q k. search (rules, tests)))
