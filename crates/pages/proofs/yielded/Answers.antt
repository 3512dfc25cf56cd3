-- The keys' values, one after another.
use Rattle.std.proofs.Common.{◌∙◌, List, ℕ, get_or, eqb, rules, tests}
use Rattle.std.proofs.lemmas.Iterator.{YieldsList-from_slice}
use Rattle.std.proofs.lemmas.Iterator.Search.{any_from_yields_List}
use Rattle.pages.specs.Tables.{values_are}
use Rattle.pages.proofs.yielded.Goals as goal

pub returns : goal.returns
returns c =
    any_from_yields_List (λ (key : List ℕ). eqb (get_or key 7 0) c.args.element) _ _ c.any.result c.any.ensures.ran (YieldsList-from_slice c.args.keys.now c.iter.ensures.rest) (λ x b q k. search (rules, tests))
    ∙ values_are c.args.element c.args.keys.now
