use borrow.Author.Tests.{eq-eqb, ne_eqb}
use Rattle.base.specs.Branch.{if}
use Rattle.rules.specs.Merge.{rename}
use Rattle.packing.proofs.Replacement.renamed.Goals as goal

pub returns-then-e-self : goal.returns-then-e-self
unfolding rename if
returns-then-e-self c = search eq-eqb

pub returns-else-e-self : goal.returns-else-e-self
unfolding rename if
returns-else-e-self c = search ne_eqb
