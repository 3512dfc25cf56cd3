-- One exit for each test, in the order of the definition.
use Rattle.std.proofs.Common.{◌≡◌, ◌&&◌, leb, true, false, le-leb, rules, arith}
use Rattle.base.specs.Branch.{if}
use Rattle.rules.specs.Reading.{ranged, and_then}
use Rattle.refusals.specs.Numbers.{passed_on}
use Rattle.numbers.specs.Answers.{outside}
use Rattle.numbers.proofs.read_ranged.Goals as goal

pub returns-in_err-x-clause-reads : goal.returns-in_err-x-clause-reads
unfolding ranged and_then
returns-in_err-x-clause-reads c = rw (passed_on _ _ c.from_residual.ensures.1, ← c.in_err-x.ensures)

pub returns-then-not-contains-clause-reads : goal.returns-then-not-contains-clause-reads
unfolding ranged and_then if
returns-then-not-contains-clause-reads c =
    let b : leb c.args.low c.in_ok-x.x && leb c.in_ok-x.x c.args.high ≡ false = outside c.args.low c.args.high c.in_ok-x.x (λ a b. grind (arith, c.if-not-contains.ensures.cases)) in
    rw (c.refuse.ensures, ← c.in_ok-x.ensures, b)

pub returns-clause-reads : goal.returns-clause-reads
unfolding ranged and_then if
returns-clause-reads c =
    let b : leb c.args.low c.in_ok-x.x && leb c.in_ok-x.x c.args.high ≡ true = rw (le-leb c.args.low c.in_ok-x.x (search rules), le-leb c.in_ok-x.x c.args.high (search rules)) in
    rw (← c.in_ok-x.ensures, b)
