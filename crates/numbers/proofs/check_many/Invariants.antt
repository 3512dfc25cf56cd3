-- What is left of the row, from here on, gives the answer of the whole.
use Rattle.std.proofs.Common.{◌≤◌, ◌-◌, ◌<◌, ◌^◌}
use Rattle.numbers.specs.Rows.{Row}
use Rattle.numbers.proofs.check_many.Given as goal

abbrev pub invariant-loop : goal.invariant-loop
invariant-loop g l =
    (l.counter ≤ l.count) × (l.p < 2 ^ 64) × ((r : _) → Row (goal.F-post g l.one) (l.count - l.counter) l.p r → Row (goal.F-post g l.fn.one) l.fn.count l.fn.at r)
