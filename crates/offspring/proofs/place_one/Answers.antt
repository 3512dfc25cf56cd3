-- The child is made, and goes into the lowest free slot.
use native.Mathlib.Omega.{arith}
use Rattle.bound.specs.Bounds.{bound_is}
use Rattle.limits.specs.Limits.{limits_of}
use Rattle.offspring.specs.One.{one_over, one_full, one_placed}
use Rattle.offspring.proofs.place_one.Goals as goal

pub returns-in_default-clause-placed_one : goal.returns-in_default-clause-placed_one
returns-in_default-clause-placed_one c =
    let p = c.args.p.now in
    one_over p.book.now c.args.at p.chosen (bound_is p.bound) (limits_of p.limits) c.args.place c.args.m.now.env.now p.base.now c.args.slots c.args.pool.now
    c.in_default.field-0 c.derive.new.m.form.now c.in_default.ensures.derived

pub returns-in-Some-clause-placed_one : goal.returns-in-Some-clause-placed_one
returns-in-Some-clause-placed_one c =
    let p = c.args.p.now in
    one_placed p.book.now c.args.at p.chosen (bound_is p.bound) (limits_of p.limits) c.args.place c.args.m.now.env.now p.base.now c.args.slots c.args.pool.now
    c.in-Some.i (omega (arith, c.in-Some.ensures.0)) c.in-Some.ensures.1 c.in-Ok.cut _ c.in-Ok.ensures.derived _ c.place_child.ensures

pub returns-in_default-lowest_free-clause-placed_one : goal.returns-in_default-lowest_free-clause-placed_one
returns-in_default-lowest_free-clause-placed_one c =
    let p = c.args.p.now in
    one_full p.book.now c.args.at p.chosen (bound_is p.bound) (limits_of p.limits) c.args.place c.args.m.now.env.now p.base.now c.args.slots c.args.pool.now
    c.args.slots (omega arith) c.in_default-lowest_free.ensures (omega arith)
