-- The greatest of all that are left takes the last free place.
use Rattle.std.proofs.Common.{arith, refl}
use Rattle.renaming.specs.Bringing.{last_above, bringing_up, bringing_back, bringing_end}
use Rattle.renaming.proofs.bring_back.Goals as goal

pub overflow_sub-i-then-x-y : goal.overflow_sub-i-then-x-y
overflow_sub-i-then-x-y c = let h = last_above c.loop-j.table c.loop-j.i _ _ c.last_of-y.ensures c.if-x-y.true in omega (arith, h)

pub bounds-table-i : goal.bounds-table-i
bounds-table-i c = let h = last_above c.loop-j.table c.loop-j.i _ _ c.last_of-y.ensures c.if-x-y.true in omega (arith, h)

pub loop-j-smaller-then-x-y : goal.loop-j-smaller-then-x-y
loop-j-smaller-then-x-y c = let h = last_above c.loop-j.table c.loop-j.i _ _ c.last_of-y.ensures c.if-x-y.true in omega (arith, h)

pub loop-j-preserved-then-x-y : goal.loop-j-preserved-then-x-y
loop-j-preserved-then-x-y c =
    bringing_up c.args.table.now c.args.went.now c.requires.0 c.requires.1.0 c.requires.1.1 c.loop-j.i c.loop-j.j _ _ c.loop-j.table c.loop-j.invariant (omega arith) refl c.last_of-y.ensures c.if-x-y.true

pub loop-j-preserved : goal.loop-j-preserved
loop-j-preserved c =
    bringing_back c.args.table.now c.args.went.now c.requires.0 c.requires.1.0 c.requires.1.1 c.loop-j.i c.loop-j.j _ _ c.loop-j.table c.loop-j.invariant (omega arith) refl c.last_of-y.ensures c.if-x-y.false

pub returns : goal.returns
returns c = bringing_end c.args.table.now c.args.went.now c.requires.0 c.requires.1.0 c.requires.1.1 c.loop-j.i c.loop-j.j c.loop-j.table c.loop-j.invariant (omega arith)
