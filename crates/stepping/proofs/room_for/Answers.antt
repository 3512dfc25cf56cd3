use native.Mathlib.Omega.{arith}
use Rattle.stepping.specs.Heads.{room_slots, room_numbers, room_is}
use Rattle.stepping.proofs.room_for.Goals as goal

pub returns-then-slots-used : goal.returns-then-slots-used
returns-then-slots-used c =
    room_slots c.args.pool.now c.args.n (omega (arith, c.if-slots-used.true))

pub returns-then-next_number-n-gt65536 : goal.returns-then-next_number-n-gt65536
returns-then-next_number-n-gt65536 c =
    room_numbers c.args.pool.now c.args.n (omega (arith, c.if-slots-used.false)) (omega (arith, c.if-next_number-n-gt65536.true, c.next_number.ensures.0))

pub returns : goal.returns
returns c =
    room_is c.args.pool.now c.args.n (omega (arith, c.if-slots-used.false)) (omega (arith, c.if-next_number-n-gt65536.false, c.next_number.ensures.0))
