-- One more byte is copied at the front of what is left of the output.
use Rattle.std.proofs.Common.{◌≡◌, ap, ◌∙◌, ◌++◌, arith, length, length-take-le, append-nil, take, drop, drop_of_length-le}
use Rattle.rules.specs.Image.{part}
use Rattle.takings.specs.Moves.{copied, copy_none, copy_more}
use Rattle.takings.proofs.copy_slot.Goals as goal

pub loop-j-init : goal.loop-j-init
loop-j-init c = copy_none c.args.pool.now c.args.a (take 2128 c.args.out.now)

pub overflow_add-to : goal.overflow_add-to
overflow_add-to c = omega (arith, length-take-le 2128 c.args.out.now c.requires.1)

pub bounds-pool-a : goal.bounds-pool-a
bounds-pool-a c = omega (arith, length-take-le 2128 c.args.out.now c.requires.1)

pub loop-j-preserved : goal.loop-j-preserved
loop-j-preserved c =
    let o = take 2128 c.args.out.now in
    let n : length o ≡ 2128 = length-take-le 2128 c.args.out.now c.requires.1 in
    rw c.loop-j.invariant (copy_more c.args.pool.now c.args.a c.loop-j.j o (omega arith) (omega arith))

pub returns : goal.returns
unfolding copied part
returns c =
    let o = take 2128 c.args.out.now in
    let p = take 2128 (drop c.args.a c.args.pool.now) in
    let n : length o ≡ 2128 = length-take-le 2128 c.args.out.now c.requires.1 in
    let e : c.loop-j.j ≡ 2128 = omega arith in
    rw (c.loop-j.invariant, e) (ap (λ l. (p ++ l) ++ drop 2128 c.args.out.now) (drop_of_length-le o {i = 2128} (omega arith)) ∙ ap (λ l. l ++ drop 2128 c.args.out.now) (append-nil p))
