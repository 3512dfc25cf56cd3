-- The indices before the present one have started again.
use Rattle.std.proofs.Common.{◌<◌, arith}
use Rattle.base.specs.ListLaws.{all_set, all_get_d}
use Rattle.choosing.specs.Steps.{carries_start, carries_end, carries_stop, carries_on}
use Rattle.choosing.proofs.advance.Goals as goal

pub loop-i-init : goal.loop-i-init
loop-i-init c = (carries_start c.args.nd c.args.idx.now, c.requires)

pub overflow_add-x : goal.overflow_add-x
overflow_add-x c = omega (arith, all_get_d (λ j. j < c.args.nd) c.loop-i.idx c.loop-i.i 0 (omega arith) c.loop-i.invariant.1)

pub returns-then-x-nd : goal.returns-then-x-nd
returns-then-x-nd c = (
  carries_stop c.args.nd c.args.idx.now c.loop-i.i c.loop-i.idx c.loop-i.invariant.0 (omega arith) c.if-x-nd.true,
  all_set (λ j. j < c.args.nd) c.loop-i.idx c.loop-i.i _ c.loop-i.invariant.1 c.if-x-nd.true,
)

pub loop-i-preserved : goal.loop-i-preserved
loop-i-preserved c =
    let b = all_get_d (λ j. j < c.args.nd) c.loop-i.idx c.loop-i.i 0 (omega arith) c.loop-i.invariant.1 in (
      carries_on c.args.nd c.args.idx.now c.loop-i.i c.loop-i.idx c.loop-i.invariant.0 (omega arith) c.if-x-nd.false,
      all_set (λ j. j < c.args.nd) c.loop-i.idx c.loop-i.i 0 c.loop-i.invariant.1 (omega (arith, b)),
    )

pub returns : goal.returns
returns c = (carries_end c.args.nd c.args.idx.now c.loop-i.i c.loop-i.idx c.loop-i.invariant.0 (omega arith), c.loop-i.invariant.1)
