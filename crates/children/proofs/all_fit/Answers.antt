-- The disjuncts still to come have the answer of all; the chosen elements stay.
use native.Mathlib.Omega.{arith}
use mathlib.Core.Path.{◌∙◌}
use Rattle.std.specs.Prelude.{Ok, Err}
use Rattle.limits.specs.Limits.{limits_of}
use Rattle.bound.specs.Bounds.{bound_is}
use Rattle.refusals.specs.Numbers.{passed_on}
use Rattle.children.specs.Lent.{same_next, room_kept, elements_kept}
use Rattle.children.specs.Ways.{derive_env, over_stop, over_next, over_end}
use Rattle.children.proofs.all_fit.Goals as goal

pub derive-requires : goal.derive-requires
derive-requires c =
    let i = c.loop.invariant in
    (i.within, elements_kept c.args.p.now.chosen c.args.m.now.env.now c.loop.m.env.now i.lent.1.1 i.chosen c.requires.1, room_kept c.args.p.now.limits.keys c.args.p.now.base.now c.args.m.now c.loop.m i.lent c.requires.2)

pub returns-in_err-derive-clause-lent : goal.returns-in_err-derive-clause-lent
returns-in_err-derive-clause-lent c = same_next c.args.m.now c.loop.m c.derive.new.m c.loop.invariant.lent c.in_err-derive.ensures.lent

pub returns-in_err-derive-clause-any_over : goal.returns-in_err-derive-clause-any_over
returns-in_err-derive-clause-any_over c =
    let p = c.args.p.now in
    let i = c.loop.invariant in
    rw (passed_on _ _ c.from_residual.ensures.1) (over_stop p.book.now c.args.at c.args.n p.chosen (bound_is p.bound) (limits_of p.limits) c.args.m.now.env.now p.base.now c.loop.counter c.loop.q i.left c.loop-test.true c.derive.new.m.form.now c.in_err-derive.field-0.0
    (derive_env p.book.now c.loop.q p.chosen (bound_is p.bound) (limits_of p.limits) c.loop.m.env.now c.args.m.now.env.now p.base.now (Err c.in_err-derive.field-0.0) c.derive.new.m.form.now i.lent.1.1 i.chosen c.in_err-derive.ensures.derived))

pub loop-preserved : goal.loop-preserved
loop-preserved c =
    let p = c.args.p.now in
    let i = c.loop.invariant in
    record {
      lent = same_next c.args.m.now c.loop.m c.derive.new.m i.lent c.in_ok-derive.ensures.lent;
      within = c.skip_disjunct-q.ensures.0.1;
      chosen = c.in_ok-derive.ensures.env_unchanged ∙ i.chosen;
      left = over_next p.book.now c.args.at c.args.n p.chosen (bound_is p.bound) (limits_of p.limits) c.args.m.now.env.now p.base.now c.loop.counter c.loop.q i.left c.loop-test.true c.derive.new.m.form.now c.in_ok-derive.field-0
          (derive_env p.book.now c.loop.q p.chosen (bound_is p.bound) (limits_of p.limits) c.loop.m.env.now c.args.m.now.env.now p.base.now (Ok c.in_ok-derive.field-0) c.derive.new.m.form.now i.lent.1.1 i.chosen c.in_ok-derive.ensures.derived) c.skip_disjunct-q.result c.skip_disjunct-q.ensures.1;
    }

pub returns-clause-any_over : goal.returns-clause-any_over
returns-clause-any_over c =
    let p = c.args.p.now in
    over_end p.book.now c.args.at c.args.n p.chosen (bound_is p.bound) (limits_of p.limits) c.args.m.now.env.now p.base.now c.loop.counter c.loop.q c.loop.invariant.left (omega arith)
