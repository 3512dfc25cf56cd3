-- The children still to come are those that the definition has left; the chosen elements stay.
use native.Mathlib.Omega.{arith}
use mathlib.Core.Path.{◌∙◌}
use Rattle.bound.specs.Bounds.{bound_is}
use Rattle.limits.specs.Limits.{limits_of}
use Rattle.children.specs.Lent.{same_next, room_kept, elements_kept}
use Rattle.offspring.specs.One.{one_env}
use Rattle.offspring.specs.All.{placed_end, placed_next}
use Rattle.offspring.proofs.place_children.Goals as goal

pub place_one-requires : goal.place_one-requires
place_one-requires c =
    let i = c.loop.invariant in
    ((i.within, elements_kept c.args.p.now.chosen c.args.m.now.env.now c.loop.m.env.now i.lent.1.1 i.chosen c.requires.0.1, room_kept c.args.p.now.limits.keys c.args.p.now.base.now c.args.m.now c.loop.m i.lent c.requires.0.2), omega arith)

pub loop-preserved : goal.loop-preserved
loop-preserved c =
    let p = c.args.p.now in
    let i = c.loop.invariant in
    let one = one_env p.book.now c.loop.q p.chosen (bound_is p.bound) (limits_of p.limits) c.args.place c.loop.m.env.now c.args.m.now.env.now p.base.now c.args.slots c.loop.pool c.place_one.new.pool
    i.lent.1.1 i.chosen c.place_one.ensures.placed_one in
    record {
      lent = same_next c.args.m.now c.loop.m c.place_one.new.m i.lent c.place_one.ensures.lent;
      within = c.skip_disjunct-q.ensures.0.1;
      chosen = c.place_one.ensures.env_unchanged ∙ i.chosen;
      left = placed_next p.book.now c.args.at c.args.n p.chosen (bound_is p.bound) (limits_of p.limits) c.args.place c.args.m.now.env.now p.base.now c.args.slots c.args.pool.now c.loop.counter c.loop.q c.loop.pool i.left (omega arith) c.place_one.new.pool one c.skip_disjunct-q.result c.skip_disjunct-q.ensures.1;
    }

pub returns-clause-placed_all : goal.returns-clause-placed_all
returns-clause-placed_all c =
    let p = c.args.p.now in
    placed_end p.book.now c.args.at c.args.n p.chosen (bound_is p.bound) (limits_of p.limits) c.args.place c.args.m.now.env.now p.base.now c.args.slots c.args.pool.now c.loop.counter c.loop.q c.loop.pool c.loop.invariant.left (omega arith)
