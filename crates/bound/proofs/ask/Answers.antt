use Rattle.limits.specs.Limits.{limits_of}
use Rattle.bound.specs.Bounds.{bound_is}
use Rattle.bound.specs.Admitted.{ask_known, ask_short, ask_refused, ask_new}
use Rattle.bound.proofs.ask.Goals as goal

pub returns-in-Some-clause-asked : goal.returns-in-Some-clause-asked
returns-in-Some-clause-asked c = ask_known c.args.s.now.book.now c.args.s.now.bytes.now c.args.at (bound_is c.args.b) c.args.size (limits_of c.args.f.now.limits) c.args.env.now c.args.f.now.w.now c.args.f.now.tables.domain.now _ c.in-Some.e (rw c.args.f.now.keys_are at c.in-Some.ensures.look)

pub returns-in_err-d-clause-asked : goal.returns-in_err-d-clause-asked
returns-in_err-d-clause-asked c =
    rw c.from_residual.ensures (ask_short c.args.s.now.book.now c.args.s.now.bytes.now c.args.at (bound_is c.args.b) c.args.size (limits_of c.args.f.now.limits) c.args.env.now c.args.f.now.w.now c.args.f.now.tables.domain.now (rw c.args.f.now.keys_are at c.in_default.ensures.look) c.in_err-d.ensures.depth)

pub returns-then-admits-clause-asked : goal.returns-then-admits-clause-asked
returns-then-admits-clause-asked c =
    ask_new c.args.s.now.book.now c.args.s.now.bytes.now c.args.at (bound_is c.args.b) c.args.size (limits_of c.args.f.now.limits) c.args.env.now c.args.f.now.w.now c.args.f.now.tables.domain.now (rw c.args.f.now.keys_are at c.in_default.ensures.look) c.in_ok-d.d c.in_ok-d.e c.in_ok-d.ensures.depth c.if-admits.ensures

pub returns-clause-asked : goal.returns-clause-asked
returns-clause-asked c =
    ask_refused c.args.s.now.book.now c.args.s.now.bytes.now c.args.at (bound_is c.args.b) c.args.size (limits_of c.args.f.now.limits) c.args.env.now c.args.f.now.w.now c.args.f.now.tables.domain.now (rw c.args.f.now.keys_are at c.in_default.ensures.look) c.in_ok-d.d c.in_ok-d.e c.in_ok-d.ensures.depth c.if-admits.ensures
