use native.Mathlib.Omega.{arith}
use Rattle.limits.specs.Limits.{limits_of}
use Rattle.bound.specs.Bounds.{bound_is}
use Rattle.bound.specs.Admitted.{left_all, left_end, left_refused, left_more}
use Rattle.bound.proofs.admitted.Goals as goal

pub loop-init : goal.loop-init
loop-init c = record { within = c.requires.0; counted = omega arith; left = left_all c.args.s.now.book.now c.args.s.now.bytes.now c.args.at c.args.count (bound_is c.args.b) c.args.size (limits_of c.args.f.now.limits) c.args.env.now c.args.f.now.w.now c.args.f.now.tables.domain.now }

pub returns-in_default : goal.returns-in_default
returns-in_default c = left_refused c.args.s.now.book.now c.args.s.now.bytes.now c.args.at c.args.count (bound_is c.args.b) c.args.size (limits_of c.args.f.now.limits) c.args.env.now c.args.f.now.w.now c.args.f.now.tables.domain.now c.loop.counter c.loop.p c.loop.n c.loop.invariant.left (omega arith) c.in_default.ensures.asked

pub loop-preserved : goal.loop-preserved
loop-preserved c = record {
  within = c.in-Some.ensures.ask_good.0.1;
  counted = (let g = c.in-Some.ensures.ask_good in omega arith);
  left = left_more c.args.s.now.book.now c.args.s.now.bytes.now c.args.at c.args.count (bound_is c.args.b) c.args.size (limits_of c.args.f.now.limits) c.args.env.now c.args.f.now.w.now c.args.f.now.tables.domain.now c.loop.counter c.loop.p c.loop.n c.loop.invariant.left (omega arith) c.in-Some.e c.in-Some.more c.in-Some.ensures.asked;
}

pub returns : goal.returns
returns c = left_end c.args.s.now.book.now c.args.s.now.bytes.now c.args.at c.args.count (bound_is c.args.b) c.args.size (limits_of c.args.f.now.limits) c.args.env.now c.args.f.now.w.now c.args.f.now.tables.domain.now c.loop.counter c.loop.p c.loop.n c.loop.invariant.left (omega arith)
