-- The form becomes the base's, the environment gets the origins' keys, and the child is made over both.
use Rattle.std.specs.Prelude.{Err}
use Rattle.limits.specs.Limits.{limits_of}
use Rattle.bound.specs.Bounds.{bound_is}
use Rattle.children.specs.Ways.{derive_short, derive_is}
use Rattle.children.proofs.derive_in.Goals as goal

pub returns-then-book-at-lt2-clause-derived : goal.returns-then-book-at-lt2-clause-derived
returns-then-book-at-lt2-clause-derived c =
    let p = c.args.p.now in
    derive_short p.book.now c.args.at p.chosen (bound_is p.bound) (limits_of p.limits) c.args.env.now p.base.now c.requires.1 (Err (record {})) c.copy_form.new.form c.if-book-at-lt2.true

pub returns-clause-derived : goal.returns-clause-derived
returns-clause-derived c =
    let p = c.args.p.now in
    derive_is p.book.now c.args.at p.chosen (bound_is p.bound) (limits_of p.limits) c.args.env.now p.base.now c.requires.1 c.num16-k.result c.num16-k.ensures.0 c.make_env.new.env c.make_env.result c.make_env.ensures.1.1 c.child.result _ c.child.new.w
    c.copy_form.ensures c.child.ensures.child
