-- The keys of the origins go into the environment, then the literals and the existentials are tested over it.
use mathlib.Core.Bool.{false}
use Rattle.firing.specs.Loops.{disjunct_short, disjunct_cut, disjunct_not, disjunct_is}
use Rattle.firing.proofs.disjunct_observed.Goals as goal

pub returns-then-s-at-lt2-clause-disjunct : goal.returns-then-s-at-lt2-clause-disjunct
returns-then-s-at-lt2-clause-disjunct c = disjunct_short c.args.s.now.book.now c.args.s.now.bytes.now c.args.at c.args.env.now c.args.v c.args.t.now.keys.now c.args.t.now.facts.now c.args.t.now.domain.now c.requires.1 false c.if-s-at-lt2.true

pub returns-then-s-middle-lt2-clause-disjunct : goal.returns-then-s-middle-lt2-clause-disjunct
returns-then-s-middle-lt2-clause-disjunct c = disjunct_cut c.args.s.now.book.now c.args.s.now.bytes.now c.args.at c.args.env.now c.args.v c.args.t.now.keys.now c.args.t.now.facts.now c.args.t.now.domain.now c.requires.1 c.num16-k.result c.num16-k.ensures.0 c.make_env-middle.new.env c.make_env-middle.result c.make_env-middle.ensures.1.1 false c.if-s-middle-lt2.true

pub returns-then-literals_observed-clause-disjunct : goal.returns-then-literals_observed-clause-disjunct
returns-then-literals_observed-clause-disjunct c =
    let o = rw (c.if-literals_observed.true, c.num16-n.ensures.0) at c.literals_observed.ensures in
    disjunct_is c.args.s.now.book.now c.args.s.now.bytes.now c.args.at c.args.env.now c.args.v c.args.t.now.keys.now c.args.t.now.facts.now c.args.t.now.domain.now c.requires.1 c.num16-k.result c.num16-k.ensures.0 c.make_env-middle.new.env c.make_env-middle.result c.make_env-middle.ensures.1.1 c.have_elements.result o c.have_elements.ensures

pub returns-else-literals_observed-clause-disjunct : goal.returns-else-literals_observed-clause-disjunct
returns-else-literals_observed-clause-disjunct c =
    let o = rw (c.if-literals_observed.false, c.num16-n.ensures.0) at c.literals_observed.ensures in
    rw c.if-literals_observed.false (disjunct_not c.args.s.now.book.now c.args.s.now.bytes.now c.args.at c.args.env.now c.args.v c.args.t.now.keys.now c.args.t.now.facts.now c.args.t.now.domain.now c.requires.1 c.num16-k.result c.num16-k.ensures.0 c.make_env-middle.new.env c.make_env-middle.result c.make_env-middle.ensures.1.1 o)
