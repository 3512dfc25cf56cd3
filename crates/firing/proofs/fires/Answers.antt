-- The body is tested first, then the head.
use Rattle.firing.specs.Loops.{fires_not, fires_if}
use Rattle.firing.proofs.fires.Goals as goal

pub returns-then-not-literals_observed-clause-fires : goal.returns-then-not-literals_observed-clause-fires
returns-then-not-literals_observed-clause-fires c =
    let o = rw (c.if-not-literals_observed.true, c.num16-n.ensures.0) at c.literals_observed.ensures in
    fires_not c.args.s.now.book.now c.args.s.now.bytes.now c.args.at c.args.env.now c.args.v c.args.t.now.keys.now c.args.t.now.facts.now c.args.t.now.domain.now c.requires.1.1.1 o

pub returns-clause-fires : goal.returns-clause-fires
returns-clause-fires c =
    let o = rw (c.if-not-literals_observed.false, c.num16-n.ensures.0) at c.literals_observed.ensures in
    let h = rw c.num16-k.ensures.0 at c.head_observed.ensures.head in
    fires_if c.args.s.now.book.now c.args.s.now.bytes.now c.args.at c.args.env.now c.args.v c.args.t.now.keys.now c.args.t.now.facts.now c.args.t.now.domain.now c.requires.1.1.1 c.requires.1.1.0 c.head_observed.result o h
