-- What is left of the literals after each turn.
use native.Mathlib.Omega.{arith}
use mathlib.Core.Path.{subst}
use Rattle.texts.specs.Names.{names_in}
use Rattle.mentions.specs.Nodes.{Mentions}
use Rattle.mentions.specs.Rows.{left_start, left_here, left_next, left_end}
use Rattle.mentions.proofs.mentioned.Goals as goal

pub loop-init : goal.loop-init
loop-init c = (omega arith, left_start (names_in c.args.s.now.book.now) c.args.s.now.bytes.now c.args.v c.args.at c.args.n)

pub returns-then-literal_mentions : goal.returns-then-literal_mentions
returns-then-literal_mentions c =
    left_here (names_in c.args.s.now.book.now) c.args.s.now.bytes.now c.args.v c.args.at c.args.n c.loop.counter c.loop.p c.loop.invariant.1 (omega arith) (subst (Mentions (names_in c.args.s.now.book.now) c.args.s.now.bytes.now c.args.v c.loop.p) c.if-literal_mentions.true c.literal_mentions.ensures)

pub loop-preserved : goal.loop-preserved
loop-preserved c =
    let q = c.skip_literal-p.ensures in
    (q.0.1, left_next (names_in c.args.s.now.book.now) c.args.s.now.bytes.now c.args.v c.args.at c.args.n c.loop.counter c.loop.p c.loop.invariant.1 (omega arith) _ (subst (Mentions (names_in c.args.s.now.book.now) c.args.s.now.bytes.now c.args.v c.loop.p) c.if-literal_mentions.false c.literal_mentions.ensures) q.1)

pub returns : goal.returns
returns c =
    left_end (names_in c.args.s.now.book.now) c.args.s.now.bytes.now c.args.v c.args.at c.args.n c.loop.counter c.loop.p c.loop.invariant.1 (omega arith)
