-- The arguments are packed as the key of the fact, which is looked for among the facts.
use mathlib.Core.Path.{sym}
use Rattle.look.specs.Literals.{fact_missing, fact_held}
use Rattle.look.proofs.fact_observed.Goals as goal

pub returns-in-None : goal.returns-in-None
returns-in-None c =
    let h = c.requires in
    let i = rw (c.begin.ensures.0, c.begin.ensures.1) at c.in-None.ensures.args in
    fact_missing c.args.s.now.book.now c.args.s.now.bytes.now c.args.at c.args.env.now c.args.t.now.keys.now c.args.t.now.facts.now c.args.t.now.domain.now c.args.r c.args.n (sym h.1.0.1.0) h.1.1.0 i h.0

pub returns-in-Some : goal.returns-in-Some
returns-in-Some c =
    let h = c.requires in
    let i = rw (c.begin.ensures.0, c.begin.ensures.1) at c.in-Some.ensures.args in
    fact_held c.args.s.now.book.now c.args.s.now.bytes.now c.args.at c.args.env.now c.args.t.now.keys.now c.args.t.now.facts.now c.args.t.now.domain.now c.args.r c.args.n (sym h.1.0.1.0) h.1.1.0
    c.in-Some.p _ c.contains.result i c.contains.ensures h.0
