use Rattle.texts.specs.Names.{names_in}
use Rattle.mentions.specs.Nodes.{literal_short, literal_fact, literal_same}
use Rattle.mentions.proofs.literal_mentions.Goals as goal

pub returns-in-None : goal.returns-in-None
returns-in-None c =
    literal_short (names_in c.args.s.now.book.now) c.args.s.now.bytes.now c.args.v c.args.at c.in-None.ensures

pub returns-in-Some-Fact : goal.returns-in-Some-Fact
returns-in-Some-Fact c =
    let h = rw (c.in-Some-Fact.is, c.in-Some-Fact.field-0-is) at c.claim_at.ensures in
    literal_fact (names_in c.args.s.now.book.now) c.args.s.now.bytes.now c.args.v c.args.at _ c.skip_literal-e.ensures.1 h.0 _ c.span_has.ensures

pub returns-in-Some-Same : goal.returns-in-Some-Same
returns-in-Some-Same c =
    let h = rw (c.in-Some-Same.is, c.in-Some-Same.field-0-is) at c.claim_at.ensures in
    literal_same (names_in c.args.s.now.book.now) c.args.s.now.bytes.now c.args.v c.args.at _ c.skip_literal-e.ensures.1 h.1 _ c.span_has-in-Some-Same.ensures
