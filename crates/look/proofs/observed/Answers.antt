use Rattle.look.specs.Literals.{literal_short}
use Rattle.look.proofs.observed.Goals as goal

pub returns-in-None : goal.returns-in-None
returns-in-None c = literal_short c.args.s.now.book.now c.args.s.now.bytes.now c.args.at c.args.env.now c.args.t.now.keys.now c.args.t.now.facts.now c.args.t.now.domain.now c.in-None.ensures
