-- The second side is looked up behind the first.
use Rattle.look.specs.Literals.{same_left, same_right, same_both}
use Rattle.look.proofs.same_observed.Goals as goal

pub returns-in_default : goal.returns-in_default
returns-in_default c = same_left c.args.s.now.book.now c.args.s.now.bytes.now c.args.at c.args.env.now c.args.t.now.keys.now c.args.t.now.facts.now c.args.t.now.domain.now c.requires.1 c.in_default.ensures.look

pub returns-in_default-look_term : goal.returns-in_default-look_term
returns-in_default-look_term c = same_right c.args.s.now.book.now c.args.s.now.bytes.now c.args.at c.args.env.now c.args.t.now.keys.now c.args.t.now.facts.now c.args.t.now.domain.now c.requires.1 c.in-Some.a c.in-Some.e c.in-Some.ensures.look c.in_default-look_term.ensures.look

pub returns : goal.returns
returns c = same_both c.args.s.now.book.now c.args.s.now.bytes.now c.args.at c.args.env.now c.args.t.now.keys.now c.args.t.now.facts.now c.args.t.now.domain.now c.requires.1 c.in-Some.a c.in-Some.e c.in-Some.ensures.look c.in-Some-look_term.b _ c.in-Some-look_term.ensures.look
