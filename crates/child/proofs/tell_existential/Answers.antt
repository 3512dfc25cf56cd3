use Rattle.child.specs.Owns.{existential_there, existential_told}
use Rattle.child.proofs.tell_existential.Goals as goal

pub returns-then-mentioned-clause-existential : goal.returns-then-mentioned-clause-existential
returns-then-mentioned-clause-existential c = existential_there _ c.mentioned.ensures c.if-mentioned.true

pub returns-clause-existential : goal.returns-clause-existential
returns-clause-existential c = existential_told _ c.mentioned.ensures c.if-mentioned.false _ _ c.tell_own.ensures.own
