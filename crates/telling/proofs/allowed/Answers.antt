use mathlib.Core.Path.{sym}
use Rattle.telling.specs.Judging.{allowed_short, allowed_fact, allowed_same}
use Rattle.telling.proofs.allowed.Goals as goal

pub returns-in-None : goal.returns-in-None
returns-in-None c = allowed_short _ _ c.in-None.ensures

pub returns-in-Some-Fact : goal.returns-in-Some-Fact
returns-in-Some-Fact c =
    let h = rw c.in-Some-Fact.field-0-is at c.in-Some-Fact.ensures in
    allowed_fact _ _ h.0 (sym h.1.0.1.0) h.1.1.0 c.admitted.ensures

pub returns-in-Some-Same : goal.returns-in-Some-Same
returns-in-Some-Same c = allowed_same _ _ (rw c.in-Some-Same.field-0-is at c.in-Some-Same.ensures).1 c.admitted-in-Some-Same.ensures
