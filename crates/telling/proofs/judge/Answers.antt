use Rattle.telling.specs.Judging.{judged_cut, judged_seen, judged_new}
use Rattle.telling.proofs.judge.Goals as goal

pub tables_of-tables-requires : goal.tables_of-tables-requires
tables_of-tables-requires c =
    let s = c.requires.1.1 in
    (record { formed = s.formed; keys_rise = s.rising; facts_rise = s.held }, c.requires.1.0)

pub returns-then-not-allowed : goal.returns-then-not-allowed
returns-then-not-allowed c = judged_cut _ c.tables_of-tables.ensures c.allowed.ensures c.if-not-allowed.true

pub returns-then-observed : goal.returns-then-observed
returns-then-observed c = judged_seen _ c.tables_of-tables.ensures c.allowed.ensures c.observed.ensures c.if-not-allowed.false c.if-observed.true

pub returns : goal.returns
returns c = judged_new _ c.tables_of-tables.ensures c.allowed.ensures c.observed.ensures c.if-not-allowed.false c.if-observed.false
