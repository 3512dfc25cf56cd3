use mathlib.Core.Path.{sym}
use Rattle.child.specs.Own.{judged_seen, judged_new, judged_cut, judged_cut_2}
use Rattle.child.proofs.judge_own.Goals.{else-admits-via-then-admits+else-admits-2, else-admits-via-else-admits}
use Rattle.child.proofs.judge_own.Goals as goal

pub tables_of-t-requires : goal.tables_of-t-requires
tables_of-t-requires c =
    let s = c.requires.1 in
    (record { formed = s.formed; keys_rise = s.rising; facts_rise = s.held }, c.requires.0)

pub returns-then-is_some : goal.returns-then-is_some
returns-then-is_some c = judged_seen _ c.tables_of-t.ensures c.look_variable.ensures.0 (sym c.if-is_some.ensures)

pub returns-then-admits-2 : goal.returns-then-admits-2
returns-then-admits-2 c = judged_new _ c.tables_of-t.ensures c.look_variable.ensures.0 (sym c.if-is_some.ensures) c.depth_variable-d.ensures.1 c.admits.ensures c.if-admits.true c.admits-then-admits.ensures c.if-admits-2.true

pub returns : goal.returns
returns c =
    elim c.else-admits.branch [
      | else-admits-via-then-admits+else-admits-2 w ↦ judged_cut_2 _ c.tables_of-t.ensures c.look_variable.ensures.0 (sym c.if-is_some.ensures) c.depth_variable-d.ensures.1 c.admits.ensures w.if-admits.true w.admits-then-admits.ensures w.if-admits-2.false
      | else-admits-via-else-admits w ↦ judged_cut _ c.tables_of-t.ensures c.look_variable.ensures.0 (sym c.if-is_some.ensures) c.depth_variable-d.ensures.1 c.admits.ensures w.if-admits.false
    ]
