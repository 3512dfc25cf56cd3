use Rattle.refusals.specs.Numbers.{passed_on}
use Rattle.telling.specs.Judging.{told_cut, told_seen, told_new, told_over}
use Rattle.telling.proofs.tell.Goals as goal

pub returns-in-Cut-clause-told : goal.returns-in-Cut-clause-told
returns-in-Cut-clause-told c = told_cut _ c.in-Cut.ensures

pub returns-in-Seen-clause-told : goal.returns-in-Seen-clause-told
returns-in-Seen-clause-told c = told_seen _ c.in-Seen.ensures

pub returns-in_err-record_literal-in-New-clause-told : goal.returns-in_err-record_literal-in-New-clause-told
returns-in_err-record_literal-in-New-clause-told c =
    rw (passed_on _ _ c.from_residual.ensures.1)
    (told_over _ c.in-New.ensures c.record_literal.new.w c.in_err-record_literal-in-New.field-0.0 c.in_err-record_literal-in-New.ensures.recorded)

pub returns-in_ok-record_literal-in-New-clause-told : goal.returns-in_ok-record_literal-in-New-clause-told
returns-in_ok-record_literal-in-New-clause-told c =
    told_new _ c.in-New.ensures _ c.in_ok-record_literal-in-New.field-0 c.in_ok-record_literal-in-New.ensures.recorded
