use Rattle.refusals.specs.Numbers.{passed_on}
use Rattle.child.specs.Own.{own_cut, own_seen, own_new, own_over}
use Rattle.child.proofs.tell_own.Goals as goal

pub returns-in-Cut-clause-own : goal.returns-in-Cut-clause-own
returns-in-Cut-clause-own c = own_cut _ c.in-Cut.ensures

pub returns-in-Seen-clause-own : goal.returns-in-Seen-clause-own
returns-in-Seen-clause-own c = own_seen _ c.in-Seen.ensures

pub returns-in_err-record_own-in-New-clause-own : goal.returns-in_err-record_own-in-New-clause-own
returns-in_err-record_own-in-New-clause-own c =
    rw (passed_on _ _ c.from_residual.ensures.1)
    (own_over _ c.in-New.ensures c.record_own.new.w c.in_err-record_own-in-New.field-0.0 c.in_err-record_own-in-New.ensures.recorded)

pub returns-in_ok-record_own-in-New-clause-own : goal.returns-in_ok-record_own-in-New-clause-own
returns-in_ok-record_own-in-New-clause-own c =
    own_new _ c.in-New.ensures _ c.in_ok-record_own-in-New.field-0 c.in_ok-record_own-in-New.ensures.recorded
