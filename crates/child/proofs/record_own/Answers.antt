use Rattle.refusals.specs.Numbers.{passed_on}
use Rattle.telling.specs.Stays.{merged_sturdy, sturdy_orderly}
use Rattle.child.specs.Own.{own_full, own_full_2, own_merged}
use Rattle.child.proofs.record_own.Goals as goal

pub returns-in_err-x-clause-recorded : goal.returns-in_err-x-clause-recorded
returns-in_err-x-clause-recorded c =
    let e = rw c.in_err-x.ensures.ok_part at c.enter_variable.ensures.variable in
    rw (passed_on _ _ c.from_residual.ensures.1) (own_full c.enter_variable.new.w c.in_err-x.field-0.0 e)

pub returns-in_err-y-clause-recorded : goal.returns-in_err-y-clause-recorded
returns-in_err-y-clause-recorded c =
    let e = rw c.in_ok-x.ensures.ok_part at c.enter_variable.ensures.variable in
    let g = rw c.in_err-y.ensures.ok_part at c.enter_variable-2.ensures.variable in
    rw (passed_on _ _ c.from_residual-in_err-y.ensures.1) (own_full_2 _ c.enter_variable-2.new.w e c.in_err-y.field-0.0 g)

pub merge-requires : goal.merge-requires
merge-requires c =
    let s = c.enter_variable-2.ensures.sturdy in
    let e = rw c.in_ok-x.ensures.ok_part at c.enter_variable.ensures.octets in
    let g = rw c.in_ok-y.ensures.ok_part at c.enter_variable-2.ensures.octets in
    (s.formed, (sturdy_orderly _ _ s, (e, g)))

pub returns-clause-sturdy : goal.returns-clause-sturdy
returns-clause-sturdy c = merged_sturdy _ c.in_ok-x.x c.in_ok-y.y _ _ c.enter_variable-2.ensures.sturdy c.merge.ensures

pub returns-clause-recorded : goal.returns-clause-recorded
returns-clause-recorded c =
    let e = rw c.in_ok-x.ensures.ok_part at c.enter_variable.ensures.variable in
    let g = rw c.in_ok-y.ensures.ok_part at c.enter_variable-2.ensures.variable in
    own_merged _ _ e g c.merge.ensures tt
