use mathlib.Core.Path.{sym}
use Rattle.std.specs.Prelude.{Err}
use Rattle.refusals.specs.Numbers.{passed_on}
use Rattle.telling.specs.Stays.{merged_sturdy, sturdy_orderly}
use Rattle.telling.specs.Ways.{literal_short, fact_full, fact_large, fact_put, same_full, same_full_2, same_merged}
use Rattle.telling.proofs.record_literal.Goals as goal

pub returns-in-None-clause-recorded : goal.returns-in-None-clause-recorded
returns-in-None-clause-recorded c = literal_short c.in-None.ensures (Err (record {})) c.args.w.now

pub returns-in_err-p-in-Some-Fact-clause-recorded : goal.returns-in_err-p-in-Some-Fact-clause-recorded
returns-in_err-p-in-Some-Fact-clause-recorded c =
    let h = rw c.in-Some-Fact.field-0-is at c.in-Some-Fact.ensures in
    let e = rw c.in_err-p-in-Some-Fact.ensures.ok_part at c.enter_list.ensures.enters in
    rw (passed_on _ _ c.from_residual.ensures.1) (fact_full h.0 (sym h.1.0.1.0) h.1.1.0 c.in_err-p-in-Some-Fact.field-0.0 c.enter_list.new.w e)

pub returns-then-p-ge-KEY_END-clause-recorded : goal.returns-then-p-ge-KEY_END-clause-recorded
returns-then-p-ge-KEY_END-clause-recorded c =
    let h = rw c.in-Some-Fact.field-0-is at c.in-Some-Fact.ensures in
    let e = rw (c.in_ok-p-in-Some-Fact.ensures.ok_part, c.begin-acc.ensures.0, c.begin-acc.ensures.1) at c.enter_list.ensures.enters in
    fact_large h.0 (sym h.1.0.1.0) h.1.1.0 e c.if-p-ge-KEY_END.true (Err (record {})) c.enter_list.new.w

pub returns-else-p-ge-KEY_END-clause-recorded : goal.returns-else-p-ge-KEY_END-clause-recorded
returns-else-p-ge-KEY_END-clause-recorded c =
    let h = rw c.in-Some-Fact.field-0-is at c.in-Some-Fact.ensures in
    let e = rw (c.in_ok-p-in-Some-Fact.ensures.ok_part, c.begin-acc.ensures.0, c.begin-acc.ensures.1) at c.enter_list.ensures.enters in
    fact_put h.0 (sym h.1.0.1.0) h.1.1.0 e c.put_fact.ensures

pub returns-in_err-a-in-Some-Same-clause-recorded : goal.returns-in_err-a-in-Some-Same-clause-recorded
returns-in_err-a-in-Some-Same-clause-recorded c =
    let e = rw c.in_err-a-in-Some-Same.ensures.ok_part at c.enter_term.ensures.enter in
    rw (passed_on _ _ c.from_residual-in_err-a-in-Some-Same.ensures.1) (same_full (rw c.in-Some-Same.field-0-is at c.in-Some-Same.ensures).1 c.in_err-a-in-Some-Same.field-0.0 c.enter_term.new.w e)

pub returns-in_err-b-in-Some-Same-clause-recorded : goal.returns-in_err-b-in-Some-Same-clause-recorded
returns-in_err-b-in-Some-Same-clause-recorded c =
    let e = rw c.in_ok-a-in-Some-Same.ensures.ok_part at c.enter_term.ensures.enter in
    let g = rw c.in_err-b-in-Some-Same.ensures.ok_part at c.enter_term-in-Some-Same.ensures.enter in
    rw (passed_on _ _ c.from_residual-in_err-b-in-Some-Same.ensures.1) (same_full_2 (rw c.in-Some-Same.field-0-is at c.in-Some-Same.ensures).1 e c.in_err-b-in-Some-Same.field-0.0 c.enter_term-in-Some-Same.new.w g)

pub merge-requires : goal.merge-requires
merge-requires c =
    let s = c.enter_term-in-Some-Same.ensures.sturdy in
    let e = rw c.in_ok-a-in-Some-Same.ensures.ok_part at c.enter_term.ensures.enter_good in
    let g = rw c.in_ok-b-in-Some-Same.ensures.ok_part at c.enter_term-in-Some-Same.ensures.enter_good in
    (s.formed, (sturdy_orderly _ _ s, (e.0, g.0)))

pub returns-in_ok-b-in-Some-Same-clause-sturdy : goal.returns-in_ok-b-in-Some-Same-clause-sturdy
returns-in_ok-b-in-Some-Same-clause-sturdy c =
    merged_sturdy _ c.in_ok-a-in-Some-Same.a c.in_ok-b-in-Some-Same.b _ _ c.enter_term-in-Some-Same.ensures.sturdy c.merge.ensures

pub returns-in_ok-b-in-Some-Same-clause-recorded : goal.returns-in_ok-b-in-Some-Same-clause-recorded
returns-in_ok-b-in-Some-Same-clause-recorded c =
    let e = rw c.in_ok-a-in-Some-Same.ensures.ok_part at c.enter_term.ensures.enter in
    let g = rw c.in_ok-b-in-Some-Same.ensures.ok_part at c.enter_term-in-Some-Same.ensures.enter in
    same_merged (rw c.in-Some-Same.field-0-is at c.in-Some-Same.ensures).1 e g c.merge.ensures tt
