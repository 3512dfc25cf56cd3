-- The unread text falls. Each way out has its law.
use Rattle.std.specs.Prelude.{Some, None}
use Rattle.limits.specs.Limits.{limits_of}
use Rattle.enter.specs.Ways.{list_end, list_full, list_more, read_variable, read_constant, read_apply, term_short, term_leaf, term_gone, term_full, term_applied, term_unroomed}
use Rattle.enter.proofs.+enter_list_enter_term.Goals as goal

pub enter_list-returns-then-count-eq0-clause-enters : goal.enter_list-returns-then-count-eq0-clause-enters
enter_list-returns-then-count-eq0-clause-enters t c = list_end c.args.s.now.book.now c.args.s.now.bytes.now c.args.at c.args.count c.args.acc.number c.args.acc.weight (limits_of c.args.limits) c.args.env.now c.args.w.now c.if-count-eq0.true

pub enter_list-returns-in_err-v-clause-enters : goal.enter_list-returns-in_err-v-clause-enters
enter_list-returns-in_err-v-clause-enters t c = rw c.from_residual.ensures (list_full c.args.s.now.book.now c.args.s.now.bytes.now c.args.at c.args.count c.args.acc.number c.args.acc.weight (limits_of c.args.limits) c.args.env.now c.args.w.now c.if-count-eq0.false c.args.w.now c.in_err-v.ensures.enter)

pub enter_list-returns-clause-enters : goal.enter_list-returns-clause-enters
enter_list-returns-clause-enters t c =
    let i = rw (c.place.ensures.0, c.place.ensures.1) at c.enter_list.ensures.enters in
    list_more c.args.s.now.book.now c.args.s.now.bytes.now c.args.at c.args.count c.args.acc.number c.args.acc.weight (limits_of c.args.limits) c.args.env.now c.args.w.now c.if-count-eq0.false c.in_ok-v.v c.in_ok-v.e c.enter_list.result _ _ c.in_ok-v.ensures.enter i

pub enter_term-returns-in_err-i-clause-enter : goal.enter_term-returns-in_err-i-clause-enter
enter_term-returns-in_err-i-clause-enter t c =
    rw c.from_residual.ensures (term_short c.args.s.now.book.now c.args.s.now.bytes.now c.args.at (limits_of c.args.limits) c.args.env.now c.args.w.now c.args.w.now c.in_err-i.ensures)

pub enter_term-returns-in_err-enter_variable-in-Leaf-Variable-clause-enter : goal.enter_term-returns-in_err-enter_variable-in-Leaf-Variable-clause-enter
enter_term-returns-in_err-enter_variable-in-Leaf-Variable-clause-enter t c =
    let h = rw (c.in-Leaf-Variable.is, c.in-Leaf-Variable.field-0-is) at c.in_ok-i.ensures in
    rw c.from_residual-in_err-enter_variable-in-Leaf-Variable.ensures (term_gone c.args.s.now.book.now c.args.s.now.bytes.now c.args.at (limits_of c.args.limits) c.args.env.now c.args.w.now c.enter_variable.new.w (read_variable c.args.s.now.book.now c.args.s.now.bytes.now c.args.at (limits_of c.args.limits) c.args.env.now c.args.w.now c.in-Leaf-Variable.i h None c.enter_variable.new.w (rw c.in_err-enter_variable-in-Leaf-Variable.was at c.enter_variable.ensures.variable)))

pub enter_term-returns-in_ok-enter_variable-in-Leaf-Variable-clause-enter : goal.enter_term-returns-in_ok-enter_variable-in-Leaf-Variable-clause-enter
enter_term-returns-in_ok-enter_variable-in-Leaf-Variable-clause-enter t c =
    let h = rw (c.in-Leaf-Variable.is, c.in-Leaf-Variable.field-0-is) at c.in_ok-i.ensures in
    term_leaf c.args.s.now.book.now c.args.s.now.bytes.now c.args.at (limits_of c.args.limits) c.args.env.now c.args.w.now c.in_ok-enter_variable-in-Leaf-Variable.field-0 _ (read_variable c.args.s.now.book.now c.args.s.now.bytes.now c.args.at (limits_of c.args.limits) c.args.env.now c.args.w.now c.in-Leaf-Variable.i h (Some c.in_ok-enter_variable-in-Leaf-Variable.field-0) c.enter_variable.new.w (rw c.in_ok-enter_variable-in-Leaf-Variable.was at c.enter_variable.ensures.variable))

pub enter_term-returns-in_err-record_key-in-Leaf-Constant-clause-enter : goal.enter_term-returns-in_err-record_key-in-Leaf-Constant-clause-enter
enter_term-returns-in_err-record_key-in-Leaf-Constant-clause-enter t c =
    let h = rw (c.in-Leaf-Constant.is, c.in-Leaf-Constant.field-0-is) at c.in_ok-i.ensures in
    rw c.from_residual-in_err-record_key-in-Leaf-Constant.ensures (term_gone c.args.s.now.book.now c.args.s.now.bytes.now c.args.at (limits_of c.args.limits) c.args.env.now c.args.w.now c.record_key.new.w (read_constant c.args.s.now.book.now c.args.s.now.bytes.now c.args.at (limits_of c.args.limits) c.args.env.now c.args.w.now c.in-Leaf-Constant.c h _ None c.record_key.new.w c.begin-key.ensures.0 (rw c.in_err-record_key-in-Leaf-Constant.was at c.record_key.ensures)))

pub enter_term-returns-in_ok-record_key-in-Leaf-Constant-clause-enter : goal.enter_term-returns-in_ok-record_key-in-Leaf-Constant-clause-enter
enter_term-returns-in_ok-record_key-in-Leaf-Constant-clause-enter t c =
    let h = rw (c.in-Leaf-Constant.is, c.in-Leaf-Constant.field-0-is) at c.in_ok-i.ensures in
    term_leaf c.args.s.now.book.now c.args.s.now.bytes.now c.args.at (limits_of c.args.limits) c.args.env.now c.args.w.now c.in_ok-record_key-in-Leaf-Constant.field-0 _ (read_constant c.args.s.now.book.now c.args.s.now.bytes.now c.args.at (limits_of c.args.limits) c.args.env.now c.args.w.now c.in-Leaf-Constant.c h _ (Some c.in_ok-record_key-in-Leaf-Constant.field-0) c.record_key.new.w c.begin-key.ensures.0 (rw c.in_ok-record_key-in-Leaf-Constant.was at c.record_key.ensures))

pub enter_term-returns-in_err-p-in-Apply-clause-enter : goal.enter_term-returns-in_err-p-in-Apply-clause-enter
enter_term-returns-in_err-p-in-Apply-clause-enter t c =
    let h = rw c.in-Apply.is at c.in_ok-i.ensures in
    rw c.from_residual-in_err-p-in-Apply.ensures (term_full c.args.s.now.book.now c.args.s.now.bytes.now c.args.at (limits_of c.args.limits) c.args.env.now c.args.w.now c.in-Apply.f c.in-Apply.n _ (read_apply c.args.s.now.book.now c.args.s.now.bytes.now c.args.at (limits_of c.args.limits) c.args.env.now c.args.w.now c.in-Apply.f c.in-Apply.n h) c.enter_list.new.w c.in_err-p-in-Apply.ensures.enters)

pub enter_term-returns-in_err-record_key-in-Apply-clause-enter : goal.enter_term-returns-in_err-record_key-in-Apply-clause-enter
enter_term-returns-in_err-record_key-in-Apply-clause-enter t c =
    let h = rw c.in-Apply.is at c.in_ok-i.ensures in
    let i = rw (c.begin.ensures.0, c.begin.ensures.1) at c.in_ok-p-in-Apply.ensures.enters in
    rw c.from_residual-in_err-record_key-in-Apply.ensures (term_unroomed c.args.s.now.book.now c.args.s.now.bytes.now c.args.at (limits_of c.args.limits) c.args.env.now c.args.w.now c.in-Apply.f c.in-Apply.n _ (read_apply c.args.s.now.book.now c.args.s.now.bytes.now c.args.at (limits_of c.args.limits) c.args.env.now c.args.w.now c.in-Apply.f c.in-Apply.n h) c.in_ok-p-in-Apply.p c.in_ok-p-in-Apply.e _ _ i c.in_err-record_key-in-Apply.ensures)

pub enter_term-returns-in_ok-record_key-in-Apply-clause-enter : goal.enter_term-returns-in_ok-record_key-in-Apply-clause-enter
enter_term-returns-in_ok-record_key-in-Apply-clause-enter t c =
    let h = rw c.in-Apply.is at c.in_ok-i.ensures in
    let i = rw (c.begin.ensures.0, c.begin.ensures.1) at c.in_ok-p-in-Apply.ensures.enters in
    term_applied c.args.s.now.book.now c.args.s.now.bytes.now c.args.at (limits_of c.args.limits) c.args.env.now c.args.w.now c.in-Apply.f c.in-Apply.n _ (read_apply c.args.s.now.book.now c.args.s.now.bytes.now c.args.at (limits_of c.args.limits) c.args.env.now c.args.w.now c.in-Apply.f c.in-Apply.n h) c.in_ok-p-in-Apply.p c.in_ok-p-in-Apply.e _ _ i c.in_ok-record_key-in-Apply.field-0 c.in_ok-record_key-in-Apply.ensures
