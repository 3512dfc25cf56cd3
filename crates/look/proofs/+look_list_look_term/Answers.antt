-- The unread text falls: a list calls a term at its own place, and a term a list further on. Each way out has its law.
use mathlib.Core.Path.{ap, ◌∙◌}
use Rattle.tables.specs.Table.{option_of, look_in}
use Rattle.look.specs.Ways.{list_end, list_missing, list_more, read_variable, read_constant, read_apply, term_short, term_leaf, term_gone, term_missing, term_apply, term_unknown}
use Rattle.look.proofs.+look_list_look_term.Goals as goal

pub look_list-returns-then-count-eq0-clause-args : goal.look_list-returns-then-count-eq0-clause-args
look_list-returns-then-count-eq0-clause-args t c = list_end c.args.s.now.book.now c.args.s.now.bytes.now c.args.at c.args.acc.number c.args.acc.weight c.args.count c.args.env.now c.args.t.now.keys.now c.args.t.now.domain.now c.if-count-eq0.true

pub look_list-returns-in_err-v-clause-args : goal.look_list-returns-in_err-v-clause-args
look_list-returns-in_err-v-clause-args t c = rw c.from_residual.ensures (list_missing c.args.s.now.book.now c.args.s.now.bytes.now c.args.at c.args.acc.number c.args.acc.weight c.args.count c.args.env.now c.args.t.now.keys.now c.args.t.now.domain.now c.if-count-eq0.false c.in_err-v.ensures.look)

pub look_list-returns-clause-args : goal.look_list-returns-clause-args
look_list-returns-clause-args t c =
    let i = rw (c.place.ensures.0, c.place.ensures.1) at c.look_list.ensures.args in
    list_more c.args.s.now.book.now c.args.s.now.bytes.now c.args.at c.args.acc.number c.args.acc.weight c.args.count c.args.env.now c.args.t.now.keys.now c.args.t.now.domain.now c.if-count-eq0.false c.in_ok-v.v c.in_ok-v.e c.look_list.result c.in_ok-v.ensures.look i

pub look_term-returns-in_err-i-clause-look : goal.look_term-returns-in_err-i-clause-look
look_term-returns-in_err-i-clause-look t c =
    rw c.from_residual.ensures (term_short c.args.s.now.book.now c.args.s.now.bytes.now c.args.at c.args.env.now c.args.t.now.keys.now c.args.t.now.domain.now c.in_err-i.ensures)

pub look_term-returns-in_err-look_variable-in-Leaf-Variable-clause-look : goal.look_term-returns-in_err-look_variable-in-Leaf-Variable-clause-look
look_term-returns-in_err-look_variable-in-Leaf-Variable-clause-look t c =
    let h = rw (c.in-Leaf-Variable.is, c.in-Leaf-Variable.field-0-is) at c.in_ok-i.ensures in
    let v = rw c.in_err-look_variable-in-Leaf-Variable.was at c.look_variable.ensures.0 in
    rw c.from_residual-in_err-look_variable-in-Leaf-Variable.ensures (term_gone c.args.s.now.book.now c.args.s.now.bytes.now c.args.at c.args.env.now c.args.t.now.keys.now c.args.t.now.domain.now (read_variable c.args.s.now.book.now c.args.s.now.bytes.now c.args.at c.args.env.now c.args.t.now.keys.now c.args.t.now.domain.now c.in-Leaf-Variable.i h _ v))

pub look_term-returns-in_ok-look_variable-in-Leaf-Variable-clause-look : goal.look_term-returns-in_ok-look_variable-in-Leaf-Variable-clause-look
look_term-returns-in_ok-look_variable-in-Leaf-Variable-clause-look t c =
    let h = rw (c.in-Leaf-Variable.is, c.in-Leaf-Variable.field-0-is) at c.in_ok-i.ensures in
    let v = rw c.in_ok-look_variable-in-Leaf-Variable.was at c.look_variable.ensures.0 in
    term_leaf c.args.s.now.book.now c.args.s.now.bytes.now c.args.at c.args.env.now c.args.t.now.keys.now c.args.t.now.domain.now c.in_ok-look_variable-in-Leaf-Variable.field-0 (read_variable c.args.s.now.book.now c.args.s.now.bytes.now c.args.at c.args.env.now c.args.t.now.keys.now c.args.t.now.domain.now c.in-Leaf-Variable.i h _ v)

pub look_term-returns-in_err-look-in-Leaf-Constant-clause-look : goal.look_term-returns-in_err-look-in-Leaf-Constant-clause-look
look_term-returns-in_err-look-in-Leaf-Constant-clause-look t c =
    let h = rw (c.in-Leaf-Constant.is, c.in-Leaf-Constant.field-0-is) at c.in_ok-i.ensures in
    let v = c.look.ensures.0 ∙ ap (λ q. option_of (look_in q c.args.t.now.keys.now)) c.begin-key.ensures.0 in
    rw c.from_residual-in_err-look-in-Leaf-Constant.ensures (term_gone c.args.s.now.book.now c.args.s.now.bytes.now c.args.at c.args.env.now c.args.t.now.keys.now c.args.t.now.domain.now (read_constant c.args.s.now.book.now c.args.s.now.bytes.now c.args.at c.args.env.now c.args.t.now.keys.now c.args.t.now.domain.now c.in-Leaf-Constant.c h _ (rw c.in_err-look-in-Leaf-Constant.was at v)))

pub look_term-returns-in_ok-look-in-Leaf-Constant-clause-look : goal.look_term-returns-in_ok-look-in-Leaf-Constant-clause-look
look_term-returns-in_ok-look-in-Leaf-Constant-clause-look t c =
    let h = rw (c.in-Leaf-Constant.is, c.in-Leaf-Constant.field-0-is) at c.in_ok-i.ensures in
    let v = c.look.ensures.0 ∙ ap (λ q. option_of (look_in q c.args.t.now.keys.now)) c.begin-key.ensures.0 in
    term_leaf c.args.s.now.book.now c.args.s.now.bytes.now c.args.at c.args.env.now c.args.t.now.keys.now c.args.t.now.domain.now c.in_ok-look-in-Leaf-Constant.field-0 (read_constant c.args.s.now.book.now c.args.s.now.bytes.now c.args.at c.args.env.now c.args.t.now.keys.now c.args.t.now.domain.now c.in-Leaf-Constant.c h _ (rw c.in_ok-look-in-Leaf-Constant.was at v))

pub look_term-returns-in_err-p-in-Apply-clause-look : goal.look_term-returns-in_err-p-in-Apply-clause-look
look_term-returns-in_err-p-in-Apply-clause-look t c =
    let h = rw c.in-Apply.is at c.in_ok-i.ensures in
    let i = rw (c.begin.ensures.0, c.begin.ensures.1) at c.in_err-p-in-Apply.ensures.args in
    rw c.from_residual-in_err-p-in-Apply.ensures (term_missing c.args.s.now.book.now c.args.s.now.bytes.now c.args.at c.args.env.now c.args.t.now.keys.now c.args.t.now.domain.now c.in-Apply.f c.in-Apply.n (read_apply c.args.s.now.book.now c.args.s.now.bytes.now c.args.at c.args.env.now c.args.t.now.keys.now c.args.t.now.domain.now c.in-Apply.f c.in-Apply.n h) i)

pub look_term-returns-in_err-look-in-Apply-clause-look : goal.look_term-returns-in_err-look-in-Apply-clause-look
look_term-returns-in_err-look-in-Apply-clause-look t c =
    let h = rw c.in-Apply.is at c.in_ok-i.ensures in
    let i = rw (c.begin.ensures.0, c.begin.ensures.1) at c.in_ok-p-in-Apply.ensures.args in
    rw c.from_residual-in_err-look-in-Apply.ensures (term_unknown c.args.s.now.book.now c.args.s.now.bytes.now c.args.at c.args.env.now c.args.t.now.keys.now c.args.t.now.domain.now c.in-Apply.f c.in-Apply.n (read_apply c.args.s.now.book.now c.args.s.now.bytes.now c.args.at c.args.env.now c.args.t.now.keys.now c.args.t.now.domain.now c.in-Apply.f c.in-Apply.n h) c.in_ok-p-in-Apply.p c.in_ok-p-in-Apply.e i c.in_err-look-in-Apply.ensures.0)

pub look_term-returns-in_ok-look-in-Apply-clause-look : goal.look_term-returns-in_ok-look-in-Apply-clause-look
look_term-returns-in_ok-look-in-Apply-clause-look t c =
    let h = rw c.in-Apply.is at c.in_ok-i.ensures in
    let i = rw (c.begin.ensures.0, c.begin.ensures.1) at c.in_ok-p-in-Apply.ensures.args in
    term_apply c.args.s.now.book.now c.args.s.now.bytes.now c.args.at c.args.env.now c.args.t.now.keys.now c.args.t.now.domain.now c.in-Apply.f c.in-Apply.n (read_apply c.args.s.now.book.now c.args.s.now.bytes.now c.args.at c.args.env.now c.args.t.now.keys.now c.args.t.now.domain.now c.in-Apply.f c.in-Apply.n h) c.in_ok-p-in-Apply.p c.in_ok-p-in-Apply.e i c.in_ok-look-in-Apply.field-0 c.in_ok-look-in-Apply.ensures.0
