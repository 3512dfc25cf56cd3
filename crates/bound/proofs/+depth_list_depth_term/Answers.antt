use mathlib.Core.Path.{ap}
use Prim.Native.Nat.{◌%◌}
use Rattle.limits.specs.Limits.{limits_of}
use Rattle.bound.specs.Ways.{read_variable, read_constant, read_apply, list_end, list_short, list_stopped, list_more, term_known, term_short, term_leaf, term_apply}
use Rattle.bound.proofs.+depth_list_depth_term.Goals as goal

pub depth_list-returns-then-count-eq0-clause-depths : goal.depth_list-returns-then-count-eq0-clause-depths
depth_list-returns-then-count-eq0-clause-depths t c = list_end c.args.s.now.book.now c.args.s.now.bytes.now c.args.at c.args.count (limits_of c.args.f.now.limits) c.args.env.now c.args.f.now.w.now c.args.f.now.tables.domain.now c.if-count-eq0.true

pub depth_list-returns-in_err-d-clause-depths : goal.depth_list-returns-in_err-d-clause-depths
depth_list-returns-in_err-d-clause-depths t c = rw c.from_residual.ensures (list_short c.args.s.now.book.now c.args.s.now.bytes.now c.args.at c.args.count (limits_of c.args.f.now.limits) c.args.env.now c.args.f.now.w.now c.args.f.now.tables.domain.now c.if-count-eq0.false c.in_err-d.ensures.depth)

pub depth_list-returns-in_err-r-clause-depths : goal.depth_list-returns-in_err-r-clause-depths
depth_list-returns-in_err-r-clause-depths t c =
    rw c.from_residual-in_err-r.ensures (list_stopped c.args.s.now.book.now c.args.s.now.bytes.now c.args.at c.args.count (limits_of c.args.f.now.limits) c.args.env.now c.args.f.now.w.now c.args.f.now.tables.domain.now c.if-count-eq0.false c.in_ok-d.d c.in_ok-d.e c.in_ok-d.ensures.depth c.in_err-r.ensures.depths)

pub depth_list-returns-clause-depths : goal.depth_list-returns-clause-depths
depth_list-returns-clause-depths t c =
    list_more c.args.s.now.book.now c.args.s.now.bytes.now c.args.at c.args.count (limits_of c.args.f.now.limits) c.args.env.now c.args.f.now.w.now c.args.f.now.tables.domain.now c.if-count-eq0.false c.in_ok-d.d c.in_ok-d.e c.in_ok-d.ensures.depth c.in_ok-r.r c.in_ok-r.g c.max.result c.in_ok-r.ensures.depths c.max.ensures

pub depth_term-returns-in-Some-clause-depth : goal.depth_term-returns-in-Some-clause-depth
depth_term-returns-in-Some-clause-depth t c =
    term_known c.args.s.now.book.now c.args.s.now.bytes.now c.args.at (limits_of c.args.f.now.limits) c.args.env.now c.args.f.now.w.now c.args.f.now.tables.domain.now c.in-Some.v c.in-Some.e _ (rw c.args.f.now.keys_are at c.in-Some.ensures.look) (ap (λ n. n % 65536) c.depth_at.ensures)

pub depth_term-returns-in_err-i-clause-depth : goal.depth_term-returns-in_err-i-clause-depth
depth_term-returns-in_err-i-clause-depth t c =
    rw c.from_residual.ensures (term_short c.args.s.now.book.now c.args.s.now.bytes.now c.args.at (limits_of c.args.f.now.limits) c.args.env.now c.args.f.now.w.now c.args.f.now.tables.domain.now c.in_err-i.ensures)

pub depth_term-returns-in-Leaf-Variable-clause-depth : goal.depth_term-returns-in-Leaf-Variable-clause-depth
depth_term-returns-in-Leaf-Variable-clause-depth t c =
    let h = rw (c.in-Leaf-Variable.is, c.in-Leaf-Variable.field-0-is) at c.in_ok-i.ensures in
    term_leaf c.args.s.now.book.now c.args.s.now.bytes.now c.args.at (limits_of c.args.f.now.limits) c.args.env.now c.args.f.now.w.now c.args.f.now.tables.domain.now (rw c.args.f.now.keys_are at c.in_default.ensures.look) _ (read_variable c.args.s.now.book.now c.args.s.now.bytes.now c.args.at (limits_of c.args.f.now.limits) c.args.env.now c.args.f.now.w.now c.in-Leaf-Variable.i h _ c.depth_variable.ensures.1)

pub depth_term-returns-in-Leaf-Constant-clause-depth : goal.depth_term-returns-in-Leaf-Constant-clause-depth
depth_term-returns-in-Leaf-Constant-clause-depth t c =
    let h = rw (c.in-Leaf-Constant.is, c.in-Leaf-Constant.field-0-is) at c.in_ok-i.ensures in
    term_leaf c.args.s.now.book.now c.args.s.now.bytes.now c.args.at (limits_of c.args.f.now.limits) c.args.env.now c.args.f.now.w.now c.args.f.now.tables.domain.now (rw c.args.f.now.keys_are at c.in_default.ensures.look) 0 (read_constant c.args.s.now.book.now c.args.s.now.bytes.now c.args.at (limits_of c.args.f.now.limits) c.args.env.now c.args.f.now.w.now _ h)

pub depth_term-returns-in-Apply-clause-depth : goal.depth_term-returns-in-Apply-clause-depth
depth_term-returns-in-Apply-clause-depth t c =
    let h = rw c.in-Apply.is at c.in_ok-i.ensures in
    term_apply c.args.s.now.book.now c.args.s.now.bytes.now c.args.at (limits_of c.args.f.now.limits) c.args.env.now c.args.f.now.w.now c.args.f.now.tables.domain.now (rw c.args.f.now.keys_are at c.in_default.ensures.look) c.in-Apply.k c.in-Apply.n c.depth_list.result (read_apply c.args.s.now.book.now c.args.s.now.bytes.now c.args.at (limits_of c.args.f.now.limits) c.args.env.now c.args.f.now.w.now c.in-Apply.k c.in-Apply.n h) c.depth_list.ensures.depths
