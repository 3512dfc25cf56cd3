-- The fields of the bytes passed are written.
use Rattle.std.proofs.Common.{[], sym, arith}
use Rattle.lines.specs.Writes.{writes_none, writes_next, writes_as}
use Rattle.lines.specs.Writing.{fields_none, row_more}
use Rattle.lines.proofs.Page.row.Goals as goal

pub loop-b-init : goal.loop-b-init
loop-b-init c = (writes_as _ (sym (fields_none [])) (writes_none c.args.self.now c.args.self.now.within), omega arith)

pub loop-b-preserved : goal.loop-b-preserved
loop-b-preserved c =
    (writes_as _ (row_more [] c.args.s.now c.loop-b.b-index (omega arith)) (writes_next c.loop-b.invariant.0 c.field.ensures.text), omega arith)
