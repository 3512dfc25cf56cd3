-- Each entry goes, or it stays.
use Rattle.std.proofs.Common.{arith}
use Rattle.renaming.specs.Place.{replaced_at}
use Rattle.renaming.specs.Parting.{parting_goes, parting_stays, parting_end}
use Rattle.renaming.proofs.set_apart.Goals as goal
use Rattle.renaming.proofs.set_apart.Goals.{then-y-x, else-y-x}

pub loop-i-preserved : goal.loop-i-preserved
loop-i-preserved c =
    let f = replaced_at c.args.p c.args.r.stays c.args.r.goes in
    elim c.if-y-x.branch [
      | then-y-x w ↦ rw (w.table-is, w.spare-is, w.gone-is) (parting_goes f c.args.table.now c.loop-i.i c.loop-i.gone c.loop-i.table c.loop-i.spare c.loop-i.invariant (omega arith) (omega (arith, c.requires.0)) _ c.replace_at-y.ensures w.if-y-x.true)
      | else-y-x w ↦ rw (w.table-is, w.spare-is, w.gone-is) (parting_stays f c.args.table.now c.loop-i.i c.loop-i.gone c.loop-i.table c.loop-i.spare c.loop-i.invariant (omega arith) (omega (arith, c.requires.0)) _ c.replace_at-y.ensures w.if-y-x.false)
    ]

pub returns : goal.returns
returns c = parting_end (replaced_at c.args.p c.args.r.stays c.args.r.goes) c.args.table.now c.loop-i.i c.loop-i.gone c.loop-i.table c.loop-i.spare c.loop-i.invariant (omega arith)
