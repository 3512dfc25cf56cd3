use Rattle.renaming.specs.Place.{replaced_at}
use Rattle.renaming.specs.Parting.{Parting}
use Rattle.renaming.proofs.set_apart.Given as goal

abbrev pub invariant-loop-i : goal.invariant-loop-i
invariant-loop-i l = Parting (replaced_at l.p l.r.stays l.r.goes) l.initial.table l.i l.gone l.table l.spare
