use Rattle.renaming.specs.declared.TheConstants.{WEIGHTS}
use Rattle.renaming.specs.Table.{Renaming}
use Rattle.renaming.proofs.rename_table.Given as goal

abbrev pub invariant-loop-p : goal.invariant-loop-p
invariant-loop-p l = Renaming l.r.stays l.r.goes WEIGHTS l.p-index l.initial.table l.table
