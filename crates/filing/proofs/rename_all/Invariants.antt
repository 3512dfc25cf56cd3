use Rattle.std.proofs.Common.{◌≡◌, ◌++◌, map, take, drop}
use Rattle.packing.specs.Replace.{replaced}
use Rattle.filing.proofs.rename_all.Given as goal

abbrev pub invariant-loop-x : goal.invariant-loop-x
invariant-loop-x l = l.t ≡ map (replaced l.r.stays l.r.goes) (take l.x-index l.initial.t) ++ drop l.x-index l.initial.t
