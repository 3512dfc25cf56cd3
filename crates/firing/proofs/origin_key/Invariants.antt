use lib.ListN.{take}
use Rattle.firing.specs.Origins.{Packs}
use Rattle.firing.proofs.origin_key.Given as goal

abbrev pub invariant-loop-i : goal.invariant-loop-i
invariant-loop-i l = Packs l.text l.at l.n (take l.v l.env) l.initial.key.number l.i l.key.number l.key.weight
