use lib.ListN.{length}
use Prim.Native.Nat.{◌+◌, ◌*◌, ◌-◌}
use Rattle.look.proofs.+look_list_look_term.Given as goal

abbrev pub decreases-look_list : goal.decreases-look_list
decreases-look_list l = 2 * (length l.s.now.bytes.now - l.at) + 1

abbrev pub decreases-look_term : goal.decreases-look_term
decreases-look_term l = 2 * (length l.s.now.bytes.now - l.at)
