use Prim.Native.Nat.{◌+◌, ◌*◌, ◌-◌}
use lib.ListN.{length}
use Rattle.bound.proofs.+depth_list_depth_term.Given as goal

abbrev pub decreases-depth_list : goal.decreases-depth_list
decreases-depth_list l = 2 * (length l.s.now.bytes.now - l.at) + 1

abbrev pub decreases-depth_term : goal.decreases-depth_term
decreases-depth_term l = 2 * (length l.s.now.bytes.now - l.at)
