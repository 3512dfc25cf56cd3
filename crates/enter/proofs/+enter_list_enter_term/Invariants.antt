use Prim.Native.Nat.{◌+◌, ◌*◌, ◌-◌}
use lib.ListN.{length}
use Rattle.enter.proofs.+enter_list_enter_term.Given as goal

abbrev pub decreases-enter_list : goal.decreases-enter_list
decreases-enter_list l = 2 * (length l.s.now.bytes.now - l.at) + 1

abbrev pub decreases-enter_term : goal.decreases-enter_term
decreases-enter_term l = 2 * (length l.s.now.bytes.now - l.at)
