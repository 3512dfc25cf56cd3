-- A term's measure is twice its levels; that of its arguments' check lies below.
use Rattle.std.proofs.Common.{◌-◌, ◌*◌}
use Rattle.terms.proofs.+check_term+fn-check_term-argument.Given as goal

abbrev pub decreases-check_term : goal.decreases-check_term
decreases-check_term l = 2 * l.left

abbrev pub decreases-argument : goal.decreases-argument
decreases-argument l = 2 * l.left - 1
