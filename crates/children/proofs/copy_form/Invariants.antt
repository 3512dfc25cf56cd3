use Rattle.std.proofs.Common.{◌≡◌, ◌++◌, take, drop}
use Rattle.children.proofs.copy_form.Given as goal

abbrev pub invariant-loop-i : goal.invariant-loop-i
invariant-loop-i l = l.form ≡ take l.i l.base ++ drop l.i l.initial.form
