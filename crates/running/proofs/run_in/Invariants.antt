use Rattle.children.specs.Lent.{SameLent}
use Rattle.stepping.specs.Standing.{Standing}
use Rattle.bound.specs.Bounds.{bound_is}
use Rattle.running.specs.Runs.{RunLeft}
use Rattle.running.proofs.run_in.Given as goal

-- The pool stands before each step; what is left of the definition's run is what the budget has left; the memory is the one that was lent.
abbrev pub invariant-loop-k : goal.invariant-loop-k
invariant-loop-k l =
    Standing l.book l.pool × RunLeft l.book (bound_is l.bound) l.budget l.initial.pool l.k l.pool × SameLent l.initial.m l.m
