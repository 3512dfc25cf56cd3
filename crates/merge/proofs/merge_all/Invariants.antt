use Rattle.merge.specs.Next.{Merging, remaining}
use Rattle.limits.specs.Limits.{limits_of}
use Rattle.merge.proofs.merge_all.Given as goal

abbrev pub invariant-loop-top : goal.invariant-loop-top
invariant-loop-top l = Merging (limits_of l.limits) l.start l.initial.w l.top l.w

abbrev pub decreases-loop-top : goal.decreases-loop-top
decreases-loop-top l = remaining (limits_of l.limits) l.top l.w
