use mathlib.Core.Path.{ap₂, ◌∙◌}
use Prim.Native.Nat.{max}
use Rattle.enter.specs.Args.{depth_of}
use Rattle.enter.proofs.depth_over.Goals as goal

pub returns : goal.returns
unfolding depth_of
returns c =
    c.max-3.ensures ∙ ap₂ max c.above_argument-a.ensures (c.max-2.ensures
    ∙ ap₂ max c.above_argument-b.ensures (c.max.ensures ∙ ap₂ max c.above_argument-c.ensures c.above_argument-d.ensures))
