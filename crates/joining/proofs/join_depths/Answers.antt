-- The two writes are those of `merge_depths`.
use Rattle.rules.specs.Merge.{merge_depths}
use Prim.Native.Nat.{ℕ}
use mathlib.Core.List.{List}
use lib.ListN.{set}
use Prim.Native.Nat.{min}
use mathlib.Core.Path.{ap, ap₂, ◌∙◌}
use Rattle.joining.proofs.join_depths.Goals as goal

pub returns : goal.returns
unfolding merge_depths
returns c =
    let low = c.min-low.ensures ∙ ap₂ min c.depth.ensures c.depth-2.ensures in
    c.set-2.ensures
    ∙ ap (λ (t : List ℕ). set t c.args.r.goes 0) (c.set.ensures ∙ ap (set c.args.t.now c.args.r.stays) low)
