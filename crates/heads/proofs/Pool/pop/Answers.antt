-- An empty list is in no state that is spoken of; else those behind the first move down, and the count is written.
use mathlib.Core.Path.{refl, ap, ap₂, ◌∙◌}
use Prim.Native.Nat.{◌-◌}
use borrow.Author.Rules.{rules}
use lib.ListN.{set, get_or}
use Rattle.settings.specs.Numbers.{number_of}
use Rattle.heads.specs.Shift.{moved_down}
use Rattle.heads.specs.Lists.{pop_none, pop_out}
use Rattle.heads.proofs.Pool.pop.Goals as goal

pub returns-then-n-eq0 : goal.returns-then-n-eq0
returns-then-n-eq0 c = (refl, pop_none (number_of c.args.list) c.counted_at-count.ensures.1 c.args.self.now.bytes.now _ (ap (λ k. get_or c.args.self.now.bytes.now k 0) c.counted_at-count.ensures.0) c.if-n-eq0.true, refl)

pub returns : goal.returns
returns c =
    let n = get_or c.args.self.now.bytes.now c.counted_at-count.result 0 in (
      refl,
      pop_out (number_of c.args.list) c.counted_at-count.ensures.1 c.args.self.now.bytes.now _ (ap (λ k. get_or c.args.self.now.bytes.now k 0) c.counted_at-count.ensures.0) _
          (ap₂ (λ x k. set x k (n - 1)) (c.move_down.ensures ∙ ap (λ a. moved_down a c.args.self.now.bytes.now) c.starts_at.ensures.0) c.counted_at-count.ensures.0),
      search rules,
    )
