-- A full list is in no state that is spoken of; else all move up, and the slot and the count are written.
use mathlib.Core.Path.{refl, ap, ap₂, ◌∙◌}
use Prim.Native.Nat.{◌+◌, ◌%◌}
use borrow.Author.Rules.{rules}
use lib.ListN.{set, get_or}
use Rattle.settings.specs.Numbers.{number_of}
use Rattle.heads.specs.Shift.{moved_up}
use Rattle.heads.specs.Lists.{front_full, front_out}
use Rattle.heads.proofs.Pool.push_front.Goals as goal

pub returns-then-n-ge-MOST_LISTED : goal.returns-then-n-ge-MOST_LISTED
returns-then-n-ge-MOST_LISTED c = (refl, front_full (number_of c.args.list) c.counted_at-count.ensures.1 c.args.self.now.bytes.now _ (ap (λ k. get_or c.args.self.now.bytes.now k 0) c.counted_at-count.ensures.0) c.args.slot c.if-n-ge-MOST_LISTED.true, refl)

pub returns : goal.returns
returns c =
    let n = get_or c.args.self.now.bytes.now c.counted_at-count.result 0 in (
      refl,
      front_out (number_of c.args.list) c.counted_at-count.ensures.1 c.args.self.now.bytes.now _ (ap (λ k. get_or c.args.self.now.bytes.now k 0) c.counted_at-count.ensures.0) c.args.slot _
          (ap₂ (λ x k. set x k (n + 1)) (c.move_up.ensures ∙ ap (λ a. moved_up a (c.args.slot % 256) c.args.self.now.bytes.now) c.starts_at.ensures.0) c.counted_at-count.ensures.0),
      search rules,
    )
