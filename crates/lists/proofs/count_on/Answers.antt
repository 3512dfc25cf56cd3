-- Four bytes written.
use Rattle.std.proofs.Common.{◌+◌, ◌∙◌, ap, take}
use mathlib.Core.Path.{refl}
use borrow.Author.Rules.{rules}
use borrow.Rule.Slice.PartMut.{put_mid}
use Rattle.lists.specs.Moves.{counts_on, long_bytes}
use Rattle.lists.proofs.count_on.Goals as goal

pub returns : goal.returns
returns c = (
  refl,
  counts_on c.args.pool.now.bytes.now _ c.next_number-next.ensures.0 _
      (ap (put_mid 8 4 c.args.pool.now.bytes.now) (c.copy_from_slice.ensures.after ∙ ap (take 4) c.to_le_bytes.ensures ∙ long_bytes (c.next_number-next.result + 1))),
  search rules,
)
