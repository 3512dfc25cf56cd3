-- The numbers that were passed stand as one patch, two bytes for each, and zeros fill the rest.
use Rattle.std.proofs.Common.{◌≡◌, ℕ, ◌*◌, ◌∙◌, refl, ap, sym, arith, get_or, length, take}
use Rattle.base.specs.Lists.{flat}
use Rattle.rules.specs.Image.{word}
use Rattle.octets.specs.Patch.{patched_none, patched_lent, patched_more, patched_table}
use Rattle.slots.proofs.store_head.Goals as goal

word_size : (x : ℕ) → length (word x) ≡ 2
unfolding word
word_size x = refl

pub loop-i-init : goal.loop-i-init
unfolding flat
loop-i-init c = sym (patched_none 0 c.args.s.now)

pub loop-i-preserved : goal.loop-i-preserved
unfolding word
loop-i-preserved c =
    let xs = c.args.counts.now in
    let i = c.loop-i.i in
    patched_lent (2 * i) 2 c.copy_from_slice.new.self (word (get_or xs i 0)) c.loop-i.s (omega arith) c.copy_from_slice.ensures.len (c.copy_from_slice.ensures.after ∙ ap (take 2) c.to_le_bytes.ensures)
    ∙ rw c.loop-i.invariant (patched_more 2 word word_size 0 xs c.args.s.now i (2 * i) (omega arith) (omega arith) (omega arith))

pub returns : goal.returns
returns c =
    patched_table 2 word word_size 0 16 _ _ c.loop-i.i c.args.counts.now c.args.s.now c.loop-i.s c.fill.new.self
    (omega arith) (omega arith) (omega arith) c.loop-i.invariant (omega arith) (omega arith) (c.fill.ensures.after (λ y e. e))
