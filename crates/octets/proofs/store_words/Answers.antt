-- The bytes that were written are one patch, and zeros fill the rest of the room.
use Rattle.std.proofs.Common.{arith, sym, ap, ◌∙◌, ◌*◌, length, take_all, le_refl, List, ℕ, map}
use Rattle.base.specs.Lists.{flat}
use Rattle.octets.specs.Patch.{patched, patched_lent, patched_table}
use Rattle.octets.specs.Words.{octets, octets_length, octets_big}
use Rattle.octets.proofs.store_words.Goals as goal

pub returns : goal.returns
returns c =
    let t = c.args.t.now in
    let s = c.args.s.now in
    let n = length t in
    patched_table 8 octets octets_length c.args.at (8 * c.args.room) _ _ n t s _ c.fill.new.self (omega arith) (omega arith) (le_refl n)
    (patched_lent c.args.at (8 * n) c.write_u64_into.new.dst (flat (map octets t)) s (omega arith) c.write_u64_into.auto.dst (c.write_u64_into.ensures ∙ octets_big t)
    ∙ ap (λ (x : List ℕ). patched c.args.at (flat (map octets x)) s) (sym (take_all n t (le_refl n))))
    (omega arith) (omega arith) (c.fill.ensures.after (λ y e. e))
