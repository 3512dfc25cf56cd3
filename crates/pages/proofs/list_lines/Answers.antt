-- The sheets of the slots passed are written.
use Rattle.std.proofs.Common.{◌≡◌, Bor, [], get_or, replicate, sym, ◌∙◌, arith}
use Rattle.rules.specs.Reading.{Bytes}
use Rattle.lines.specs.Writes.{writes_none, writes_next, writes_as}
use Rattle.pages.specs.Tables.{slot_text, slots_none, slots_more}
use Rattle.pages.specs.Pools.{behind, slot_is}
use Rattle.pages.proofs.list_lines.Goals as goal

pub loop-i-init : goal.loop-i-init
loop-i-init c =
    (writes_as _ (sym (slots_none [] c.args.standing.now c.args.pool.now)) (writes_none c.args.page.now c.args.page.now.within), omega arith)

pub loop-i-preserved : goal.loop-i-preserved
unfolding slot_text
loop-i-preserved c =
    let slots = c.as_chunks.result.0.now in
    let i = get_or c.args.list.now c.loop-i.i-index 0 in
    let lent : c.unwrap_or-slot.result.now ≡ get_or slots i (replicate 2128 0) = rw c.unwrap_or-slot.ensures (behind (λ (x : Bor Bytes). x.now) c.get.result _ ∙ c.get.ensures.lookup.4 (omega arith) _) in
    let sheet = rw (lent, slot_is c.args.pool.now i c.requires.1 slots c.as_chunks.ensures.front) at c.sheet_lines.ensures.text in
    (writes_as _ (slots_more [] c.args.standing.now c.args.pool.now c.args.list.now c.loop-i.i-index c.loop-i-test.true) (writes_next c.loop-i.invariant.0 sheet), omega arith)
