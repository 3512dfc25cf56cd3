-- Behind the counts each region is lent and comes back read.
use native.Mathlib.Omega.{arith}
use Rattle.std.proofs.Math.ListN.{take, drop}
use Rattle.base.specs.Lists.{from}
use Rattle.limits.specs.Limits.{limits_of}
use Rattle.octets.specs.Words.{numbers_at}
use Rattle.sheets.specs.Load.{loaded, region_read}
use Rattle.sheets.proofs.load_sheet.Goals as goal

pub returns : goal.returns
returns c =
    let s = c.args.slot.now in
    loaded (limits_of c.args.limits) s c.args.w.now _ _ _ _ _ _ _ _ _ _ _ _ _ c.facts_at-f.ensures c.depths_at-d.ensures c.history_at-h.ensures
    c.slot_facts_at.ensures c.slot_depths_at.ensures c.requires.1 c.load_counts-counts.ensures
    (region_read (numbers_at s 16) 5 c.args.limits.keys _ _ _ (omega arith) (omega arith) c.load_words.auto.t c.load_words.ensures)
    (region_read (numbers_at s c.slot_facts_at.result) _ c.args.limits.facts _ _ _ (omega arith) (omega arith) c.load_words-2.auto.t c.load_words-2.ensures)
    (region_read (λ j. take j (drop c.slot_depths_at.result s)) _ c.args.limits.elements _ _ _ (omega arith) (omega arith) c.load_bytes.auto.t c.load_bytes.ensures)
    (region_read (from 0) _ c.args.limits.elements _ _ _ (omega arith) (omega arith) c.set_history.auto.t c.set_history.ensures)
