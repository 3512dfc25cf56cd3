-- `take_sound` meets its contract: each way out by its law.
use Rattle.std.proofs.Common.{arith, rules}
use Rattle.settings.specs.Codes.{source_low}
use Rattle.takings.specs.Take.{take_empty, take_short, take_done, first_fits, any_book}
use Rattle.takings.proofs.take_sound.Goals as goal

pub returns-then-byte-eq0 : goal.returns-then-byte-eq0
returns-then-byte-eq0 c =
    take_empty c.args.pool.now c.requires _ c.args.out.now (source_low c.args.source) (rw (c.byte.ensures.0, c.counted_at.ensures.0, c.from-list.ensures) at c.if-byte-eq0.true)

pub returns-then-out-lt-SLOT : goal.returns-then-out-lt-SLOT
returns-then-out-lt-SLOT c =
    take_short c.args.pool.now c.requires _ c.args.out.now (source_low c.args.source) (rw (c.byte.ensures.0, c.counted_at.ensures.0, c.from-list.ensures) at c.if-byte-eq0.false) c.if-out-lt-SLOT.true

pub give-requires : goal.give-requires
give-requires c =
    let f = first_fits c.args.pool.now c.requires _ (source_low c.args.source) (rw (c.byte.ensures.0, c.counted_at.ensures.0, c.from-list.ensures) at c.if-byte-eq0.false) in
    ((omega arith, rw (c.byte-i.ensures.0, c.starts_at.ensures.0, c.from-list.ensures) f.1), c.if-out-lt-SLOT.false)

pub returns : goal.returns
returns c =
    let e = rw (c.byte-i.ensures.0, c.starts_at.ensures.0, c.from-list.ensures) at c.give.ensures in
    take_done c.args.pool.now c.requires _ c.args.out.now (source_low c.args.source) (rw (c.byte.ensures.0, c.counted_at.ensures.0, c.from-list.ensures) at c.if-byte-eq0.false) any_book (λ j. search rules) c.if-out-lt-SLOT.false _ _ e.0 e.1
