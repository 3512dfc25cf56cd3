-- A law for each way out.
use Rattle.std.proofs.Common.{◌∙◌, refl, sym, arith}
use Rattle.refusals.specs.Numbers.{not_done, passed_on}
use Rattle.printing.specs.Opening.{prints_two, prints_refusal, prints_twelve, is_opened}
use Rattle.printing.specs.Reads.{open_read}
use Rattle.printing.proofs.open_input.Goals as goal

pub returns-then-input-lt-SETTINGS : goal.returns-then-input-lt-SETTINGS
returns-then-input-lt-SETTINGS c = prints_two c.args.input.now c.if-input-lt-SETTINGS.true

pub returns-in_err-open : goal.returns-in_err-open
returns-in_err-open c =
    let o = open_read c.args.input.now c.args.pool.now _ _ _ _ c.byte-scheduler.ensures.0 c.byte-strategy.ensures.0 c.in_err-open.ensures in
    rw (passed_on _ _ c.from_residual.ensures.1) (prints_refusal c.args.input.now c.if-input-lt-SETTINGS.false c.args.pool.now (omega arith) _ _ o (not_done _))

pub returns-then-byte-ne0 : goal.returns-then-byte-ne0
returns-then-byte-ne0 c =
    let o = open_read c.args.input.now c.args.pool.now _ _ _ _ c.byte-scheduler.ensures.0 c.byte-strategy.ensures.0 c.in_ok-open.ensures in
    prints_twelve c.args.input.now c.if-input-lt-SETTINGS.false c.args.pool.now (omega arith) _ _ o refl (λ z. c.if-byte-ne0.true (c.byte.ensures.0 ∙ z))

pub returns : goal.returns
returns c =
    let o = open_read c.args.input.now c.args.pool.now _ _ _ _ c.byte-scheduler.ensures.0 c.byte-strategy.ensures.0 c.in_ok-open.ensures in
    is_opened c.args.input.now c.if-input-lt-SETTINGS.false c.args.pool.now (omega arith) _ _ o refl (sym c.byte.ensures.0 ∙ c.if-byte-ne0.false)
