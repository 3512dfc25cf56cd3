-- The mark ends, or its byte is right, or wrong.
use Rattle.std.proofs.Common.{add-one, lt-ltb, le-ltb, eq-eqb, ne_eqb, sym, ◌∙◌}
use Rattle.base.specs.Branch.{if}
use Rattle.rules.specs.Reading.{mark_byte}
use Rattle.numbers.proofs.read_mark.Goals as goal

pub returns-then-at-book : goal.returns-then-at-book
unfolding mark_byte if
returns-then-at-book c = rw (c.refuse.ensures, le-ltb _ _ c.if-at-book.true)

pub returns-then-byte-letter : goal.returns-then-byte-letter
unfolding mark_byte if
returns-then-byte-letter c = rw (lt-ltb _ _ c.if-at-book.false, eq-eqb _ _ (sym c.byte.ensures.0 ∙ c.if-byte-letter.true), add-one)

pub returns-else-byte-letter : goal.returns-else-byte-letter
unfolding mark_byte if
returns-else-byte-letter c = rw (c.refuse-else-byte-letter.ensures, lt-ltb _ _ c.if-at-book.false, ne_eqb _ _ (λ q. c.if-byte-letter.false (c.byte.ensures.0 ∙ q)))
