-- The terms of a fact stand behind its relation, those of an identity behind its kind.
use Rattle.skips.specs.Parts.{literal_short, literal_fact, literal_same}
use Rattle.texts.specs.Names.{names_in}
use lib.ListN.{length, get_or}
use native.Mathlib.Omega.{arith}
use mathlib.Core.Path.{ap, ◌∙◌}
use Rattle.skips.proofs.skip_literal.Goals as goal

pub returns-in-None : goal.returns-in-None
returns-in-None c =
    ((omega arith, omega arith), literal_short (names_in c.args.s.now.book.now) c.args.s.now.bytes.now c.args.at (length c.args.s.now.bytes.now) c.in-None.ensures)

pub returns-in-Some-Fact : goal.returns-in-Some-Fact
returns-in-Some-Fact c =
    let h = rw (c.in-Some-Fact.is, c.in-Some-Fact.field-0-is) at c.claim_at.ensures in (
      (omega arith, omega arith),
      literal_fact (names_in c.args.s.now.book.now) c.args.s.now.bytes.now c.args.at c.in-Some-Fact.n _ h.0
          (h.1.1.0 ∙ ap (λ k. get_or (names_in c.args.s.now.book.now).relations k 0) h.1.0.1.0) c.skip_terms.ensures.1,
    )

pub returns-in-Some-Same : goal.returns-in-Some-Same
returns-in-Some-Same c =
    let h = rw (c.in-Some-Same.is, c.in-Some-Same.field-0-is) at c.claim_at.ensures in
    ((omega arith, omega arith), literal_same (names_in c.args.s.now.book.now) c.args.s.now.bytes.now c.args.at _ h.1 c.skip_terms-in-Some-Same.ensures.1)
