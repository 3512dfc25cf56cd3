-- A step walks over one of them, so the chain walks over all.
use Rattle.texts.specs.Names.{names_in}
use Rattle.texts.specs.Text.{LiteralText}
use Rattle.skips.specs.Rest.{chain_skips}
use Rattle.skips.specs.Parts.{literal_on}
use Rattle.skips.proofs.skip_literals.Goals as goal

pub returns : goal.returns
returns c =
    (c.skip_many.ensures.within, chain_skips (LiteralText (names_in c.args.s.now.book.now) c.args.s.now.bytes.now) (literal_on (names_in c.args.s.now.book.now) c.args.s.now.bytes.now) _ _ _ _ (λ p q l h. rw h.1.0 at h.1.1) _ c.skip_many.ensures.chained)
