use Rattle.texts.specs.Parts.{part}
use Rattle.evaluate.specs.Answers.{handed}
use Rattle.evaluate.proofs.sequent_at.Goals as goal

pub returns : goal.returns
unfolding part
returns c =
    handed c.args.book.now c.args.at c.skip_sequent-e.result c.skip_sequent-e.ensures.0.0 c.skip_sequent-e.ensures.0.1 c.skip_sequent-e.ensures.1
