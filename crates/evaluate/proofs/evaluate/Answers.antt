-- Linear tries all in order; Fair those from the place on, then those before it.
use Rattle.std.specs.Prelude.{None}
use Rattle.evaluate.specs.Visits.{evaluates_never, evaluates_linear, evaluates_later, evaluates_earlier}
use Rattle.evaluate.proofs.evaluate.Goals as goal

pub returns-then-start-book : goal.returns-then-start-book
returns-then-start-book c = evaluates_never c.args.book.now c.args.place c.args.t.now.keys.now c.args.t.now.facts.now c.args.t.now.domain.now c.args.env.now _ None c.sequents_start-start.result c.sequents_start-start.ensures.0 c.if-start-book.true

pub returns-in-Linear : goal.returns-in-Linear
returns-in-Linear c =
    let f = rw (c.sequents_start-start.ensures.0, c.sequent_count-n.ensures.0) at c.first_of.ensures in
    rw c.in-Linear.is (evaluates_linear c.args.book.now c.args.place c.args.t.now.keys.now c.args.t.now.facts.now c.args.t.now.domain.now c.first_of.new.env c.first_of.result f)

pub returns-in-None : goal.returns-in-None
returns-in-None c =
    let f = rw c.sequent_count-n.ensures.0 at c.in-None.ensures in
    let k = rw c.sequents_start-start.ensures.0 at c.skip_sequents-middle.ensures.1 in
    let g = rw c.sequents_start-start.ensures.0 at c.first_of-in-None.ensures in
    rw c.in-Fair.is (evaluates_earlier c.args.book.now c.args.place c.args.t.now.keys.now c.args.t.now.facts.now c.args.t.now.domain.now c.first_of-in-None.new.env c.requires.fits.0 c.skip_sequents-middle.result k c.first_of-in-None.result c.first_of-in-Fair.new.env f g)

pub returns-in_default : goal.returns-in_default
returns-in_default c =
    let f = rw c.sequent_count-n.ensures.0 at c.first_of-in-Fair.ensures in
    let k = rw c.sequents_start-start.ensures.0 at c.skip_sequents-middle.ensures.1 in
    rw c.in-Fair.is (evaluates_later c.args.book.now c.args.place c.args.t.now.keys.now c.args.t.now.facts.now c.args.t.now.domain.now c.first_of-in-Fair.new.env c.requires.fits.0 c.skip_sequents-middle.result k c.first_of-in-Fair.result c.in_default.not-None f)
