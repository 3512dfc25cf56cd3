-- The sequents still to come have the answer of all.
use native.Mathlib.Omega.{arith}
use mathlib.Core.Bool.{true, false}
use mathlib.Core.Path.{refl, ◌∙◌, subst}
use Rattle.firing.specs.Answers.{FirstChoice}
use Rattle.evaluate.specs.Visits.{sequents_start, sequents_next, sequents_found, sequents_end}
use Rattle.evaluate.proofs.first_of.Goals as goal

pub loop-j-init : goal.loop-j-init
loop-j-init c = record { within = omega arith; env_length = refl; left = sequents_start c.args.book.now c.args.at c.args.i c.args.n c.args.t.now.keys.now c.args.t.now.facts.now c.args.t.now.domain.now }

pub first_choice-requires : goal.first_choice-requires
first_choice-requires c =
    record { fits = omega (arith, c.loop-j.invariant.env_length, c.requires.fits.1.1); octets = c.requires.octets }

pub returns-then-first_choice : goal.returns-then-first_choice
returns-then-first_choice c = sequents_found c.args.book.now c.args.at c.args.i c.args.n c.args.t.now.keys.now c.args.t.now.facts.now c.args.t.now.domain.now c.loop-j.j c.loop-j.p c.loop-j.invariant.left _ (omega arith) c.sequent_at-q.ensures.skips c.first_choice.new.env (subst (λ x. FirstChoice c.args.book.now x c.args.t.now.keys.now c.args.t.now.facts.now c.args.t.now.domain.now true c.first_choice.new.env) c.sequent_at-q.ensures.is c.if-first_choice.ensures)

pub loop-j-preserved : goal.loop-j-preserved
loop-j-preserved c = record {
  within = c.sequent_at-q.ensures.within;
  env_length = c.first_choice.auto.env ∙ c.loop-j.invariant.env_length;
  left = sequents_next c.args.book.now c.args.at c.args.i c.args.n c.args.t.now.keys.now c.args.t.now.facts.now c.args.t.now.domain.now c.loop-j.j c.loop-j.p c.loop-j.invariant.left _ (omega arith) c.sequent_at-q.ensures.skips c.first_choice.new.env (subst (λ x. FirstChoice c.args.book.now x c.args.t.now.keys.now c.args.t.now.facts.now c.args.t.now.domain.now false c.first_choice.new.env) c.sequent_at-q.ensures.is c.if-first_choice.ensures);
}

pub returns : goal.returns
returns c = sequents_end c.args.book.now c.args.at c.args.i c.args.n c.args.t.now.keys.now c.args.t.now.facts.now c.args.t.now.domain.now c.loop-j.j c.loop-j.p c.loop-j.invariant.left c.loop-j.env (omega arith)
