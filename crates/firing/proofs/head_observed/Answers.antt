-- The disjuncts still to come have the answer of all; the chosen elements stay.
use native.Mathlib.Omega.{arith}
use Prim.Native.Nat.{◌<◌}
use mathlib.Core.Path.{refl, sym, ◌∙◌, subst}
use mathlib.Core.Bool.{true, false}
use Rattle.base.specs.Lists.{All}
use Rattle.firing.specs.Loops.{disjunct_env, head_start, head_stop, head_next, head_end}
use Rattle.firing.proofs.head_observed.Goals as goal

pub loop-init : goal.loop-init
loop-init c = record { within = c.requires.0; as_long = refl; chosen = refl; left = head_start c.args.s.now.book.now c.args.s.now.bytes.now c.args.at c.args.n c.args.env.now c.args.v c.args.t.now.keys.now c.args.t.now.facts.now c.args.t.now.domain.now }

pub disjunct_observed-requires : goal.disjunct_observed-requires
disjunct_observed-requires c =
    (c.loop.invariant.within, (omega arith, subst (All (λ e. e < 256)) (sym c.loop.invariant.chosen) c.requires.1.1))

pub returns-then-disjunct_observed : goal.returns-then-disjunct_observed
returns-then-disjunct_observed c =
    record {
      env_unchanged = c.disjunct_observed.ensures.env_unchanged ∙ c.loop.invariant.chosen;
      head = head_stop c.args.s.now.book.now c.args.s.now.bytes.now c.args.at c.args.n c.args.env.now c.args.v c.args.t.now.keys.now c.args.t.now.facts.now c.args.t.now.domain.now c.loop.counter c.loop.p c.loop.invariant.left (omega arith) (disjunct_env c.args.s.now.book.now c.args.s.now.bytes.now c.loop.p c.loop.env c.args.env.now c.args.v c.args.t.now.keys.now c.args.t.now.facts.now c.args.t.now.domain.now true c.loop.invariant.as_long c.loop.invariant.chosen
          (rw c.if-disjunct_observed.true at c.disjunct_observed.ensures.disjunct));
    }

pub loop-preserved : goal.loop-preserved
loop-preserved c =
    record {
      within = c.skip_disjunct-p.ensures.0.1;
      as_long = c.disjunct_observed.auto.env ∙ c.loop.invariant.as_long;
      chosen = c.disjunct_observed.ensures.env_unchanged ∙ c.loop.invariant.chosen;
      left = head_next c.args.s.now.book.now c.args.s.now.bytes.now c.args.at c.args.n c.args.env.now c.args.v c.args.t.now.keys.now c.args.t.now.facts.now c.args.t.now.domain.now c.loop.counter c.loop.p c.loop.invariant.left c.skip_disjunct-p.result (omega arith) (disjunct_env c.args.s.now.book.now c.args.s.now.bytes.now c.loop.p c.loop.env c.args.env.now c.args.v c.args.t.now.keys.now c.args.t.now.facts.now c.args.t.now.domain.now false c.loop.invariant.as_long c.loop.invariant.chosen
          (rw c.if-disjunct_observed.false at c.disjunct_observed.ensures.disjunct)) c.skip_disjunct-p.ensures.1;
    }

pub returns : goal.returns
returns c =
    record { env_unchanged = c.loop.invariant.chosen; head = head_end c.args.s.now.book.now c.args.s.now.bytes.now c.args.at c.args.n c.args.env.now c.args.v c.args.t.now.keys.now c.args.t.now.facts.now c.args.t.now.domain.now c.loop.counter c.loop.p c.loop.invariant.left (omega arith) }
