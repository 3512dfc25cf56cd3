-- The environment so far and the origins still to come are the whole.
use native.Mathlib.Omega.{arith}
use Prim.Native.Nat.{◌<◌, ◌+◌}
use mathlib.Core.Path.{refl, sym, ◌∙◌, subst}
use lib.ListN.{take, length-set}
use lib.Seq.{length-take-le, take-set-le}
use Rattle.base.specs.Lists.{All}
use Rattle.firing.specs.Answers.{IsOriginKey}
use Rattle.firing.specs.Origins.{makes_start, makes_next, makes_end}
use Rattle.firing.proofs.make_env.Goals as goal

pub loop-i-init : goal.loop-i-init
loop-i-init c = record { within = (omega arith, c.requires.0); as_long = refl; chosen = refl; makes = makes_start c.args.s.now.book.now c.args.s.now.bytes.now c.args.at c.args.k c.args.v (take c.args.v c.args.env.now) (length-take-le c.args.v c.args.env.now c.requires.1.1.0) c.args.env.now refl }

pub origin_key-requires : goal.origin_key-requires
origin_key-requires c = (c.loop-i.invariant.within.1, (omega arith, subst (All (λ e. e < 256)) (sym c.loop-i.invariant.chosen) c.requires.1.1.1))

pub loop-i-preserved : goal.loop-i-preserved
loop-i-preserved c = record {
  within = (omega arith, omega arith);
  as_long = length-set c.loop-i.env (c.args.v + c.loop-i.i) _ ∙ c.loop-i.invariant.as_long;
  chosen = take-set-le c.args.v c.loop-i.env (c.args.v + c.loop-i.i) _ (omega arith) ∙ c.loop-i.invariant.chosen;
  makes = makes_next c.args.s.now.book.now c.args.s.now.bytes.now c.args.at c.args.k c.args.v (take c.args.v c.args.env.now) (length-take-le c.args.v c.args.env.now c.requires.1.1.0) c.loop-i.i c.loop-i.p c.loop-i.env (omega arith) c.loop-i.invariant.makes c.origin_key.result c.skip_origin-p.result (omega arith)
      (subst (λ e. IsOriginKey c.args.s.now.bytes.now c.loop-i.p e c.origin_key.result) c.loop-i.invariant.chosen c.origin_key.ensures) c.skip_origin-p.ensures.1;
}

pub returns : goal.returns
returns c =
    (c.loop-i.invariant.within, (c.loop-i.invariant.chosen, makes_end c.args.s.now.book.now c.args.s.now.bytes.now c.args.at c.args.k c.args.v (take c.args.v c.args.env.now) (length-take-le c.args.v c.args.env.now c.requires.1.1.0) c.loop-i.i c.loop-i.p c.loop-i.env (omega arith) c.loop-i.invariant.makes))
