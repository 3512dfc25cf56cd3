-- The choices from the indices on have the answer of all, and grow fewer.
use native.Mathlib.Omega.{arith}
use Prim.Native.Nat.{◌<◌}
use mathlib.Core.Path.{◌≡◌, refl, sym, ◌∙◌, subst}
use lib.ListN.{length}
use lib.Seq.{length-take-le}
use Rattle.base.specs.Lists.{All}
use Rattle.choosing.specs.Choosing.{Below}
use Rattle.firing.specs.Search.{chosen_small, Searching, search_start, search_found, search_next, search_none, choices_fall, zeros_below, zeros_four}
use Rattle.firing.proofs.first_from.Goals as goal

pub loop-idx-init : goal.loop-idx-init
loop-idx-init c =
    let z = zeros_four c.args.v c.requires.fits.1.1.1.0 in
    record {
      env_length = refl;
      width = length-take-le c.args.v _ c.requires.fits.1.1.1.0;
      below = subst (Below (length c.args.t.now.domain.now)) (sym z) (zeros_below c.args.v (length c.args.t.now.domain.now) c.requires.fits.1.1.1.1);
      searching = subst (Searching c.args.s.now.book.now c.args.s.now.bytes.now c.args.at c.args.v c.args.t.now.keys.now c.args.t.now.facts.now c.args.t.now.domain.now) (sym z) (search_start c.args.s.now.book.now c.args.s.now.bytes.now c.args.at c.args.v c.args.t.now.keys.now c.args.t.now.facts.now c.args.t.now.domain.now);
    }

pub fires-requires : goal.fires-requires
fires-requires c =
    let i = c.loop-idx.invariant in
    let e = rw i.width at c.choose.ensures in
    let f = c.requires.fits in
    let w : length c.choose.new.env ≡ length c.args.env.now = c.choose.auto.env ∙ i.env_length in
    let o = subst (All (λ e. e < 256)) (sym e) (chosen_small c.args.t.now.domain.now c.loop-idx.idx (length c.args.t.now.domain.now) refl c.requires.octets i.below) in
    (f.0, (f.1.0, (omega arith, (omega arith, o))))

pub returns-then-fires : goal.returns-then-fires
returns-then-fires c =
    let i = c.loop-idx.invariant in
    search_found c.args.s.now.book.now c.args.s.now.bytes.now c.args.at c.args.v c.args.t.now.keys.now c.args.t.now.facts.now c.args.t.now.domain.now c.loop-idx.idx c.choose.new.env
    i.width i.below (rw i.width at c.choose.ensures) i.searching c.if-fires.ensures.fires c.fires.new.env c.if-fires.ensures.env_unchanged

pub returns-then-not-advance : goal.returns-then-not-advance
returns-then-not-advance c =
    let i = c.loop-idx.invariant in
    search_none c.args.s.now.book.now c.args.s.now.bytes.now c.args.at c.args.v c.args.t.now.keys.now c.args.t.now.facts.now c.args.t.now.domain.now c.loop-idx.idx c.choose.new.env
    i.width i.below (rw i.width at c.choose.ensures) i.searching c.if-fires.ensures.fires c.if-not-advance.ensures.0 c.fires.new.env

pub loop-idx-smaller : goal.loop-idx-smaller
loop-idx-smaller c = choices_fall c.args.v c.args.t.now.domain.now c.loop-idx.idx c.advance.new.idx c.loop-idx.invariant.width c.loop-idx.invariant.below c.if-not-advance.ensures.0

pub loop-idx-preserved : goal.loop-idx-preserved
loop-idx-preserved c =
    let i = c.loop-idx.invariant in
    record {
      env_length = c.fires.auto.env ∙ c.choose.auto.env ∙ i.env_length;
      width = c.advance.auto.idx ∙ i.width;
      below = c.if-not-advance.ensures.1;
      searching = search_next c.args.s.now.book.now c.args.s.now.bytes.now c.args.at c.args.v c.args.t.now.keys.now c.args.t.now.facts.now c.args.t.now.domain.now c.loop-idx.idx c.choose.new.env
          i.width i.below (rw i.width at c.choose.ensures) i.searching c.if-fires.ensures.fires c.advance.new.idx c.if-not-advance.ensures.0;
    }
