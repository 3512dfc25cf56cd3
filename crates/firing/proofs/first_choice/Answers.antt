-- The number of free variables and the place of the head come from the text.
use native.Mathlib.Omega.{arith}
use Rattle.std.proofs.lemmas.Grind.{common_steps}
use mathlib.Core.Path.{◌≡◌}
use lib.ListN.{length}
use mathlib.Core.Bool.{false}
use Rattle.firing.specs.Search.{choice_short, choice_wide, choice_none, choice_cut, choice_from}
use Rattle.firing.proofs.first_choice.Goals.{then-v-gt4-via-then-v-gt4, then-v-gt4-via-else-v-gt4+then-is_empty, then-v-gt0, else-v-gt0}
use Rattle.firing.proofs.first_choice.Goals as goal

pub returns-then-s-lt4 : goal.returns-then-s-lt4
returns-then-s-lt4 c = choice_short c.args.s.now.book.now c.args.s.now.bytes.now c.args.t.now.keys.now c.args.t.now.facts.now c.args.t.now.domain.now c.args.env.now false c.if-s-lt4.true

pub returns-then-v-gt4 : goal.returns-then-v-gt4
returns-then-v-gt4 c =
    elim c.then-v-gt4.branch [
      | then-v-gt4-via-then-v-gt4 w ↦ choice_wide c.args.s.now.book.now c.args.s.now.bytes.now c.args.t.now.keys.now c.args.t.now.facts.now c.args.t.now.domain.now c.args.env.now c.num16-v.result c.num16-v.ensures.0 false w.if-v-gt4.true
      | then-v-gt4-via-else-v-gt4+then-is_empty w ↦
          elim w.if-v-gt0.branch [
            | then-v-gt0 x ↦
                let e : length c.args.t.now.domain.now ≡ 0 = grind (arith, common_steps) in
                choice_none c.args.s.now.book.now c.args.s.now.bytes.now c.args.t.now.keys.now c.args.t.now.facts.now c.args.t.now.domain.now c.args.env.now c.num16-v.result c.num16-v.ensures.0 x.if-v-gt0.true e
            | else-v-gt0 x ↦ absurd (grind (arith, common_steps))
          ]
    ]

pub returns-then-s-at-ge2 : goal.returns-then-s-at-ge2
returns-then-s-at-ge2 c =
    let o = rw c.num16.ensures.0 at c.skip_literals-at.ensures.1 in
    choice_from c.args.s.now.book.now c.args.s.now.bytes.now c.args.t.now.keys.now c.args.t.now.facts.now c.args.t.now.domain.now c.first_from.new.env c.num16-v.result c.num16-v.ensures.0 c.skip_literals-at.result o c.first_from.result c.first_from.ensures

pub returns-else-s-at-ge2 : goal.returns-else-s-at-ge2
returns-else-s-at-ge2 c =
    let o = rw c.num16.ensures.0 at c.skip_literals-at.ensures.1 in
    choice_cut c.args.s.now.book.now c.args.s.now.bytes.now c.args.t.now.keys.now c.args.t.now.facts.now c.args.t.now.domain.now c.args.env.now c.num16-v.result c.num16-v.ensures.0 c.skip_literals-at.result o _ (omega arith)
