-- The head stands behind the body.
use Rattle.skips.specs.Parts.{sequent_short, sequent_cut, sequent_end}
use Rattle.texts.specs.Names.{names_in}
use lib.ListN.{length}
use native.Mathlib.Omega.{arith}
use Rattle.skips.proofs.skip_sequent.Goals as goal

pub returns-then-s-at-lt4 : goal.returns-then-s-at-lt4
returns-then-s-at-lt4 c =
    ((omega arith, omega arith), sequent_short (names_in c.args.s.now.book.now) c.args.s.now.bytes.now c.args.at (length c.args.s.now.bytes.now) c.if-s-at-lt4.true)

pub returns-then-s-middle-lt2 : goal.returns-then-s-middle-lt2
returns-then-s-middle-lt2 c =
    let o = rw c.num16.ensures.0 at c.skip_literals-middle.ensures.1 in
    ((omega arith, omega arith), sequent_cut (names_in c.args.s.now.book.now) c.args.s.now.bytes.now c.args.at c.skip_literals-middle.result o (length c.args.s.now.bytes.now) c.if-s-middle-lt2.true)

pub returns : goal.returns
returns c =
    let o = rw c.num16.ensures.0 at c.skip_literals-middle.ensures.1 in
    let l = rw c.num16-2.ensures.0 at c.skip_disjuncts.ensures.1 in
    ((omega arith, omega arith), sequent_end (names_in c.args.s.now.book.now) c.args.s.now.bytes.now c.args.at c.skip_literals-middle.result o c.skip_disjuncts.result l)
