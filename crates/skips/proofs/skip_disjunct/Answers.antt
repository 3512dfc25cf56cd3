-- The literals stand behind the origins.
use Rattle.skips.specs.Parts.{disjunct_short, disjunct_cut, disjunct_end}
use Rattle.texts.specs.Names.{names_in}
use lib.ListN.{length}
use native.Mathlib.Omega.{arith}
use Rattle.skips.proofs.skip_disjunct.Goals as goal

pub returns-then-s-at-lt2 : goal.returns-then-s-at-lt2
returns-then-s-at-lt2 c =
    ((omega arith, omega arith), disjunct_short (names_in c.args.s.now.book.now) c.args.s.now.bytes.now c.args.at (length c.args.s.now.bytes.now) c.if-s-at-lt2.true)

pub returns-then-s-middle-lt2 : goal.returns-then-s-middle-lt2
returns-then-s-middle-lt2 c =
    let o = rw c.num16.ensures.0 at c.skip_origins-middle.ensures.1 in
    ((omega arith, omega arith), disjunct_cut (names_in c.args.s.now.book.now) c.args.s.now.bytes.now c.args.at c.skip_origins-middle.result o (length c.args.s.now.bytes.now) c.if-s-middle-lt2.true)

pub returns : goal.returns
returns c =
    let o = rw c.num16.ensures.0 at c.skip_origins-middle.ensures.1 in
    let l = rw c.num16-2.ensures.0 at c.skip_literals.ensures.1 in
    ((omega arith, omega arith), disjunct_end (names_in c.args.s.now.book.now) c.args.s.now.bytes.now c.args.at c.skip_origins-middle.result o c.skip_literals.result l)
