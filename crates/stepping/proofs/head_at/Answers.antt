use native.Mathlib.Omega.{arith}
use mathlib.Core.Path.{subst}
use Prim.Native.Nat.{◌+◌}
use lib.ListN.{length}
use Rattle.texts.specs.Names.{names_in}
use Rattle.texts.specs.Text.{LiteralText}
use Rattle.skips.specs.Rest.{SkipsMany}
use Rattle.stepping.specs.Heads.{head_short, head_skips}
use Rattle.stepping.proofs.head_at.Goals as goal

pub returns-then-book-a-lt4 : goal.returns-then-book-a-lt4
returns-then-book-a-lt4 c = (omega arith, head_short c.args.book.now c.args.a c.if-book-a-lt4.true)

pub returns : goal.returns
returns c = (c.skip_literals.ensures.0.1, head_skips c.args.book.now c.args.a _ (subst (λ k. SkipsMany (LiteralText (names_in c.args.book.now) c.args.book.now) (length c.args.book.now) (c.args.a + 4) k c.skip_literals.result) c.num16.ensures.0 c.skip_literals.ensures.1))
