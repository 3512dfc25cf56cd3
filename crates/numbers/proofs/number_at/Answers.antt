-- The text ends before the number, or the number is there.
use Rattle.std.proofs.Common.{◌+◌, length, arith, le-leb}
use Rattle.std.proofs.lemmas.Bool.{lt-leb}
use Rattle.base.specs.Branch.{if}
use Rattle.rules.specs.Reading.{number}
use Rattle.numbers.proofs.number_at.Goals as goal

pub returns-then-rest-lt2 : goal.returns-then-rest-lt2
unfolding number if
returns-then-rest-lt2 c = let h = c.rest.ensures.0 in rw (c.refuse.ensures, lt-leb (c.args.at + 2) (length c.args.book.now) (omega arith))

pub returns-else-rest-lt2 : goal.returns-else-rest-lt2
unfolding number if
returns-else-rest-lt2 c = let h = c.rest.ensures.0 in rw (le-leb (c.args.at + 2) (length c.args.book.now) (omega arith), c.num16.ensures.0)
