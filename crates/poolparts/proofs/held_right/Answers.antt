-- The slot is lent on as a part of the pool.
use mathlib.Core.Path.{◌≡◌, ap, ◌∙◌}
use native.Mathlib.Omega.{arith}
use Rattle.std.proofs.lemmas.Grind.{common_steps}
use Rattle.rules.specs.Sheet.{limits}
use Rattle.rules.specs.Image.{part}
use Rattle.sheetparts.specs.Tests.{sheet_sound}
use Rattle.texts.specs.Names.{names_in}
use Rattle.poolparts.specs.Tests.{start_of, held_right}
use Rattle.poolparts.specs.Ways.{fair_limits, lent_part, lent_length}
use Rattle.poolparts.proofs.held_right.Goals as goal

pub sheet_sound-requires : goal.sheet_sound-requires
unfolding limits
sheet_sound-requires c = rw c.slot_at-a.ensures (fair_limits, lent_length _ _ c.requires.1)

pub returns-then-differs : goal.returns-then-differs
unfolding held_right limits
returns-then-differs c =
    let s : c.sheet_sound.result ≡ sheet_sound limits (names_in c.args.book.now) c.args.places (part (start_of c.args.i) 2128 c.args.p.now) =
    rw c.slot_at-a.ensures at c.sheet_sound.ensures ∙ ap (sheet_sound limits (names_in c.args.book.now) c.args.places) (lent_part _ c.args.p.now) in
    grind (arith, common_steps)
