-- A lone sheet for a book that was read: the test on the bytes, with the names and the places that the book's text gives, comes to the
-- definition (01, "The pool": its place 0 or below the sequent count).
use Rattle.std.specs.Prelude.{◌≡◌, ℕ, max, Bool}
use Rattle.std.proofs.Common.{sym, ap, ap₂, ◌∙◌}
use Rattle.rules.specs.Book.{Names, Book}
use Rattle.rules.specs.Reading.{Bytes, num, got, read_book}
use Rattle.rules.specs.Sheet.{Limits}
use Rattle.rules.specs.Sound.{sound_lone}
use Rattle.texts.specs.Names.{names_in, count_at}
use Rattle.texts.specs.Heads.{accepted}
use Rattle.texts.specs.Texts.{sequents_got}
use Rattle.sheetparts.specs.Tests.{sheet_sound}

-- How many places a lone sheet can have, off the book's text.
abbrev pub lone_places : Bytes → ℕ
lone_places text = max 1 (num text (count_at text))

-- What the check of a lone sheet answers, for every book that the text is read as.
abbrev pub LoneSound : Limits → Bytes → Bytes → Bool → Type 0
LoneSound lim text s r = (b : Book) (e : ℕ) → read_book text ≡ got b e → r ≡ sound_lone lim b s

pub lone_out : (lim : Limits) (text s : Bytes) (r : Bool) (places : ℕ) → places ≡ lone_places text → r ≡ sheet_sound lim (names_in text) places s → LoneSound lim text s r
unfolding sound_lone sheet_sound
lone_out lim text s r places p q b e h =
    let a = accepted text b e h in
    q ∙ ap₂ (λ (d : Names) (n : ℕ). sheet_sound lim d n s) (sym a.head.are) (p ∙ ap (max 1) (sym (sequents_got text b a).1))
