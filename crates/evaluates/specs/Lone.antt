-- A lone sheet that passed the checks: its book was read, and it is sound for it (rules.Sound.sound_lone). Its working form is a basis for the
-- evaluator, which answers for the sheet that the bytes say.
use Rattle.std.specs.Prelude.{◌≡◌, ℕ, ◌≤◌, ◌<◌, max, Bool, true, Option, length, get_or, T}
use Rattle.std.proofs.Math.Path.{sym, subst}
use Rattle.std.proofs.Common.{◌∙◌, arith}
use mathlib.Core.List.{List, [], append-nil}
use Rattle.std.proofs.Math.Dec.{ltb→lt}
use Rattle.base.specs.Lists.{equal}
use Rattle.base.specs.ListLaws.{equal_eq}
use Rattle.base.specs.BranchLaws.{and_l, and_r}
use Rattle.rules.specs.Book.{Book, rules}
use Rattle.rules.specs.Reading.{Bytes, num, got, read_book}
use Rattle.rules.specs.Sheet.{Sheet, Limits, limits}
use Rattle.rules.specs.Image.{sheet_bytes, sheet_in}
use Rattle.rules.specs.Sound.{sound_model, sound_sheet, sound_lone}
use Rattle.rules.specs.Fire.{firing, Strategy, visits}
use Rattle.images.specs.Storable.{small_limits, StorableSheet}
use Rattle.soundness.specs.Neat.{Neat}
use Rattle.soundness.specs.Model.{sound_neat}
use Rattle.soundness.specs.Book.{SmallNames, read_small}
use Rattle.demands.specs.Shape.{storable_model}
use Rattle.texts.specs.Names.{names_in, count_at}
use Rattle.texts.specs.Heads.{Accepted, accepted, ReadAs}
use Rattle.texts.specs.Texts.{sequents_got}
use Rattle.sheetcheck.specs.Lone.{LoneSound}
use Rattle.sheets.specs.Form.{Holds}
use Rattle.sheets.specs.Load.{Loaded}
use Rattle.slots.specs.Carry.{loaded_holds}
use Rattle.evaluate.specs.declared.Fired.{Fired}
use Rattle.evaluate.specs.Answers.{Answers}
use Rattle.evalforms.specs.Basis.{Basis, Evaluated}

-- The limits of this version, as code has them.
abbrev pub L : Limits
L = record { elements = 64; keys = 128; facts = 128 }

pub record Lone (text s : Bytes) : Type 0 where
  pub read : ReadAs text
  pub number : num s 0 < 65536
  pub sound : T (sound_lone L read.book s)

-- The check of the sheet gave true.
pub lone : (text s : Bytes) → ReadAs text → ((i : ℕ) → get_or s i 0 < 256) → (r : Bool) → LoneSound L text s r → r ≡ true → Lone text s
unfolding num
lone text s read bytes r e t = record {
  read = read;
  number = omega (arith, bytes 0, bytes 1);
  sound = subst T (sym t ∙ e read.book read.end read.reads) tt;
}

-- What fires on the sheet that the bytes say, over the sequents of the book in the order of the strategy.
abbrev pub FiresOn : Bytes → Strategy → Bytes → Option Fired → List ℕ → Type 0
FiresOn text strategy s r env = (b : Book) (e : ℕ) → read_book text ≡ got b e
    → Answers text (firing (sheet_in L s).model (visits strategy (sheet_in L s).place (rules b))) env r

module _ (text s : Bytes) (z : Lone text s) where
  abbrev b : Book
  b = z.read.book

  abbrev sheet : Sheet
  sheet = sheet_in L s

  book : Accepted text b
  book = accepted text b z.read.end z.read.reads

  image : sheet_bytes L sheet ≡ s
  unfolding sound_lone
  image = equal_eq (sheet_bytes L sheet) s (and_l (equal (sheet_bytes L sheet) s) _ z.sound)

  sheet_sound_lem : T (sound_sheet L b.names (max 1 (length b.sequents)) sheet)
  unfolding sound_lone
  sheet_sound_lem = and_r (equal (sheet_bytes L sheet) s) _ z.sound

  small : SmallNames (names_in text)
  small = subst SmallNames book.head.are (read_small text b z.read.end z.read.reads).0

  neat : Neat L (names_in text) sheet.model
  unfolding sound_sheet
  neat = subst (λ d. Neat L d sheet.model) book.head.are (sound_neat L b.names sheet.model (and_l (sound_model L b.names sheet.model) _ sheet_sound_lem))

  low : sheet.place ≤ num text (count_at text)
  unfolding sound_sheet
  low =
      let l = ltb→lt sheet.place (max 1 (length b.sequents)) (and_r (sound_model L b.names sheet.model) _ sheet_sound_lem) in
      omega (arith, (sequents_got text b book).1)

  storable : StorableSheet L sheet
  unfolding sheet_in
  storable = record { number = z.number; place = omega (arith, low, book.count); model = storable_model L (names_in text) small sheet.model neat }

  module _ (base : List ℕ) (l : Loaded L s base) where
    holds : Holds L base sheet
    unfolding limits
    holds = loaded_holds L small_limits sheet storable [] base (subst (λ x. Loaded L x base) (sym image ∙ sym (append-nil (sheet_bytes L sheet))) l)

    pub basis : Basis text L base
    basis = record { sheet = sheet; holds = holds; small = small; neat = neat; few = omega arith; low = low; short = book.small }

    pub fires_on : (strategy : Strategy) (r : Option Fired) (env : List ℕ) → Evaluated text strategy L base r env → FiresOn text strategy s r env
    fires_on strategy r env v c e q = v c e q sheet holds small neat (omega arith)
