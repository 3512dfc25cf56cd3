-- A pool for an accepted book: its names are those of the head, its sequents as many as the count; and the accepted lengths.
use Rattle.std.specs.Prelude.{◌≡◌, ℕ, ◌+◌, ◌-◌, ◌*◌, ◌/◌, ◌≤◌, ◌<◌, Bool, true, false, ◌&&◌, length, T, leb, eqb}
use Rattle.std.proofs.Common.{sym, ◌∙◌, eqb→eq, leb→le}
use Rattle.std.proofs.Math.Path.{ap, ap₂}
use Rattle.base.specs.BranchLaws.{and_l, and_r}
use Rattle.rules.specs.Book.{Book, Names}
use Rattle.rules.specs.Reading.{Bytes, num}
use Rattle.rules.specs.Sheet.{limits}
use Rattle.rules.specs.Fire.{places}
use Rattle.rules.specs.Pool.{strategy_of}
use Rattle.rules.specs.Image.{head_size, sheet_size, slots_in, most_slots, pool_in}
use Rattle.rules.specs.Sound.{sound}
use Rattle.rules.specs.Calls.{right_length}
use Rattle.texts.specs.Names.{names_in, count_at}
use Rattle.texts.specs.Heads.{Accepted}
use Rattle.texts.specs.Texts.{sequents_got}
use Rattle.sheetparts.specs.Tests.{byte_at}
use Rattle.poolparts.specs.Tests.{frame_right, slots_right}
use Rattle.poolcheck.specs.Pools.{pool_test}

-- A right length is that of a head and of the slots that it has room for.
pub right_slots : (len : ℕ) → T (right_length len) → (len ≡ 208 + 2128 * ((len - 208) / 2128)) × ((1 ≤ (len - 208) / 2128) × ((len - 208) / 2128 ≤ 64))
unfolding right_length head_size slots_in sheet_size limits most_slots
right_slots len t =
    let n = (len - 208) / 2128 in
    let u = and_r (eqb len (208 + 2128 * n)) (leb 1 n && leb n 64) t in
    (eqb→eq len (208 + 2128 * n) (and_l (eqb len (208 + 2128 * n)) (leb 1 n && leb n 64) t), (leb→le 1 n (and_l (leb 1 n) (leb n 64) u), leb→le n 64 (and_r (leb 1 n) (leb n 64) u)))

module _ (book p : Bytes) (n : ℕ) (len : length p ≡ 208 + 2128 * n) (bytes : (i : ℕ) → byte_at p i < 256) (b : Book) (ok : Accepted book b) where
  abbrev spots : ℕ
  spots = places (strategy_of (byte_at p 6)) (num book (count_at book))

  tested : frame_right p n && slots_right (names_in book) spots p n ≡ sound limits b p
  unfolding pool_in
  tested =
      let c = (sequents_got book b ok).1 in
      ap₂ (λ (d : Names) (k : ℕ). frame_right p n && slots_right d (places (strategy_of (byte_at p 6)) k) p n) (sym ok.head.are) (sym c)
      ∙ pool_test b p n len bytes

  pub slots_out : frame_right p n ≡ true → slots_right (names_in book) spots p n ≡ sound limits b p
  slots_out e = sym (ap (λ a. a && slots_right (names_in book) spots p n) e) ∙ tested

  pub frame_out : frame_right p n ≡ false → false ≡ sound limits b p
  frame_out e = sym (ap (λ a. a && slots_right (names_in book) spots p n) e) ∙ tested

-- What the check of a pool answers, for every book that the text is read as.
abbrev pub PoolSound : Bytes → Bytes → Bool → Type 0
PoolSound book p r = (b : Book) → Accepted book b → r ≡ sound limits b p
