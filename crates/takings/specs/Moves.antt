-- What take writes into the output: a copied slot.
use Rattle.std.specs.Prelude.{◌≡◌, refl, ℕ, ◌+◌, ◌<◌, ◌++◌, length, drop, set}
use Rattle.rules.specs.Reading.{Bytes}
use Rattle.rules.specs.Image.{part}
use Rattle.octets.specs.Words.{bytes_set}
use Rattle.sheetparts.specs.Tests.{byte_at}

-- j bytes from a on stand in front.
unfoldable pub copied : Bytes → ℕ → ℕ → Bytes → Bytes
copied p a j o = part a j p ++ drop j o

pub copy_none : (p : Bytes) (a : ℕ) (o : Bytes) → o ≡ copied p a 0 o
unfolding copied part
copy_none p a o = refl

pub copy_more : (p : Bytes) (a j : ℕ) (o : Bytes) → a + j < length p → j < length o → set (copied p a j o) j (byte_at p (a + j)) ≡ copied p a (j + 1) o
unfolding copied part
copy_more p a j o h l = bytes_set p a j o l h
