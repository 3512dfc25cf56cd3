-- What a writer leaves: the buffer with a text in it from a place on, and the place behind. One law for texts behind each other.
use Rattle.std.specs.Prelude.{◌≡◌, refl, ℕ, ◌+◌, ◌≤◌, ◌<◌, [], ◌∷◌, ◌++◌, length, set}
use Rattle.std.proofs.Common.{sym, ap, ◌∙◌, arith, length-append}
use Rattle.rules.specs.Reading.{Bytes}
use Rattle.octets.specs.Patch.{patched, patched_none, patched_length, patched_next, patched_one}

pub record Wrote (before : Bytes) (n : ℕ) (text after : Bytes) (r : ℕ) : Type 0 where
  pub is : after ≡ patched n text before
  pub end : r ≡ n + length text
  pub within : r ≤ length before

-- Nothing yet.
pub wrote_none : (s : Bytes) (n : ℕ) → n ≤ length s → Wrote s n [] s n
wrote_none s n h = record { is = sym (patched_none n s); end = omega arith; within = h }

pub wrote_length : (s : Bytes) (n : ℕ) (p t : Bytes) (r : ℕ) → Wrote s n p t r → length t ≡ length s
wrote_length s n p t r w = ap length w.is ∙ patched_length n p s (omega arith)

-- A text and another behind it.
pub wrote_next : {s : Bytes} {n : ℕ} {p t : Bytes} {m : ℕ} {q u : Bytes} {r : ℕ} → Wrote s n p t m → Wrote t m q u r → Wrote s n (p ++ q) u r
wrote_next {s} {n} {p} {t} {m} {q} {u} {r} v w =
    let l = wrote_length s n p t m v in
    record {
      is = w.is ∙ ap (patched m q) v.is ∙ patched_next n m p q s (sym v.end) (omega arith);
      end = omega (arith, length-append p q);
      within = omega arith;
    }

-- The same text in other words.
pub wrote_as : {s : Bytes} {n : ℕ} {p t : Bytes} {r : ℕ} (q : Bytes) → p ≡ q → Wrote s n p t r → Wrote s n q t r
wrote_as {s} {n} {p} {t} {r} q e w = record { is = w.is ∙ ap (λ (x : Bytes). patched n x s) e; end = w.end ∙ ap (λ (x : Bytes). n + length x) e; within = w.within }

-- One byte.
pub wrote_byte : (s : Bytes) (n x : ℕ) → n < length s → Wrote s n (x ∷ []) (set s n x) (n + 1)
wrote_byte s n x h = record { is = patched_one s n x h; end = refl; within = omega arith }
