-- Parts of a list of which another part was written over: what was written, and what stands before and behind it.
use Rattle.std.specs.Prelude.{◌≡◌, ℕ, ◌+◌, ◌-◌, ◌≤◌, ◌<◌}
use Rattle.std.proofs.Math.Path.{sym, ap}
use Rattle.std.proofs.Common.{◌∙◌, length-append, take-append-drop, drop-drop, drop_at, take-take}
use native.Mathlib.Omega.{arith}
use mathlib.Core.List.{List, ◌++◌, append_assoc}
use Rattle.std.proofs.Math.ListN.{length, get_or, take, drop, length-drop, get_or-append}
use Rattle.std.proofs.Math.Seq.{take-append-le, length-take-le, get_or-take}
use Rattle.std.proofs.lemmas.List.{drop-append-le}
use Rattle.rules.specs.Image.{part}
use Rattle.octets.specs.Patch.{patched}

pub part_length : (a n : ℕ) (s : List ℕ) → a + n ≤ length s → length (part a n s) ≡ n
unfolding part
part_length a n s h = length-take-le n (drop a s) (omega (arith, length-drop a s))

-- A part that is lent as far as it goes.
pub part_lent : (a n : ℕ) (s : List ℕ) → take (a + n - a) (drop a s) ≡ part a n s
unfolding part
part_lent a n s = let z : a + n - a ≡ n = omega arith in ap (λ k. take k (drop a s)) z

-- The front of a part that is lent.
pub part_front : (a k n : ℕ) (s : List ℕ) → n ≤ k → take n (take k (drop a s)) ≡ part a n s
unfolding part
part_front a k n s h = take-take n k (drop a s) h

module _ (a : ℕ) (p s : List ℕ) (fits : a + length p ≤ length s) where
  front : length (take a s ++ p) ≡ a + length p
  front = length-append (take a s) p ∙ ap (λ n. n + length p) (length-take-le a s (omega arith))

  pub part_here : (n : ℕ) → n ≤ length p → part a n (patched a p s) ≡ take n p
  unfolding part patched
  part_here n h =
      ap (λ (l : List ℕ). take n (drop a l)) (append_assoc (take a s) p _)
      ∙ ap (take n) (drop_at (take a s) (p ++ drop (a + length p) s) a (length-take-le a s (omega arith)))
      ∙ take-append-le n p (drop (a + length p) s) h

  pub part_before : (b n : ℕ) → b + n ≤ a → part b n (patched a p s) ≡ part b n s
  unfolding part patched
  part_before b n h =
      let w = length-take-le a s (omega arith) in
      ap (λ (l : List ℕ). take n (drop b l)) (append_assoc (take a s) p _)
      ∙ ap (take n) (drop-append-le b (take a s) (p ++ drop (a + length p) s) (omega arith))
      ∙ take-append-le n (drop b (take a s)) (p ++ drop (a + length p) s) (omega (arith, length-drop b (take a s)))
      ∙ sym (take-append-le n (drop b (take a s)) (drop a s) (omega (arith, length-drop b (take a s))))
      ∙ ap (take n) (sym (drop-append-le b (take a s) (drop a s) (omega arith)) ∙ ap (drop b) (take-append-drop a s))

  pub part_behind : (b n : ℕ) → a + length p ≤ b → part b n (patched a p s) ≡ part b n s
  unfolding part patched
  part_behind b n h =
      let e : a + length p + (b - (a + length p)) ≡ b = omega arith in
      ap (λ j. take n (drop j (take a s ++ p ++ drop (a + length p) s))) (sym e)
      ∙ ap (take n) (sym (drop-drop (b - (a + length p)) (a + length p) (take a s ++ p ++ drop (a + length p) s)))
      ∙ ap (λ (l : List ℕ). take n (drop (b - (a + length p)) l)) (drop_at (take a s ++ p) (drop (a + length p) s) (a + length p) front)
      ∙ ap (take n) (drop-drop (b - (a + length p)) (a + length p) s ∙ ap (λ j. drop j s) e)

  pub count_before : (i : ℕ) → i < a → get_or (patched a p s) i 0 ≡ get_or s i 0
  unfolding patched
  count_before i h =
      let w = length-take-le a s (omega arith) in
      ap (λ (l : List ℕ). get_or l i 0) (append_assoc (take a s) p _)
      ∙ get_or-append (take a s) (p ++ drop (a + length p) s) 0 i (omega arith) ∙ get_or-take a s i 0 h
