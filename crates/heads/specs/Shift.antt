-- A list of 64 bytes in a pool, one slot shorter or longer, as it is written, and that this is the list filled up with zeros.
use Rattle.std.specs.Prelude.{◌≡◌}
use Rattle.std.proofs.Math.Path.{sym, ap, ap₂}
use Rattle.std.proofs.Common.{◌∙◌, add-one, length-drop, take-suc, drop-cons, drop-drop, length-take-le, get_or-drop}
use Prim.Native.Nat.{ℕ, suc, ◌+◌, ◌-◌, ◌≤◌, ◌<◌}
use native.Mathlib.Omega.{arith}
use mathlib.Core.List.{List, [], ◌∷◌, ◌++◌, append_assoc}
use Rattle.std.proofs.Math.ListN.{length, get_or, take, drop, set, replicate, length-append, length-replicate, replicate-append-replicate}
use Rattle.std.proofs.Math.Seq.{set_at, append_snoc, take_at, drop_at, take-take, paste}
use Rattle.std.proofs.lemmas.List.{set_split, take-append-le, drop-take}
use Rattle.std.specs.List.{copy_within}
use Rattle.rules.specs.Reading.{Bytes}
use Rattle.rules.specs.Image.{part, padded}
use Rattle.tables.specs.Table.{insert_at}

-- ---- parts

pub part_more : (p : Bytes) (a j : ℕ) → a + j < length p → part a (suc j) p ≡ part a j p ++ (get_or p (a + j) 0 ∷ [])
unfolding part
part_more p a j h = take-suc (drop a p) j 0 (simp length-drop (omega arith)) ∙ ap (λ (x : ℕ). take j (drop a p) ++ (x ∷ [])) (get_or-drop a p j 0)

part_long : (a j : ℕ) (p : Bytes) → a + j ≤ length p → length (part a j p) ≡ j
unfolding part
part_long a j p h = length-take-le j (drop a p) (simp length-drop (omega arith))

-- ---- a list without its first slot

-- All behind the first have moved down, and a zero stands behind them.
unfoldable pub moved_down : ℕ → Bytes → Bytes
moved_down at p = take at p ++ (part (at + 1) 63 p ++ (0 ∷ drop (at + 64) p))

pub lowered : (p : Bytes) (at : ℕ) → at + 64 ≤ length p → set (copy_within p (at + 1) (at + 64) at) (at + 63) 0 ≡ moved_down at p
unfolding moved_down part
lowered p at h =
    let n : at + 64 - (at + 1) ≡ 63 = omega arith in
    let e : suc (at + 63) ≡ at + 64 = omega arith in
    ap (λ k. set (paste p at (drop (at + 1) p) k) (at + 63) 0) n
    ∙ ap (λ l. set l (at + 63) 0) (ap (λ (l : Bytes). (take at p ++ part (at + 1) 63 p) ++ l) (drop-cons p (at + 63) 0 (omega arith)))
    ∙ set_at (take at p ++ part (at + 1) 63 p) (get_or p (at + 63) 0) (drop (suc (at + 63)) p) 0 (at + 63)
    (length-append (take at p) (part (at + 1) 63 p) ∙ ap₂ (λ (x y : ℕ). x + y) (length-take-le at p (omega arith)) (part_long (at + 1) 63 p (omega arith)))
    ∙ append_assoc (take at p) (part (at + 1) 63 p) (0 ∷ drop (suc (at + 63)) p) ∙ ap (λ k. take at p ++ (part (at + 1) 63 p ++ (0 ∷ drop k p))) e

-- ---- a list with a slot more in front

unfoldable pub moved_up : ℕ → ℕ → Bytes → Bytes
moved_up at x p = insert_at at x (take (at + 63) p) ++ drop (at + 63 + 1) p

pub raised : (p : Bytes) (at x : ℕ) → at + 64 ≤ length p → set (copy_within p at (at + 63) (at + 1)) at x ≡ moved_up at x p
unfolding moved_up
raised p at x h =
    let m : at + 63 - at ≡ 63 = omega arith in
    let r : Bytes = take 63 (drop at p) ++ drop (at + 1 + 63) p in
    let n : length (take (at + 1) p) ≡ suc at = length-take-le (at + 1) p (omega arith) ∙ add-one at in
    let f : take at (take (at + 1) p ++ r) ≡ take at p = take-append-le at (take (at + 1) p) r (omega arith) ∙ take-take at (at + 1) p (omega arith) in
    let b : drop (suc at) (take (at + 1) p ++ r) ≡ r = drop_at (take (at + 1) p) r (suc at) n in
    let e : at + 1 + 63 ≡ at + 63 + 1 = omega arith in
    ap (λ k. set (paste p (at + 1) (drop at p) k) at x) m ∙ ap (λ l. set l at x) (append_assoc (take (at + 1) p) (take 63 (drop at p)) (drop (at + 1 + 63) p))
    ∙ set_split (take (at + 1) p ++ r) at x (omega (arith, length-append (take (at + 1) p) r)) ∙ ap₂ (λ (u v : Bytes). u ++ (x ∷ v)) f b
    ∙ ap (λ k. take at p ++ (x ∷ (take 63 (drop at p) ++ drop k p))) e
    ∙ sym (append_assoc (take at p) (x ∷ take 63 (drop at p)) (drop (at + 63 + 1) p))
    ∙ ap₂ (λ (u v : Bytes). (u ++ (x ∷ v)) ++ drop (at + 63 + 1) p) (sym (take-take at (at + 63) p (omega arith))) (sym (drop-take at 63 p))

-- ---- on a list filled up with zeros, behind a and before z

module _ (a z : Bytes) (at : ℕ) (e : length a ≡ at) where
  zeros : ℕ → Bytes
  zeros n = replicate (63 - n) 0

  one_more_lem : (n : ℕ) → n < 64 → zeros n ++ (0 ∷ []) ≡ replicate (64 - n) 0
  unfolding zeros
  one_more_lem n h = replicate-append-replicate {A = ℕ} (63 - n) 1 0 ∙ ap (λ k. replicate k 0) (ones n h)
    where
      ones : (n : ℕ) → n < 64 → 63 - n + 1 ≡ 64 - n
      ones n h = omega arith

  filled : (xs : List ℕ) → length xs < 64 → length (xs ++ zeros (length xs)) ≡ 63
  unfolding zeros
  filled xs h = length-append xs (replicate (63 - length xs) 0) ∙ omega (arith, length-replicate {A = ℕ} (63 - length xs) 0)

  -- What is not full ends with a zero.
  loose : (xs : List ℕ) → length xs < 64 → padded 64 xs ≡ (xs ++ zeros (length xs)) ++ (0 ∷ [])
  unfolding padded
  loose xs h = sym (append_assoc xs (zeros (length xs)) (0 ∷ []) ∙ ap (λ (l : Bytes). xs ++ l) (one_more_lem (length xs) h))

  -- What has an entry begins with it.
  firm : (x : ℕ) (xs : List ℕ) → padded 64 (x ∷ xs) ≡ x ∷ (xs ++ zeros (length xs))
  unfolding padded zeros
  firm x xs = ap (λ k. x ∷ (xs ++ replicate k 0)) (less (length xs))
    where
      less : (n : ℕ) → 64 - suc n ≡ 63 - n
      less n = omega arith

  pub lower_list : (x : ℕ) (xs : List ℕ) → length xs < 64 → moved_down at (a ++ (padded 64 (x ∷ xs) ++ z)) ≡ a ++ (padded 64 xs ++ z)
  unfolding moved_down part
  lower_list x xs h =
      let m : Bytes = xs ++ zeros (length xs) in
      let s : a ++ (padded 64 (x ∷ xs) ++ z) ≡ a ++ (x ∷ (m ++ z)) = ap (λ (l : Bytes). a ++ (l ++ z)) (firm x xs) in
      let d1 : drop (at + 1) (a ++ (x ∷ (m ++ z))) ≡ m ++ z = sym (drop-drop 1 at _) ∙ ap (drop 1) (drop_at a (x ∷ (m ++ z)) at e) in
      let d64 : drop (at + 64) (a ++ (x ∷ (m ++ z))) ≡ z = sym (drop-drop 64 at _) ∙ ap (drop 64) (drop_at a (x ∷ (m ++ z)) at e) ∙ drop_at (x ∷ m) z 64 (ap suc (filled xs h)) in
      ap (moved_down at) s
      ∙ ap₂ (λ (u v : Bytes). u ++ v) (take_at a _ at e) (ap₂ (λ (u v : Bytes). u ++ (0 ∷ v)) (ap (take 63) d1 ∙ take_at m z 63 (filled xs h)) d64)
      ∙ ap (λ (u : Bytes). a ++ u) (sym (append_snoc m 0 z) ∙ ap (λ (l : Bytes). l ++ z) (sym (loose xs h)))

  pub raise_list : (x : ℕ) (xs : List ℕ) → length xs < 64 → moved_up at x (a ++ (padded 64 xs ++ z)) ≡ a ++ (padded 64 (x ∷ xs) ++ z)
  unfolding moved_up
  raise_list x xs h =
      let m : Bytes = xs ++ zeros (length xs) in
      let s : a ++ (padded 64 xs ++ z) ≡ (a ++ m) ++ (0 ∷ z) =
      ap (λ (l : Bytes). a ++ (l ++ z)) (loose xs h) ∙ ap (λ (l : Bytes). a ++ l) (append_snoc m 0 z) ∙ sym (append_assoc a m (0 ∷ z)) in
      let n : length (a ++ m) ≡ at + 63 = length-append a m ∙ ap₂ (λ (u v : ℕ). u + v) e (filled xs h) in
      let t : take (at + 63) ((a ++ m) ++ (0 ∷ z)) ≡ a ++ m = take_at (a ++ m) (0 ∷ z) (at + 63) n in
      let d : drop (at + 63 + 1) ((a ++ m) ++ (0 ∷ z)) ≡ z = sym (drop-drop 1 (at + 63) _) ∙ ap (drop 1) (drop_at (a ++ m) (0 ∷ z) (at + 63) n) in
      ap (moved_up at x) s
      ∙ ap₂ (λ (u v : Bytes). insert_at at x u ++ v) t d
      ∙ ap₂ (λ (u v : Bytes). (u ++ (x ∷ v)) ++ z) (take_at a m at e) (drop_at a m at e)
      ∙ append_assoc a (x ∷ m) z ∙ ap (λ (l : Bytes). a ++ (l ++ z)) (sym (firm x xs))

  pub append_list : (x : ℕ) (xs : List ℕ) → length xs < 64 → set (a ++ (padded 64 xs ++ z)) (at + length xs) x ≡ a ++ (padded 64 (xs ++ (x ∷ [])) ++ z)
  unfolding padded zeros
  append_list x xs h =
      let r : replicate (64 - length xs) 0 ≡ 0 ∷ zeros (length xs) = ap (λ k. replicate k 0) (down (length xs) h) in
      let s : a ++ ((xs ++ replicate (64 - length xs) 0) ++ z) ≡ (a ++ xs) ++ (0 ∷ (zeros (length xs) ++ z)) =
      ap (λ (l : Bytes). a ++ l) (append_assoc xs (replicate (64 - length xs) 0) z ∙ ap (λ (l : Bytes). xs ++ (l ++ z)) r) ∙ sym (append_assoc a xs _) in
      let k : 63 - length xs ≡ 64 - length (xs ++ (x ∷ [])) = omega (arith, length-append xs (x ∷ [])) in
      ap (λ (l : Bytes). set l (at + length xs) x) s
      ∙ set_at (a ++ xs) 0 (zeros (length xs) ++ z) x (at + length xs) (length-append a xs ∙ ap (λ n. n + length xs) e)
      ∙ append_assoc a xs (x ∷ (zeros (length xs) ++ z))
      ∙ ap (λ (l : Bytes). a ++ l) (sym (append_snoc xs x (zeros (length xs) ++ z)) ∙ ap (λ n. (xs ++ (x ∷ [])) ++ (replicate n 0 ++ z)) k ∙ sym (append_assoc (xs ++ (x ∷ [])) _ z))
    where
      down : (n : ℕ) → n < 64 → 64 - n ≡ suc (63 - n)
      down n h = omega arith
