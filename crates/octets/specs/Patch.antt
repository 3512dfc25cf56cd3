-- A list with some of its entries written over, and patches one behind the other.
use Rattle.std.specs.Prelude.{◌≡◌, refl, get_or, drop, set}
use Rattle.std.proofs.Math.Path.{sym, ap, ap₂}
use Rattle.std.proofs.Common.{◌∙◌, add-zero, mul-zero, arith, add-one, length-take, length-drop, take-append-drop, drop_of_length-le, drop-drop, length-take-le, take_at, take_all}
use Prim.Native.Nat.{ℕ, zero, suc, ◌+◌, ◌-◌, ◌*◌, ◌≤◌, ◌<◌}
use Rattle.std.proofs.Math.Nat.{mul-suc, mul-sub}
use mathlib.Core.List.{List, [], ◌∷◌, ◌++◌, append_assoc, append-nil, map}
use Rattle.std.proofs.Math.ListN.{length, take, replicate, length-append, length-replicate, replicate-append-replicate}
use Rattle.std.proofs.lemmas.List.{get_or-replicate, set_split}
use Rattle.std.proofs.Math.Seq.{take-suc, drop-append-add, append_snoc}
use borrow.Rule.Slice.PartMut.{put_mid, mid_of, mid_len}
use Rattle.base.specs.Lists.{flat}
use Rattle.base.specs.ListLaws.{map_append}
use Rattle.rules.specs.Image.{padded}
use Rattle.images.specs.Regions.{flat_append}

-- p stands in s from a on.
unfoldable pub patched : ℕ → List ℕ → List ℕ → List ℕ
patched a p s = take a s ++ p ++ drop (a + length p) s

pub patched_none : (a : ℕ) (s : List ℕ) → patched a [] s ≡ s
unfolding patched
patched_none a s = simp (append-nil, add-zero, take-append-drop)

pub patched_length : (a : ℕ) (p s : List ℕ) → a + length p ≤ length s → length (patched a p s) ≡ length s
unfolding patched
patched_length a p s h = simp (length-append, length-take, length-drop) (omega arith)

-- A patch behind a patch is one patch.
pub patched_next : (a b : ℕ) (p q s : List ℕ) → a + length p ≡ b → b + length q ≤ length s → patched b q (patched a p s) ≡ patched a (p ++ q) s
unfolding patched
patched_next a b p q s e h =
    let l : length (take a s ++ p) ≡ b = length-append (take a s) p ∙ ap (λ n. n + length p) (length-take-le a s (omega arith)) ∙ e in
    let m : a + length p + length q ≡ a + length (p ++ q) = omega (arith, length-append p q) in
    let r : drop (b + length q) (take a s ++ p ++ drop (a + length p) s) ≡ drop (a + length (p ++ q)) s =
    ap (λ n. drop (n + length q) (take a s ++ p ++ drop (a + length p) s)) (sym l)
    ∙ drop-append-add (take a s ++ p) (drop (a + length p) s) (length q)
    ∙ drop-drop (length q) (a + length p) s
    ∙ ap (λ n. drop n s) m in
    ap₂ (λ (x y : List ℕ). x ++ q ++ y) (take_at (take a s ++ p) (drop (a + length p) s) b l) r
    ∙ ap (λ (x : List ℕ). x ++ drop (a + length (p ++ q)) s) (append_assoc (take a s) p q)

-- A patch of the whole.
pub patched_all : (p s : List ℕ) → length p ≡ length s → patched 0 p s ≡ p
unfolding patched
patched_all p s e = ap (λ (x : List ℕ). p ++ x) (drop_of_length-le s {i = 0 + length p} (omega arith)) ∙ append-nil p

-- A part that was lent from a on and came back is a patch.
pub patched_part : (a k : ℕ) (p s : List ℕ) → length p ≡ k → put_mid a k s p ≡ patched a p s
unfolding patched
patched_part a k p s e =
    ap (λ (x : List ℕ). take a s ++ (p ++ x)) (drop-drop k a s ∙ ap (λ n. drop (a + n) s) (sym e)) ∙ sym (append_assoc (take a s) p _)

-- So it is where k entries were lent and q came back.
pub patched_lent : (a k : ℕ) (p q s : List ℕ) → a + k ≤ length s → length p ≡ length (mid_of a (a + k - a) s) → p ≡ q → put_mid a (a + k - a) s p ≡ patched a q s
patched_lent a k p q s h l e = patched_part a (a + k - a) p s (l ∙ mid_len a (a + k) s h) ∙ ap (λ x. patched a x s) e

-- ---- tables written entry by entry, each in so many bytes

module _ (k : ℕ) (f : ℕ → List ℕ) (sized : (x : ℕ) → length (f x) ≡ k) where
  pub flat_length : (xs : List ℕ) → length (flat (map f xs)) ≡ k * length xs
  unfolding flat
  flat_length [] = sym (mul-zero k)
  flat_length (x ∷ xs) = omega (arith, length-append (f x) (flat (map f xs)), sized x, flat_length xs, mul-suc k (length xs))

  -- One more entry.
  pub patched_more : (at : ℕ) (xs s : List ℕ) (i j : ℕ) → i < length xs → j ≡ at + k * i → j + k ≤ length s
      → patched j (f (get_or xs i 0)) (patched at (flat (map f (take i xs))) s) ≡ patched at (flat (map f (take (i + 1) xs))) s
  unfolding flat
  patched_more at xs s i j h e q =
      let n : length (flat (map f (take i xs))) ≡ k * i = flat_length (take i xs) ∙ ap (λ n. k * n) (length-take-le i xs (omega arith)) in
      patched_next at j (flat (map f (take i xs))) (f (get_or xs i 0)) s (omega arith) (omega (arith, sized (get_or xs i 0)))
      ∙ ap (λ (p : List ℕ). patched at p s) (sym (ap (λ (l : List ℕ). flat (map f l)) (ap (λ j. take j xs) (add-one i) ∙ take-suc xs i 0 h) ∙ (simp (map_append, flat_append, append-nil))))

  -- All entries, and zeros for the rest of their room.
  pub patched_table : (at size a m i : ℕ) (xs s w zs : List ℕ) → k * length xs ≤ size → at + size ≤ length s → length xs ≤ i
      → w ≡ patched at (flat (map f (take i xs))) s → a ≡ at + k * length xs → m ≡ at + size - a → zs ≡ replicate (length (mid_of a m w)) 0
      → put_mid a m w zs ≡ patched at (padded size (flat (map f xs))) s
  unfolding padded
  patched_table at size a m i xs s w zs h q l e j r z =
      let p = flat (map f xs) in
      let n : length p ≡ k * length xs = flat_length xs in
      let e' : w ≡ patched at p s = e ∙ ap (λ (x : List ℕ). patched at (flat (map f x)) s) (take_all i xs l) in
      let v : length w ≡ length s = ap length e' ∙ patched_length at p s (omega arith) in
      let y : zs ≡ replicate m 0 = z ∙ ap (λ b. replicate b 0) (within a m w (omega arith)) in
      let o : m ≡ size - length p = omega arith in
      patched_part a m zs w (ap length y ∙ length-replicate m 0)
      ∙ ap (patched a zs) e' ∙ ap (λ (x : List ℕ). patched a x (patched at p s)) (y ∙ ap (λ b. replicate b 0) o)
      ∙ patched_next at a p (replicate (size - length p) 0) s (omega arith) (simp length-replicate (omega arith))
    where
      within : (a m : ℕ) (w : List ℕ) → a + m ≤ length w → length (mid_of a m w) ≡ m
      within a m w h = length-take-le m (drop a w) (omega (arith, length-drop a w))

  -- Zeros behind the entries are entries of zeros.
  pub flat_padded : f 0 ≡ replicate k 0 → (room : ℕ) (xs : List ℕ) → length xs ≤ room → flat (map f (padded room xs)) ≡ padded (k * room) (flat (map f xs))
  unfolding padded flat
  flat_padded z room xs h =
      let d : k * (room - length xs) ≡ k * room - length (flat (map f xs)) = mul-sub k room (length xs) ∙ ap (λ n. k * room - n) (sym (flat_length xs)) in
      rw (map_append, flat_append) (ap (λ (l : List ℕ). flat (map f xs) ++ l) (zeros (room - length xs) ∙ ap (λ n. replicate n 0) d))
    where
      zeros : (n : ℕ) → flat (map f (replicate n 0)) ≡ replicate (k * n) 0
      zeros zero = ap (λ m. replicate m 0) (sym (mul-zero k))
      zeros (suc n) =
          let q : k + k * n ≡ k * suc n = omega (arith, mul-suc k n) in
          ap₂ (λ (a b : List ℕ). a ++ b) z (zeros n) ∙ replicate-append-replicate k (k * n) 0 ∙ ap (λ m. replicate m 0) q

-- What a padded list has at a place within its room.
pub padded_at : (room : ℕ) (xs : List ℕ) (i : ℕ) → i < room → length xs ≤ room → get_or (padded room xs) i 0 ≡ get_or xs i 0
unfolding padded
padded_at room [] i h l = get_or-replicate (room - 0) i 0 0 (omega arith)
padded_at room (x ∷ xs) zero h l = refl
padded_at zero (x ∷ xs) (suc i) h l = absurd (omega arith)
padded_at (suc room) (x ∷ xs) (suc i) h l =
    let e : suc room - suc (length xs) ≡ room - length xs = omega arith in
    ap (λ n. get_or (xs ++ replicate n 0) i 0) e ∙ padded_at room xs i (omega arith) (omega arith)

-- One entry set.
pub patched_one : (s : List ℕ) (j v : ℕ) → j < length s → set s j v ≡ patched j (v ∷ []) s
unfolding patched
patched_one s j v h = set_split s j v h ∙ sym (append_snoc (take j s) v (drop (suc j) s)) ∙ ap (λ n. take j s ++ (v ∷ []) ++ drop n s) (sym (add-one j))
