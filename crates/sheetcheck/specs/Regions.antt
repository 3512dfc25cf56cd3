-- Regions of bytes that are the image of what they say: a padded list is its region if the list stands in front and zeros behind;
-- a table is its region if each entry is its part.
use Rattle.std.specs.Prelude.{◌≡◌, refl, ◌∷◌, ◌++◌, map, get_or, drop, T}
use Rattle.std.proofs.Math.Path.{sym, ap, ap₂}
use Rattle.std.proofs.Common.{◌∙◌, subst, mul-zero, arith, length-take, take_at, drop_at, drop-drop, drop-cons, get_or-take, get_or-drop, ext_get_or, eqb→eq}
use Prim.Native.Nat.{ℕ, zero, suc, ◌+◌, ◌-◌, ◌*◌, ◌≤◌, ◌<◌}
use Rattle.std.proofs.Math.Nat.{mul-suc}
use Rattle.std.proofs.Math.ListN.{length, take, replicate, length-drop}
use Rattle.std.proofs.lemmas.List.{length-replicate, get_or-replicate}
use Rattle.std.proofs.Math.Seq.{take-add, length-take-le, take-append_seam, drop-append_seam}
use Rattle.base.specs.Lists.{All, flat, from}
use Rattle.base.specs.BranchLaws.{eq→eqb}
use Rattle.rules.specs.Reading.{Bytes}
use Rattle.rules.specs.Image.{padded, part, parts}
use Rattle.sheetparts.specs.Loops.{up_to, every_at, at_every}
use Rattle.sheetparts.specs.Tests.{byte_at, zero_at, zeros}

-- Joins of one length are equal part by part.
pub join_split : (a b c d : Bytes) → length a ≡ length c → a ++ b ≡ c ++ d → (a ≡ c) × (b ≡ d)
join_split a b c d l e = (
  sym (take-append_seam a b) ∙ ap (take (length a)) e ∙ take_at c d (length a) (sym l),
  sym (drop-append_seam a b) ∙ ap (drop (length a)) e ∙ drop_at c d (length a) (sym l),
)

-- ---- parts

pub part_length : (a n : ℕ) (s : Bytes) → a + n ≤ length s → length (part a n s) ≡ n
unfolding part
part_length a n s h = simp (length-take, length-drop) (omega arith)

pub part_at : (a n : ℕ) (s : Bytes) (i : ℕ) → i < n → get_or (part a n s) i 0 ≡ byte_at s (a + i)
unfolding part
part_at a n s i h = get_or-take n (drop a s) i 0 h ∙ get_or-drop a s i 0

pub part_join : (a n m : ℕ) (s : Bytes) → m ≤ n → part a n s ≡ part a m s ++ part (a + m) (n - m) s
unfolding part
part_join a n m s h =
    let e : n ≡ m + (n - m) = omega arith in
    ap (λ k. take k (drop a s)) e ∙ take-add m (n - m) (drop a s) ∙ ap (λ l. take m (drop a s) ++ take (n - m) l) (drop-drop m a s)

-- A part byte by byte.
row_from : (s : Bytes) (a i n : ℕ) → a + i + n ≤ length s → take n (drop (a + i) s) ≡ map (λ j. byte_at s (a + j)) (from i n)
unfolding from
row_from s a i zero h = refl
row_from s a i (suc n) h =
    let e : suc (a + i) ≡ a + suc i = omega arith in
    ap (take (suc n)) (drop-cons s (a + i) 0 (omega arith))
    ∙ ap (λ (l : Bytes). byte_at s (a + i) ∷ l) (ap (λ k. take n (drop k s)) e ∙ row_from s a (suc i) n (omega arith))

pub part_row : (s : Bytes) (a n : ℕ) → a + n ≤ length s → part a n s ≡ map (λ j. byte_at s (a + j)) (up_to 0 n)
unfolding part up_to
part_row s a n h =
    let e : a ≡ a + 0 = omega arith in
    let z : n ≡ n - 0 = omega arith in
    ap (λ k. take n (drop k s)) e ∙ row_from s a 0 n (omega arith) ∙ ap (λ k. map (λ j. byte_at s (a + j)) (from 0 k)) z

-- ---- zeros

pub zeros_part : (s : Bytes) (a n : ℕ) → a + n ≤ length s → T (zeros s a n) → replicate n 0 ≡ part a n s
unfolding zeros zero_at
zeros_part s a n h t =
    ext_get_or 0 (replicate n 0) (part a n s) (length-replicate n 0 ∙ sym (part_length a n s h))
    (λ i l. let k : i < n = subst (λ m. i < m) (length-replicate n 0) l in
    get_or-replicate n i 0 0 k ∙ sym (part_at a n s i k ∙ eqb→eq (byte_at s (a + i)) 0 (every_at (zero_at s a) n t i k)))

pub part_zeros : (s : Bytes) (a n : ℕ) → replicate n 0 ≡ part a n s → T (zeros s a n)
unfolding zeros zero_at
part_zeros s a n e = at_every (zero_at s a) n (λ i h. eq→eqb (byte_at s (a + i)) 0 (sym (part_at a n s i h) ∙ ap (λ l. get_or l i 0) (sym e) ∙ get_or-replicate n i 0 0 h))

-- ---- a padded list

module _ (s : Bytes) (a n m : ℕ) (xs : Bytes) (fits : a + n ≤ length s) (h : m ≤ n) (l : length xs ≡ m) where
  pub region_front : padded n xs ≡ part a n s → (xs ≡ part a m s) × T (zeros s (a + m) (n - m))
  unfolding padded
  region_front e =
      let q = join_split xs (replicate (n - length xs) 0) (part a m s) (part (a + m) (n - m) s) (l ∙ sym (part_length a m s (omega arith))) (e ∙ part_join a n m s h) in
      (q.0, part_zeros s (a + m) (n - m) (ap (λ k. replicate (n - k) 0) (sym l) ∙ q.1))

  pub front_region : xs ≡ part a m s → T (zeros s (a + m) (n - m)) → padded n xs ≡ part a n s
  unfolding padded
  front_region e t =
      ap₂ (λ (x y : Bytes). x ++ y) e (ap (λ k. replicate (n - k) 0) l ∙ zeros_part s (a + m) (n - m) (omega arith) t) ∙ sym (part_join a n m s h)

-- ---- a table

parts_from : (size k : ℕ) (s : Bytes) (a i : ℕ) → parts size k (drop (a + size * i) s) ≡ map (λ j. part (a + size * j) size s) (from i k)
unfolding parts from part
parts_from size zero s a i = refl
parts_from size (suc k) s a i =
    let e : a + size * i + size ≡ a + size * suc i = omega (arith, mul-suc size i) in
    ap (λ l. take size (drop (a + size * i) s) ∷ l) (ap (parts size k) (drop-drop size (a + size * i) s ∙ ap (λ m. drop m s) e) ∙ parts_from size k s a (suc i))

pub parts_row : (size k : ℕ) (s : Bytes) (a : ℕ) → parts size k (drop a s) ≡ map (λ j. part (a + size * j) size s) (up_to 0 k)
unfolding up_to
parts_row size k s a =
    let e : a ≡ a + size * 0 = omega (arith, mul-zero size) in
    let z : k ≡ k - 0 = omega arith in
    ap (λ m. parts size k (drop m s)) e ∙ parts_from size k s a 0 ∙ ap (λ m. map (λ j. part (a + size * j) size s) (from 0 m)) z

module _ (size : ℕ) (f : Bytes → Bytes) (sized : (p : Bytes) → length p ≡ size → length (f p) ≡ size) where
  pub table_parts : (k : ℕ) (s : Bytes) → size * k ≤ length s → flat (map f (parts size k s)) ≡ take (size * k) s → All (λ p. f p ≡ p) (parts size k s)
  unfolding parts flat
  table_parts zero s h e = tt
  table_parts (suc k) s h e =
      let m : size * suc k ≡ size + size * k = omega (arith, mul-suc size k) in
      let l : length (take size s) ≡ size = length-take-le size s (omega arith) in
      let q = join_split (f (take size s)) (flat (map f (parts size k (drop size s)))) (take size s) (take (size * k) (drop size s)) (sized (take size s) l ∙ sym l)
      (e ∙ ap (λ n. take n s) m ∙ take-add size (size * k) s) in
      (q.0, table_parts k (drop size s) (simp length-drop (omega arith)) q.1)

  pub parts_table : (k : ℕ) (s : Bytes) → All (λ p. f p ≡ p) (parts size k s) → flat (map f (parts size k s)) ≡ take (size * k) s
  unfolding parts flat
  parts_table zero s a = ap (λ n. take n s) (sym (mul-zero size))
  parts_table (suc k) s a =
      let m : size + size * k ≡ size * suc k = omega (arith, mul-suc size k) in
      ap₂ (λ (x y : Bytes). x ++ y) a.0 (parts_table k (drop size s) a.1) ∙ sym (take-add size (size * k) s) ∙ ap (λ n. take n s) m
