-- The shapes that an image is built of, each with one law: a list padded with zeros, and a table of entries of one size.
-- A region is read back by cutting at its seams: each part's length is known, so take and drop meet the `++` that wrote it.
use Rattle.std.specs.Prelude.{◌≡◌, ℕ, suc, ◌+◌, ◌-◌, ◌*◌, ◌≤◌, ◌<◌, length, get_or, take, drop, set, replicate}
use Rattle.std.proofs.Math.Path.{refl, sym, ap₂}
use Rattle.std.proofs.Common.{ap, ◌∙◌, mul-zero, arith, length-take-le, take-take, drop-drop}
use Rattle.std.proofs.Math.Nat.{mul-suc}
use mathlib.Core.List.{List, [], ◌∷◌, ◌++◌, map, append_assoc}
use Rattle.std.proofs.Math.ListN.{length-append}
use Rattle.std.proofs.lemmas.List.{length-replicate, set_split}
use Rattle.std.proofs.Math.Seq.{take_at, drop_at, split_at}
use Rattle.base.specs.Lists.{All, flat}
use Rattle.base.specs.ListLaws.{map_append, all_take}
use Rattle.rules.specs.Reading.{Bytes}
use Rattle.rules.specs.Image.{padded, parts}

-- ---- padding

pub padded_length : (n : ℕ) (xs : Bytes) → length xs ≤ n → length (padded n xs) ≡ n
unfolding padded
padded_length n xs h = simp (length-append, length-replicate) (omega arith)

-- What was padded, read by its length, whatever comes behind.
pub padded_take : (n k : ℕ) (xs rest : Bytes) → length xs ≡ k → take k (padded n xs ++ rest) ≡ xs
unfolding padded
padded_take n k xs rest e = rw append_assoc (take_at xs (replicate (n - length xs) 0 ++ rest) k e)

-- The same, read out of the region alone.
pub padded_back : (n : ℕ) (xs rest : Bytes) → length xs ≤ n → take (length xs) (take n (padded n xs ++ rest)) ≡ xs
padded_back n xs rest h = take-take (length xs) n (padded n xs ++ rest) h ∙ padded_take n (length xs) xs rest refl

-- Behind a region: where it stands at a, what follows stands at a + n.
pub padded_next : (a n : ℕ) (s xs rest : Bytes) → length xs ≤ n → drop a s ≡ padded n xs ++ rest → drop (a + n) s ≡ rest
padded_next a n s xs rest h e = sym (drop-drop n a s) ∙ ap (drop n) e ∙ drop_at (padded n xs) rest n (padded_length n xs h)

-- ---- tables

pub flat_append {ℓ} : {A : Type ℓ} (xs ys : List (List A)) → flat (xs ++ ys) ≡ flat xs ++ flat ys
unfolding flat
flat_append [] ys = refl
flat_append (x ∷ xs) ys = rw (flat_append xs ys, append_assoc)

module _ {A : Type 0} (size : ℕ) (P : A → Type 0) (f : A → Bytes) (sized : (x : A) → P x → length (f x) ≡ size) where
  pub table_length : (xs : List A) → All P xs → length (flat (map f xs)) ≡ size * length xs
  unfolding flat
  table_length [] a = sym (mul-zero size)
  table_length (x ∷ xs) a =
      omega (arith, length-append (f x) (flat (map f xs)), sized x a.0, table_length xs a.1, mul-suc size (length xs))

  pub table_back : (g : Bytes → A) → ((x : A) → P x → g (f x) ≡ x) → (xs : List A) → All P xs → (rest : Bytes)
      → map g (parts size (length xs) (flat (map f xs) ++ rest)) ≡ xs
  unfolding parts flat
  table_back g back [] a rest = refl
  table_back g back (x ∷ xs) a rest =
      let e = sized x a.0 in
      let t = flat (map f xs) ++ rest in
      rw (append_assoc, take_at (f x) t size e, drop_at (f x) t size e)
      (ap₂ (λ (y : A) (ys : List A). y ∷ ys) (back x a.0) (table_back g back xs a.1 rest))

  -- A table that was padded: so many entries of it, given that there are so many.
  pub padded_table : (g : Bytes → A) → ((x : A) → P x → g (f x) ≡ x) → (xs : List A) → All P xs → (n k : ℕ) (s rest : Bytes)
      → k ≡ length xs → s ≡ padded n (flat (map f xs)) ++ rest → map g (parts size k s) ≡ xs
  unfolding padded
  padded_table g back xs a n k s rest e q =
      ap₂ (λ (j : ℕ) (l : Bytes). map g (parts size j l)) e (q ∙ append_assoc (flat (map f xs)) _ rest) ∙ table_back g back xs a _

  -- The table around an entry: what stands before it has the length that its index says.
  pub table_before : (xs : List A) (i : ℕ) → i ≤ length xs → All P xs → length (flat (map f (take i xs))) ≡ size * i
  table_before xs i h a = table_length (take i xs) (all_take P i xs a) ∙ ap (λ n. size * n) (length-take-le i xs h)

-- The table as it stands around an entry, and with that entry replaced.
pub table_split : {A : Type 0} (f : A → Bytes) (xs : List A) (i : ℕ) (d : A) → i < length xs
    → flat (map f xs) ≡ flat (map f (take i xs)) ++ (f (get_or xs i d) ++ flat (map f (drop (suc i) xs)))
unfolding flat
table_split f xs i d h = ap (λ l. flat (map f l)) (split_at xs i d h) ∙ simp (map_append, flat_append)

pub table_set : {A : Type 0} (f : A → Bytes) (xs : List A) (i : ℕ) (y : A) → i < length xs
    → flat (map f (set xs i y)) ≡ flat (map f (take i xs)) ++ (f y ++ flat (map f (drop (suc i) xs)))
unfolding flat
table_set f xs i y h = ap (λ l. flat (map f l)) (set_split xs i y h) ∙ simp (map_append, flat_append)
