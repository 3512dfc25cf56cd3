-- Numbers of eight bytes, the highest first, and tables of them; and tables of single bytes.
use Rattle.std.specs.Prelude.{◌≡◌, refl, ℕ, zero, suc, ◌+◌, ◌-◌, ◌*◌, ◌≤◌, ◌/◌, ◌%◌, ◌^◌, ◌<◌, List, [], ◌∷◌, ◌++◌, map, length, get_or, take, drop, set}
use Rattle.std.specs.List.{flat_map}
use Rattle.std.proofs.Common.{sym, ap, ap₂, ◌∙◌, add-zero, arith, add-one, append_assoc, length-drop, drop-cons, drop-drop, get_or-drop, take-suc, length-take-le, drop_at}
use Rattle.std.proofs.lemmas.List.{set_at}
use Rattle.std.proofs.Math.Seq.{append_snoc}
use Rattle.byteorder.specs.Endian.{big_number, big_bytes, IsRead}
use Rattle.byteorder.specs.Numbers.{big_from-take}
use Rattle.base.specs.Lists.{All, flat}
use Rattle.images.specs.Storable.{Octet}
use Rattle.images.specs.Kept.{drop_take}
use Rattle.packing.specs.Replace.{eight}

-- ---- reading

unfoldable pub number_at : List ℕ → ℕ → ℕ
number_at s at =
    eight (get_or s at 0) (get_or s (at + 1) 0) (get_or s (at + 2) 0) (get_or s (at + 3) 0) (get_or s (at + 4) 0) (get_or s (at + 5) 0) (get_or s (at + 6) 0) (get_or s (at + 7) 0)

-- n numbers from a place on.
unfoldable pub numbers_at : List ℕ → ℕ → ℕ → List ℕ
numbers_at s at zero = []
numbers_at s at (suc n) = number_at s at ∷ numbers_at s (at + 8) n

pub numbers_length : (s : List ℕ) (at n : ℕ) → length (numbers_at s at n) ≡ n
unfolding numbers_at
numbers_length s at zero = refl
numbers_length s at (suc n) = ap suc (numbers_length s (at + 8) n)

-- One more number, at the end.
pub numbers_more : (s : List ℕ) (at n : ℕ) → numbers_at s at (suc n) ≡ numbers_at s at n ++ (number_at s (at + 8 * n) ∷ [])
unfolding numbers_at
numbers_more s at zero = let e : at + 8 * 0 ≡ at = omega arith in rw e
numbers_more s at (suc n) =
    let e : at + 8 * suc n ≡ at + 8 + 8 * n = omega arith in
    rw e (ap (λ (l : List ℕ). number_at s at ∷ l) (numbers_more s (at + 8) n))

-- The same number as the library reads it.
number_big : (s : List ℕ) (at : ℕ) → big_number 8 (drop at s) ≡ number_at s at
unfolding number_at
number_big s at = simp (get_or-drop, add-zero) (omega arith)

-- A table is these numbers if each of its entries is.
numbers_each : (s t : List ℕ) (at : ℕ) → ((k : ℕ) → k < length t → get_or t k 0 ≡ number_at s (at + 8 * k)) → t ≡ numbers_at s at (length t)
unfolding numbers_at
numbers_each s [] at h = refl
numbers_each s (x ∷ t) at h =
    ap₂ (λ (n : ℕ) (l : List ℕ). n ∷ l) (h 0 (omega arith) ∙ ap (number_at s) (omega arith))
    (numbers_each s t (at + 8) (λ k l. h (suc k) (omega arith) ∙ ap (number_at s) (omega arith)))

-- So is a table that the library read.
pub numbers_read : (s t : List ℕ) (at n : ℕ) → length t ≡ n → at + 8 * n ≤ length s → IsRead big_number 8 (take (at + 8 * n - at) (drop at s)) t
    → t ≡ numbers_at s at n
numbers_read s t at n z h r =
    numbers_each s t at (λ k l.
    r k l ∙ ap (big_number 8) (drop_take (8 * k) (at + 8 * n - at) (drop at s))
    ∙ big_from-take 0 8 (at + 8 * n - at - 8 * k) (drop (8 * k) (drop at s)) (omega arith)
    ∙ ap (big_number 8) (drop-drop (8 * k) at s) ∙ number_big s (at + 8 * k))
    ∙ ap (numbers_at s at) z

-- One more entry at the front of a table, given what the entries passed are.
grow : (p t : List ℕ) (i v : ℕ) → length p ≡ i → i < length t → set (p ++ drop i t) i v ≡ p ++ (v ∷ []) ++ drop (i + 1) t
grow p t i v e h = rw (drop-cons t i 0 h, add-one) (set_at p (get_or t i 0) (drop (suc i) t) v i e ∙ sym (append_snoc p v (drop (suc i) t)))

pub numbers_set : (s : List ℕ) (at i : ℕ) (t : List ℕ) → i < length t
    → set (numbers_at s at i ++ drop i t) i (number_at s (at + 8 * i)) ≡ numbers_at s at (i + 1) ++ drop (i + 1) t
numbers_set s at i t h =
    grow (numbers_at s at i) t i (number_at s (at + 8 * i)) (numbers_length s at i) h
    ∙ ap (λ (l : List ℕ). l ++ drop (i + 1) t) (sym (numbers_more s at i) ∙ ap (numbers_at s at) (sym (add-one i)))

pub bytes_set : (s : List ℕ) (at i : ℕ) (t : List ℕ) → i < length t → at + i < length s
    → set (take i (drop at s) ++ drop i t) i (get_or s (at + i) 0) ≡ take (i + 1) (drop at s) ++ drop (i + 1) t
bytes_set s at i t h q =
    let l : i < length (drop at s) = omega (arith, length-drop at s) in
    grow (take i (drop at s)) t i (get_or s (at + i) 0) (length-take-le i (drop at s) (omega arith)) h
    ∙ ap (λ (x : List ℕ). x ++ drop (i + 1) t)
    (ap (λ v. take i (drop at s) ++ (v ∷ [])) (sym (get_or-drop at s i 0)) ∙ sym (take-suc (drop at s) i 0 l) ∙ ap (λ j. take j (drop at s)) (sym (add-one i)))

-- ---- reading what was written: a table of entries of eight bytes gives their numbers

number_drop : (s : List ℕ) (at : ℕ) → number_at s at ≡ number_at (drop at s) 0
unfolding number_at
number_drop s at =
    simp get_or-drop (ap (λ j. eight (get_or s j 0) (get_or s (at + 1) 0) (get_or s (at + 2) 0) (get_or s (at + 3) 0) (get_or s (at + 4) 0) (get_or s (at + 5) 0) (get_or s (at + 6) 0) (get_or s (at + 7) 0)) (sym (add-zero at)))

pub numbers_table : {A : Type 0} (P : A → Type 0) (f : A → List ℕ) (g : A → ℕ) → ((x : A) → P x → length (f x) ≡ 8)
    → ((x : A) → P x → (rest : List ℕ) → number_at (f x ++ rest) 0 ≡ g x)
    → (s : List ℕ) (at : ℕ) (xs : List A) (rest : List ℕ) → All P xs → drop at s ≡ flat (map f xs) ++ rest → numbers_at s at (length xs) ≡ map g xs
unfolding numbers_at flat
numbers_table P f g sized reads s at [] rest a e = refl
numbers_table P f g sized reads s at (x ∷ xs) rest a e =
    let w : drop at s ≡ f x ++ (flat (map f xs) ++ rest) = e ∙ append_assoc (f x) (flat (map f xs)) rest in
    let d : drop (at + 8) s ≡ flat (map f xs) ++ rest = sym (drop-drop 8 at s) ∙ ap (drop 8) w ∙ drop_at (f x) _ 8 (sized x a.0) in
    ap₂ (λ (n : ℕ) (l : List ℕ). n ∷ l) (number_drop s at ∙ ap (λ (l : List ℕ). number_at l 0) w ∙ reads x a.0 _)
    (numbers_table P f g sized reads s (at + 8) xs rest a.1 d)

-- ---- writing

unfoldable pub octets : ℕ → List ℕ
octets x =
    x / 256 ^ 7 % 256 ∷ x / 256 ^ 6 % 256 ∷ x / 256 ^ 5 % 256 ∷ x / 256 ^ 4 % 256 ∷ x / 256 ^ 3 % 256 ∷ x / 256 ^ 2 % 256
    ∷ x / 256 % 256 ∷ x % 256 ∷ []

pub octets_length : (x : ℕ) → length (octets x) ≡ 8
unfolding octets
octets_length x = refl

-- The same bytes as the library writes them.
pub octets_big : (xs : List ℕ) → flat_map (big_bytes 8) xs ≡ flat (map octets xs)
unfolding octets flat
octets_big [] = refl
octets_big (x ∷ xs) = ap (λ (l : List ℕ). octets x ++ l) (octets_big xs)

-- The low byte alone.
unfoldable pub octet : ℕ → List ℕ
octet x = x % 256 ∷ []

pub octet_length : (x : ℕ) → length (octet x) ≡ 1
unfolding octet
octet_length x = refl

pub octet_all : (xs : List ℕ) → All Octet xs → flat (map octet xs) ≡ xs
unfolding octet flat
octet_all [] a = refl
octet_all (x ∷ xs) a = let e : x % 256 ≡ x = omega (arith, a.0) in ap₂ (λ (n : ℕ) (l : List ℕ). n ∷ l) e (octet_all xs a.1)
