-- The listing's text off bytes, part by part as code writes it: tables of entries, depths, lists of slots. One law for a turn of each loop.
use Rattle.std.specs.Prelude.{◌≡◌, refl, ℕ, zero, suc, ◌+◌, ◌*◌, ◌≤◌, ◌<◌, true, false, ◌||◌, get_or, eqb}
use Rattle.std.proofs.Math.Path.{sym, ap, ap₂}
use Rattle.std.proofs.Common.{◌∙◌, zero-add, arith, add-one, drop-drop}
use Rattle.std.proofs.lemmas.Bool.Decides.{nat_tests}
use Rattle.std.proofs.lemmas.List.{take_all}
use Rattle.std.specs.List.{list_any}
use Rattle.std.specs.Simd.{first_chunks}
use mathlib.Core.List.{List, [], ◌∷◌, ◌++◌, map, append_assoc, append-nil}
use Rattle.std.proofs.Math.ListN.{length, take, drop}
use Rattle.std.proofs.Math.Seq.{take-suc}
use Rattle.base.specs.Branch.{if}
use Rattle.base.specs.Lists.{mem, from, flat}
use Rattle.base.specs.ListLaws.{map_append}
use Rattle.rules.specs.Reading.{Bytes}
use Rattle.rules.specs.Sheet.{limits}
use Rattle.rules.specs.Pool.{sheet_at}
use Rattle.rules.specs.Image.{key_in, fact_in, parts, pool_in}
use Rattle.images.specs.Regions.{flat_append}
use Rattle.lines.specs.Text.{fields, key_line, depth_text, fact_line, sheet_lines, stop_word, steps_word, waiting_word, newline}

-- ---- the parts

-- The line of an entry's eight bytes.
unfoldable pub key_text : Bytes → Bytes
key_text e = key_line (key_in e)

unfoldable pub fact_text : Bytes → Bytes
fact_text e = fact_line (fact_in e)

-- The lines of the first k entries of the table at a place.
unfoldable pub table_text : (Bytes → Bytes) → ℕ → ℕ → Bytes → Bytes
table_text f at k s = flat (map f (parts 8 k (drop at s)))

-- The values of the first k keys.
unfoldable pub values_in : ℕ → Bytes → List ℕ
values_in k s = map (λ (e : Bytes). get_or e 7 0) (parts 8 k (drop 16 s))

-- The line of an element that some key yields.
unfoldable pub depth_part : ℕ → Bytes → ℕ → Bytes
depth_part k s e = if (mem e (values_in k s)) (λ _. depth_text e (get_or s (2064 + e) 0)) (λ _. [])

unfoldable pub depths_text : ℕ → ℕ → Bytes → Bytes
depths_text k n s = flat (map (depth_part k s) (from 0 n))

-- The sheets of some slots of a pool.
unfoldable pub slot_text : Bytes → Bytes → ℕ → Bytes
slot_text w p i = sheet_lines w (sheet_at (pool_in limits p) i)

unfoldable pub slots_text : Bytes → Bytes → List ℕ → Bytes
slots_text w p is = flat (map (slot_text w p) is)

unfoldable pub stop_line : ℕ → ℕ → Bytes
stop_line stop steps = stop_word ++ (fields (stop ∷ []) ++ (steps_word ++ (fields (steps ∷ []) ++ newline)))

unfoldable pub waiting_line : ℕ → Bytes
waiting_line n = waiting_word ++ (fields (n ∷ []) ++ newline)

-- ---- chunks

-- Chunks are parts, all of them and the first ones.
pub chunks_are : (size n : ℕ) (s : Bytes) → first_chunks size n s ≡ parts size n s
unfolding parts
chunks_are size zero s = refl
chunks_are size (suc n) s = ap (λ (l : List Bytes). take size s ∷ l) (chunks_are size n (drop size s))

pub chunks_first : (size k n : ℕ) (s : Bytes) → k ≤ n → take k (first_chunks size n s) ≡ parts size k s
unfolding parts
chunks_first size zero n s h = refl
chunks_first size (suc k) zero s h = absurd (omega arith)
chunks_first size (suc k) (suc n) s h = ap (λ (l : List Bytes). take size s ∷ l) (chunks_first size k n (drop size s) (omega arith))

-- All entries of a table.
pub texts_all : (f : Bytes → Bytes) (at k j : ℕ) (s : Bytes) (es : List Bytes) → es ≡ parts 8 k (drop at s) → length es ≤ j → flat (map f (take j es)) ≡ table_text f at k s
unfolding table_text
texts_all f at k j s es e h = ap (λ (l : List Bytes). flat (map f l)) (take_all j es h ∙ e)

-- ---- one more

flat_last : {A : Type 0} (f : A → Bytes) (xs : List A) (x : A) → flat (map f (xs ++ (x ∷ []))) ≡ flat (map f xs) ++ f x
unfolding flat
flat_last f xs x = simp (map_append, flat_append, append-nil)

parts_last : (k : ℕ) (s : Bytes) → parts 8 (suc k) s ≡ parts 8 k s ++ (take 8 (drop (8 * k) s) ∷ [])
unfolding parts
parts_last zero s = refl
parts_last (suc k) s =
    let e : 8 + 8 * k ≡ 8 * suc k = omega arith in
    ap (λ (l : List Bytes). take 8 s ∷ l) (parts_last k (drop 8 s) ∙ ap (λ (l : Bytes). parts 8 k (drop 8 s) ++ (take 8 l ∷ [])) (drop-drop (8 * k) 8 s ∙ ap (λ n. drop n s) e))

parts_more : (at k : ℕ) (s : Bytes) → parts 8 (k + 1) (drop at s) ≡ parts 8 k (drop at s) ++ (take 8 (drop (at + 8 * k) s) ∷ [])
parts_more at k s = ap (λ n. parts 8 n (drop at s)) (add-one k) ∙ parts_last k (drop at s) ∙ ap (λ (l : Bytes). parts 8 k (drop at s) ++ (take 8 l ∷ [])) (drop-drop (8 * k) at s)

from_last : (a n : ℕ) → from a (suc n) ≡ from a n ++ ((a + n) ∷ [])
unfolding from
from_last a zero = let e : a + 0 ≡ a = omega arith in rw e
from_last a (suc n) = let e : a + suc n ≡ suc a + n = omega arith in rw e (ap (λ (l : List ℕ). a ∷ l) (from_last (suc a) n))

-- A text, what was written behind it, and one more.
more : {A : Type 0} (f : A → Bytes) (p : Bytes) (xs ys : List A) (x : A) → ys ≡ xs ++ (x ∷ []) → (p ++ flat (map f xs)) ++ f x ≡ p ++ flat (map f ys)
more f p xs ys x e = append_assoc p (flat (map f xs)) (f x) ∙ ap (λ (l : Bytes). p ++ l) (sym (ap (λ (l : List _). flat (map f l)) e ∙ flat_last f xs x))

module _ (p : Bytes) where
  pub texts_more : (f : Bytes → Bytes) (es : List Bytes) (j : ℕ) (d : Bytes) → j < length es → (p ++ flat (map f (take j es))) ++ f (get_or es j d) ≡ p ++ flat (map f (take (j + 1) es))
  texts_more f es j d h = more f p (take j es) (take (j + 1) es) (get_or es j d) (ap (λ i. take i es) (add-one j) ∙ take-suc es j d h)

  -- A table's next entry, read at its place.
  pub table_more : (f : Bytes → Bytes) (at k : ℕ) (s : Bytes) → (p ++ table_text f at k s) ++ f (take 8 (drop (at + 8 * k) s)) ≡ p ++ table_text f at (k + 1) s
  unfolding table_text
  table_more f at k s = more f p (parts 8 k (drop at s)) (parts 8 (k + 1) (drop at s)) (take 8 (drop (at + 8 * k) s)) (parts_more at k s)

  pub depths_more : (k e : ℕ) (s : Bytes) → (p ++ depths_text k e s) ++ depth_part k s e ≡ p ++ depths_text k (e + 1) s
  unfolding depths_text
  depths_more k e s = more (depth_part k s) p (from 0 e) (from 0 (e + 1)) e (ap (from 0) (add-one e) ∙ from_last 0 e ∙ ap (λ i. from 0 e ++ (i ∷ [])) (zero-add e))

  pub slots_more : (w pool slots : Bytes) (j : ℕ) → j < length slots → (p ++ slots_text w pool (take j slots)) ++ slot_text w pool (get_or slots j 0) ≡ p ++ slots_text w pool (take (j + 1) slots)
  unfolding slots_text
  slots_more w pool slots j h = more (slot_text w pool) p (take j slots) (take (j + 1) slots) (get_or slots j 0) (ap (λ i. take i slots) (add-one j) ∙ take-suc slots j 0 h)

-- An element that a key yields, and one that none does.
pub depth_yielded : (k e : ℕ) (s : Bytes) → mem e (values_in k s) ≡ true → depth_text e (get_or s (2064 + e) 0) ≡ depth_part k s e
unfolding depth_part if
depth_yielded k e s h = sym (ap (λ b. if b (λ _. depth_text e (get_or s (2064 + e) 0)) (λ _. [])) h)

pub depth_unknown : (k e : ℕ) (s : Bytes) → mem e (values_in k s) ≡ false → [] ≡ depth_part k s e
unfolding depth_part if
depth_unknown k e s h = sym (ap (λ b. if b (λ _. depth_text e (get_or s (2064 + e) 0)) (λ _. [])) h)

-- The next element, its line written or not.
module _ (p : Bytes) (k e : ℕ) (s : Bytes) where
  pub depths_line : mem e (values_in k s) ≡ true → (p ++ depths_text k e s) ++ depth_text e (get_or s (2064 + e) 0) ≡ p ++ depths_text k (e + 1) s
  depths_line h = ap (λ (l : Bytes). (p ++ depths_text k e s) ++ l) (depth_yielded k e s h) ∙ depths_more p k e s

  pub depths_nothing : mem e (values_in k s) ≡ false → p ++ depths_text k e s ≡ p ++ depths_text k (e + 1) s
  depths_nothing h = sym (append-nil (p ++ depths_text k e s)) ∙ ap (λ (l : Bytes). (p ++ depths_text k e s) ++ l) (depth_unknown k e s h) ∙ depths_more p k e s

-- ---- none yet

pub table_none : (f : Bytes → Bytes) (at : ℕ) (s : Bytes) → [] ≡ table_text f at 0 s
unfolding table_text parts flat
table_none f at s = refl

pub texts_none : (p : Bytes) (f : Bytes → Bytes) (es : List Bytes) → p ++ flat (map f (take 0 es)) ≡ p
unfolding flat
texts_none p f es = append-nil p

pub depths_none : (p : Bytes) (k : ℕ) (s : Bytes) → p ++ depths_text k 0 s ≡ p
unfolding depths_text from flat
depths_none p k s = append-nil p

pub slots_none : (p w pool : Bytes) → p ++ slots_text w pool [] ≡ p
unfolding slots_text flat
slots_none p w pool = append-nil p

-- ---- a value among those of the keys

same_eqb : (a b : ℕ) → eqb a b ≡ eqb b a
same_eqb a b = grind (arith, nat_tests)

pub values_are : (e : ℕ) (keys : List Bytes) → list_any (λ (key : Bytes). eqb (get_or key 7 0) e) keys ≡ mem e (map (λ key. get_or key 7 0) keys)
unfolding mem
values_are e [] = refl
values_are e (key ∷ keys) = ap₂ ◌||◌ (same_eqb (get_or key 7 0) e) (values_are e keys)

-- ---- the first line and the last

pub stop_parts : (p : Bytes) (stop steps : ℕ) → ((((p ++ stop_word) ++ fields (stop ∷ [])) ++ steps_word) ++ fields (steps ∷ [])) ++ newline ≡ p ++ stop_line stop steps
unfolding stop_line
stop_parts p stop steps = simp append_assoc

pub waiting_parts : (p : Bytes) (n : ℕ) → ((p ++ waiting_word) ++ fields (n ∷ [])) ++ newline ≡ p ++ waiting_line n
unfolding waiting_line
waiting_parts p n = simp append_assoc
