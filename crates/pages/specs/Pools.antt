-- The text off a pool's bytes is the text of the state that the bytes say.
use Rattle.std.specs.Prelude.{◌≡◌, refl, ℕ, zero, suc, ◌+◌, ◌-◌, ◌*◌, ◌/◌, ◌≤◌, ◌<◌, min, get_or, take, drop, replicate, Option, Some, None}
use Rattle.std.proofs.Math.Path.{sym, ap, ap₂}
use Rattle.std.proofs.Common.{◌∙◌, mul-zero, mul-suc, arith, drop-drop}
use Rattle.std.proofs.lemmas.List.{take_all}
use Rattle.std.specs.Option.{unwrap_or, option_map}
use Rattle.std.specs.Simd.{first_chunks}
use mathlib.Core.List.{List, [], ◌∷◌, ◌++◌, map, append_assoc, append-nil}
use Rattle.std.proofs.Math.ListN.{length, length-drop, length-map, get_or-map, get_or-eq_default}
use Rattle.std.proofs.Math.Seq.{length-take-le}
use Rattle.base.specs.Lists.{flat}
use Rattle.base.specs.ListLaws.{map_map}
use Rattle.rules.specs.Reading.{Bytes}
use Rattle.rules.specs.Sheet.{Sheet, blank, limits}
use Rattle.rules.specs.Pool.{State, sheet_at, sheets_at}
use Rattle.rules.specs.Image.{head_size, sheet_size, slots_in, most_slots, part, parts, list_in, sheet_bytes, sheet_in, pool_in}
use Rattle.images.specs.Storable.{small_limits, blank_storable}
use Rattle.images.specs.Sheets.{sheet_back, blank_zero}
use Rattle.lines.specs.Text.{fields, stop_word, steps_word, complete_word, bounded_word, waiting_word, newline, sheet_lines, listing}
use Rattle.lines.specs.Lines.{take_few}
use Rattle.pages.specs.Tables.{chunks_are, slot_text, slots_text, stop_line, waiting_line}

-- ---- a slot

-- What stands behind a reference that may be there, or behind another.
pub behind : {X Y : Type 0} (f : X → Y) (r : Option X) (x : X) → f (unwrap_or r x) ≡ unwrap_or (option_map f r) (f x)
behind f None x = refl
behind f (Some y) x = refl

-- A slot of zeros.
zeros_blank : sheet_in limits (replicate 2128 0) ≡ blank
unfolding limits sheet_size
zeros_blank = ap (sheet_in limits) (sym (blank_zero limits) ∙ sym (append-nil (sheet_bytes limits blank))) ∙ sheet_back limits small_limits blank (blank_storable limits) []

-- A slot's sheet; behind the last slot stands the blank one.
module _ (p : Bytes) (i : ℕ) where
  pub slot_is : 208 ≤ length p → (slots : List Bytes) → slots ≡ first_chunks 2128 (length (take (length p - 208) (drop 208 p)) / 2128) (take (length p - 208) (drop 208 p))
      → sheet_in limits (get_or slots i (replicate 2128 0)) ≡ sheet_at (pool_in limits p) i
  unfolding sheet_at pool_in slots_in sheet_size head_size limits
  slot_is h slots e =
      let whole : take (length p - 208) (drop 208 p) ≡ drop 208 p = take_all (length p - 208) (drop 208 p) (omega (arith, length-drop 208 p)) in
      let long : length (drop 208 p) ≡ length p - 208 = length-drop 208 p in
      sym (get_or-map (sheet_in limits) slots i (replicate 2128 0))
      ∙ ap₂ (λ (l : List Bytes) (x : Sheet). get_or (map (sheet_in limits) l) i x)
      (e ∙ ap (λ (l : Bytes). first_chunks 2128 (length l / 2128) l) whole ∙ ap (λ n. first_chunks 2128 (n / 2128) (drop 208 p)) long ∙ chunks_are 2128 ((length p - 208) / 2128) (drop 208 p))
      zeros_blank

-- The same of a slot's place among the pool's bytes.
part_at : {A : Type 0} (g : Bytes → A) (size k : ℕ) (s : Bytes) (i : ℕ) (d : A) → i < k → get_or (map g (parts size k s)) i d ≡ g (take size (drop (size * i) s))
unfolding parts
part_at g size zero s i d h = absurd (omega arith)
part_at g size (suc k) s zero d h = let e : size * 0 ≡ 0 = mul-zero size in rw e
part_at g size (suc k) s (suc i) d h =
    let e : size + size * i ≡ size * suc i = omega (arith, mul-suc size i) in
    part_at g size k (drop size s) i d (omega arith) ∙ ap (λ (l : Bytes). g (take size l)) (drop-drop (size * i) size s ∙ ap (λ n. drop n s) e)

parts_length : (size k : ℕ) (s : Bytes) → length (parts size k s) ≡ k
unfolding parts
parts_length size zero s = refl
parts_length size (suc k) s = ap suc (parts_length size k (drop size s))

module _ (p : Bytes) (i : ℕ) where
  pub slot_there : i < (length p - 208) / 2128 → sheet_in limits (take 2128 (drop (208 + 2128 * i) p)) ≡ sheet_at (pool_in limits p) i
  unfolding sheet_at pool_in slots_in sheet_size head_size limits
  slot_there h =
      sym (part_at (sheet_in limits) 2128 ((length p - 208) / 2128) (drop 208 p) i blank h ∙ ap (λ (l : Bytes). sheet_in limits (take 2128 l)) (drop-drop (2128 * i) 208 p))

  pub slot_behind : (length p - 208) / 2128 ≤ i → sheet_in limits (replicate 2128 0) ≡ sheet_at (pool_in limits p) i
  unfolding sheet_at pool_in slots_in sheet_size head_size limits
  slot_behind h =
      zeros_blank
      ∙ sym (get_or-eq_default (map (sheet_in limits) (parts 2128 ((length p - 208) / 2128) (drop 208 p))) blank {n = i} (omega (arith, length-map (parts 2128 ((length p - 208) / 2128) (drop 208 p)) (sheet_in limits), parts_length 2128 ((length p - 208) / 2128) (drop 208 p))))

-- ---- the whole

groups : (p a b c d e f g h i j : Bytes) → (((p ++ (a ++ (b ++ (c ++ (d ++ e))))) ++ f) ++ g) ++ (h ++ (i ++ j)) ≡ p ++ (a ++ (b ++ (c ++ (d ++ (e ++ (f ++ (g ++ (h ++ (i ++ j)))))))))
groups p a b c d e f g h i j = simp append_assoc

module _ (p : Bytes) where
  abbrev s : State
  s = pool_in limits p

  list_is : (w : Bytes) (at k : ℕ) → slots_text w p (take (min (get_or p k 0) 64) (drop at p)) ≡ flat (map (sheet_lines w) (sheets_at s (list_in at (get_or p k 0) p)))
  unfolding slots_text slot_text sheets_at list_in part most_slots
  list_is w at k = ap (λ (l : List ℕ). flat (map (slot_text w p) l)) (take_few (get_or p k 0) 64 (drop at p)) ∙ ap flat (sym (map_map (sheet_lines w) (sheet_at s) (take (get_or p k 0) (take 64 (drop at p)))))

  -- How many slots a list names.
  list_long : (at k : ℕ) → at + 64 ≤ length p → min (get_or p k 0) 64 ≡ length (list_in at (get_or p k 0) p)
  unfolding list_in part most_slots
  list_long at k h =
      sym (ap length (sym (take_few (get_or p k 0) 64 (drop at p))) ∙ length-take-le (min (get_or p k 0) 64) (drop at p) (omega (arith, length-drop at p)))

  waiting_is : 208 ≤ length p → min (get_or p 12 0) 64 ≡ length s.waiting
  unfolding pool_in
  waiting_is h = list_long 16 12 (omega arith)

  pub complete_long : 208 ≤ length p → min (get_or p 13 0) 64 ≡ length s.complete
  unfolding pool_in
  complete_long h = list_long 80 13 (omega arith)

  pub bounded_long : 208 ≤ length p → min (get_or p 14 0) 64 ≡ length s.bounded
  unfolding pool_in
  bounded_long h = list_long 144 14 (omega arith)

  pub listing_parts : 208 ≤ length p → (q : Bytes) (stop steps : ℕ)
      → (((q ++ stop_line stop steps) ++ slots_text complete_word p (take (min (get_or p 13 0) 64) (drop 80 p))) ++ slots_text bounded_word p (take (min (get_or p 14 0) 64) (drop 144 p)))
      ++ waiting_line (min (get_or p 12 0) 64) ≡ q ++ listing stop steps s
  unfolding listing stop_line waiting_line pool_in
  listing_parts h q stop steps =
      ap₂ (λ (x : Bytes) (n : ℕ). x ++ waiting_line n)
      (ap₂ (λ (x y : Bytes). ((q ++ stop_line stop steps) ++ x) ++ y) (list_is complete_word 80 13) (list_is bounded_word 144 14)) (waiting_is h)
      ∙ groups q stop_word (fields (stop ∷ [])) steps_word (fields (steps ∷ [])) newline (flat (map (sheet_lines complete_word) (sheets_at s s.complete)))
      (flat (map (sheet_lines bounded_word) (sheets_at s s.bounded))) waiting_word (fields (length s.waiting ∷ [])) newline
