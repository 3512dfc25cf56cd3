-- A pool: the tests on its bytes, frame and slots, come to the definition: the bytes are the image of what they say, and that is sound
-- for the book. A listed slot is counted by the lists; what each slot must be is `Tidy`.
use Rattle.std.specs.Prelude.{◌≡◌, refl, Bool, true, false, not, ◌&&◌, ◌||◌, take, drop, replicate, ltb, eqb}
use Rattle.std.proofs.Math.Path.{sym, ap, ap₂, subst}
use Rattle.std.proofs.Common.{◌∙◌, take_all, inl, inr}
use Prim.Native.Nat.{ℕ, zero, suc, ◌+◌, ◌-◌, ◌*◌, ◌≤◌, ◌<◌}
use Rattle.std.proofs.Math.Decide.{dec_le}
use native.Mathlib.Omega.{arith}
use mathlib.Core.List.{List, [], ◌++◌, map, append-nil}
use Rattle.std.proofs.Math.ListN.{length, get_or, length-drop, length-map, take-append-drop, get_or-eq_default}
use Rattle.std.proofs.Math.Dec.{T, eqb→eq, ltb→lt, lt→ltb}
use Rattle.base.specs.Lists.{All, flat, from, equal}
use Rattle.base.specs.BranchLaws.{if_elim, and_l, and_r, and_i, or_is, eq→eqb, neqb→ne}
use Rattle.base.specs.ListLaws.{map_map, all_map, all_unmap, equal_eq, equal_self}
use Rattle.pools.specs.Count.{cnt, cnt_append, all_cnt, from_all, all_from}
use Rattle.pools.specs.Tidy.{Tidy, Listed, places_of, tidy, tidy_sound}
use Rattle.rules.specs.Book.{Names, Book}
use Rattle.rules.specs.Reading.{Bytes, num}
use Rattle.rules.specs.Sheet.{Sheet, blank, limits}
use Rattle.rules.specs.Pool.{State, schedulers, strategies, numbers, sheet_at, used}
use Rattle.rules.specs.Image.{pool_head, pool_bytes, head_size, sheet_size, slots_in, part, parts, sheet_in, sheet_bytes, pool_in}
use Rattle.rules.specs.Sound.{sound_sheet, sound_state, sound}
use Rattle.images.specs.Storable.{small_limits, blank_storable}
use Rattle.images.specs.Sheets.{sheet_back, blank_zero}
use Rattle.images.specs.Pools.{slots_in_lem}
use Rattle.sheetparts.specs.Loops.{up_to, every_at, at_every}
use Rattle.sheetparts.specs.Tests.{byte_at, zeros, sheet_sound}
use Rattle.sheetcheck.specs.Regions.{join_split, part_length, part_at, parts_row, table_parts, parts_table, zeros_part, part_zeros}
use Rattle.sheetcheck.specs.Tables.{both_of, of_both}
use Rattle.sheetcheck.specs.Depths.{same_test}
use Rattle.sheetcheck.specs.Images.{image_size}
use Rattle.poolparts.specs.Tests.{next_of, slot_at, in_range, row_at, listed, start_of, other_at, differs, held_right, slot_right, slots_right, frame_right}
use Rattle.poolparts.specs.Ways.{fair_limits}
use Rattle.poolcheck.specs.Heads.{Frame, frame_says, says_frame, list_row, head_size_lem, frame_image, image_frame}

-- ---- small steps

get_d_row : {A : Type 0} (f : ℕ → A) (a k i : ℕ) (d : A) → i < k → get_or (map f (from a k)) i d ≡ f (a + i)
unfolding from
get_d_row f a zero i d h = absurd (omega arith)
get_d_row f a (suc k) zero d h = let e : a ≡ a + 0 = omega arith in ap f e
get_d_row f a (suc k) (suc i) d h = let e : suc a + i ≡ a + suc i = omega arith in get_d_row f (suc a) k i d (omega arith) ∙ ap f e

from_long : (a k : ℕ) → length (from a k) ≡ k
unfolding from
from_long a zero = refl
from_long a (suc k) = ap suc (from_long (suc a) k)

-- Zeros read as the blank sheet, and are its image.
blank_read : sheet_in limits (replicate 2128 0) ≡ blank
unfolding limits sheet_size
blank_read = ap (sheet_in limits) (sym (blank_zero limits) ∙ sym (append-nil (sheet_bytes limits blank))) ∙ sheet_back limits small_limits blank (blank_storable limits) []

module _ (b : Book) (p : Bytes) (n : ℕ) (len : length p ≡ 208 + 2128 * n) (bytes : (i : ℕ) → byte_at p i < 256) where
  abbrev s : State
  s = pool_in limits p

  abbrev slot_part : ℕ → Bytes
  slot_part i = part (start_of i) 2128 p

  abbrev slot_sheet : ℕ → Sheet
  slot_sheet i = sheet_in limits (slot_part i)

  slot_fits : (i : ℕ) → i < n → start_of i + 2128 ≤ length p
  slot_fits i h = omega arith

  -- ---- what is read

  count_is : slots_in limits (length p) ≡ n
  unfolding head_size sheet_size limits
  count_is = ap (slots_in limits) len ∙ slots_in_lem limits n

  parts_are : parts (sheet_size limits) (slots_in limits (length p)) (drop head_size p) ≡ parts 2128 n (drop 208 p)
  unfolding head_size sheet_size limits
  parts_are = ap (λ k. parts 2128 k (drop 208 p)) count_is

  pub slots_are : s.slots ≡ map slot_sheet (up_to 0 n)
  unfolding pool_in
  slots_are = ap (map (sheet_in limits)) (parts_are ∙ parts_row 2128 n p 208) ∙ map_map (sheet_in limits) (λ j. part (208 + 2128 * j) 2128 p) (up_to 0 n)

  pub slots_long : length s.slots ≡ n
  unfolding up_to
  slots_long = ap length slots_are ∙ length-map (from 0 (n - 0)) slot_sheet ∙ from_long 0 (n - 0) ∙ omega arith

  pub sheet_is : (i : ℕ) → i < n → sheet_at s i ≡ slot_sheet i
  unfolding sheet_at up_to
  sheet_is i h = let z : 0 + i ≡ i = omega arith in ap (λ l. get_or l i blank) slots_are ∙ get_d_row slot_sheet 0 (n - 0) i blank (omega arith) ∙ ap slot_sheet z

  number_is : (i : ℕ) → i < n → (sheet_at s i).number ≡ num p (start_of i)
  unfolding num sheet_in
  number_is i h =
      let z : start_of i + 0 ≡ start_of i = omega arith in
      let o : start_of i + 1 ≡ suc (start_of i) = omega arith in
      ap (λ (x : Sheet). x.number) (sheet_is i h) ∙ ap₂ (λ (x y : ℕ). x + 256 * y) (part_at (start_of i) 2128 p 0 (omega arith) ∙ ap (byte_at p) z) (part_at (start_of i) 2128 p 1 (omega arith) ∙ ap (byte_at p) o)

  past_end : (j : ℕ) → n ≤ j → sheet_at s j ≡ blank
  unfolding sheet_at
  past_end j h = get_or-eq_default s.slots blank (omega (arith, slots_long))

  -- ---- how often a slot is listed

  module _ (w : byte_at p 12 ≤ 64) (c : byte_at p 13 ≤ 64) (d : byte_at p 14 ≤ 64) where
    used_is : used s ≡ row_at p 16 (byte_at p 12) ++ (row_at p 80 (byte_at p 13) ++ row_at p 144 (byte_at p 14))
    unfolding used pool_in
    used_is = ap₂ (λ (x y : List ℕ). x ++ y) (list_row p 16 (byte_at p 12) (omega arith) w) (ap₂ (λ (x y : List ℕ). x ++ y) (list_row p 80 (byte_at p 13) (omega arith) c) (list_row p 144 (byte_at p 14) (omega arith) d))

    listed_is : (j : ℕ) → cnt j (used s) ≡ listed p j
    unfolding listed
    listed_is j = ap (cnt j) used_is ∙ cnt_append j (row_at p 16 (byte_at p 12)) _ ∙ ap (λ k. cnt j (row_at p 16 (byte_at p 12)) + k) (cnt_append j (row_at p 80 (byte_at p 13)) (row_at p 144 (byte_at p 14)))

  pub row_below : (at k : ℕ) → T (in_range p n at k) → (j : ℕ) → 1 ≤ cnt j (row_at p at k) → j < n
  unfolding in_range slot_at row_at up_to
  row_below at k t = all_cnt (λ j. j < n) _ (all_map (λ i. T (ltb (byte_at p (at + i)) n)) (λ j. j < n) (λ i. byte_at p (at + i)) (λ i u. ltb→lt (byte_at p (at + i)) n u) (from 0 (k - 0))
      (from_all (λ i. T (ltb (byte_at p (at + i)) n)) 0 (k - 0) (λ i _ h. every_at (slot_at p n at) k t i (omega arith))))

  below_row : (at k : ℕ) → ((j : ℕ) → 1 ≤ cnt j (row_at p at k) → j < n) → T (in_range p n at k)
  unfolding in_range slot_at row_at up_to
  below_row at k f = at_every (slot_at p n at) k (λ i h. lt→ltb (byte_at p (at + i)) n (all_from (λ i. byte_at p (at + i) < n) 0 (k - 0)
      (all_unmap (λ j. j < n) (λ i. byte_at p (at + i)) (from 0 (k - 0)) (Rattle.pools.specs.Count.cnt_all (λ j. j < n) _ f)) i (omega arith) (omega arith)))

  -- ---- the image rule, head and slots

  pub again_size : (q : Bytes) → length q ≡ 2128 → length (sheet_bytes limits (sheet_in limits q)) ≡ 2128
  unfolding limits sheet_size
  again_size q e = image_size limits fair_limits q e

  abbrev table : Bytes
  table = flat (map (λ q. sheet_bytes limits (sheet_in limits q)) (parts 2128 n (drop 208 p)))

  table_is : flat (map (sheet_bytes limits) s.slots) ≡ table
  unfolding pool_in
  table_is = ap flat (map_map (sheet_bytes limits) (sheet_in limits) (parts (sheet_size limits) (slots_in limits (length p)) (drop head_size p)) ∙ ap (map (λ q. sheet_bytes limits (sheet_in limits q))) parts_are)

  rest_is : take (2128 * n) (drop 208 p) ≡ drop 208 p
  rest_is = take_all (2128 * n) (drop 208 p) (simp length-drop (omega arith))

  pub images_pool : (slots : ℕ) → Frame p slots → ((i : ℕ) → i < n → sheet_bytes limits (slot_sheet i) ≡ slot_part i) → pool_bytes limits s ≡ p
  unfolding pool_bytes part up_to
  images_pool slots f g =
      let a = subst (All (λ q. sheet_bytes limits (sheet_in limits q) ≡ q)) (sym (parts_row 2128 n p 208)) (all_map (λ i. sheet_bytes limits (slot_sheet i) ≡ slot_part i)
      (λ q. sheet_bytes limits (sheet_in limits q) ≡ q) slot_part (λ i e. e) (up_to 0 n) (from_all (λ i. sheet_bytes limits (slot_sheet i) ≡ slot_part i) 0 (n - 0) (λ i _ h. g i (omega arith)))) in
      ap₂ (λ (x y : Bytes). x ++ y) (frame_image limits p (omega arith) bytes slots f)
      (table_is ∙ parts_table 2128 (λ q. sheet_bytes limits (sheet_in limits q)) again_size n (drop 208 p) a ∙ rest_is)
      ∙ take-append-drop 208 p

  pub pool_images : pool_bytes limits s ≡ p → (pool_head s ≡ part 0 208 p) × ((i : ℕ) → i < n → sheet_bytes limits (slot_sheet i) ≡ slot_part i)
  unfolding pool_bytes part up_to
  pool_images e =
      let q = join_split (pool_head s) (flat (map (sheet_bytes limits) s.slots)) (take 208 p) (drop 208 p) (head_size_lem limits p (omega arith) bytes ∙ sym (part_length 0 208 p (omega arith))) (e ∙ sym (take-append-drop 208 p)) in
      let a = table_parts 2128 (λ q. sheet_bytes limits (sheet_in limits q)) again_size n (drop 208 p) (simp length-drop (omega arith)) (sym table_is ∙ q.1 ∙ sym rest_is) in
      let c = all_unmap (λ q. sheet_bytes limits (sheet_in limits q) ≡ q) slot_part (up_to 0 n) (subst (All (λ q. sheet_bytes limits (sheet_in limits q) ≡ q)) (parts_row 2128 n p 208) a) in
      (q.0, λ i h. all_from (λ i. sheet_bytes limits (slot_sheet i) ≡ slot_part i) 0 (n - 0) c i (omega arith) (omega arith))

  -- ---- a free slot

  zero_blank : (i : ℕ) → i < n → T (zeros p (start_of i) 2128) → (slot_part i ≡ replicate 2128 0) × (slot_sheet i ≡ blank)
  zero_blank i h t = let e = sym (zeros_part p (start_of i) 2128 (slot_fits i h) t) in (e, ap (sheet_in limits) e ∙ blank_read)

  blank_image : sheet_bytes limits blank ≡ replicate 2128 0
  unfolding limits sheet_size
  blank_image = blank_zero limits

  -- ---- slots that pass are tidy, and images

  abbrev d : Names
  d = b.names

  abbrev pl : ℕ
  pl = places_of b s

  data Says (i : ℕ) : Type 0 where
    free : listed p i ≡ 0 → T (zeros p (start_of i) 2128) → Says i
    held : listed p i ≡ 1 → num p (start_of i) < next_of p → T (differs p i) → T (sheet_sound limits d pl (slot_part i)) → Says i

  slot_says : (i : ℕ) → T (slot_right d pl p i) → Says i
  unfolding slot_right held_right
  slot_says i = if_elim (λ x. T x → Says i) (eqb (listed p i) 0) _ _ (λ z t. free (eqb→eq (listed p i) 0 z) t)
      (λ _ t. let a = both_of (eqb (listed p i) 1) _ t in
      let c = both_of (ltb (num p (start_of i)) (next_of p)) _ a.1 in
      let e = both_of (differs p i) (sheet_sound limits d pl (slot_part i)) c.1 in
      held (eqb→eq (listed p i) 1 a.0) (ltb→lt (num p (start_of i)) (next_of p) c.0) e.0 e.1)

  says_slot : (i : ℕ) → Says i → T (slot_right d pl p i)
  unfolding slot_right held_right
  says_slot i (free z t) = if_elim T (eqb (listed p i) 0) _ _ (λ _. t) (λ q. absurd (neqb→ne (listed p i) 0 q z))
  says_slot i (held o l e t) = if_elim T (eqb (listed p i) 0) _ _ (λ q. let z = eqb→eq (listed p i) 0 q in absurd (omega arith))
      (λ _. of_both (eqb (listed p i) 1) _ (eq→eqb (listed p i) 1 o) (of_both (ltb (num p (start_of i)) (next_of p)) _ (lt→ltb (num p (start_of i)) (next_of p) l) (of_both (differs p i) (sheet_sound limits d pl (slot_part i)) e t)))

  slot_image : (i : ℕ) → i < n → Says i → sheet_bytes limits (slot_sheet i) ≡ slot_part i
  unfolding sheet_sound
  slot_image i h (free z t) = let e = zero_blank i h t in ap (sheet_bytes limits) e.1 ∙ blank_image ∙ sym e.0
  slot_image i h (held o l e t) = equal_eq (sheet_bytes limits (slot_sheet i)) (slot_part i) (and_l (equal (sheet_bytes limits (slot_sheet i)) (slot_part i)) _ t)

  apart : (i j : ℕ) → T (differs p i) → j < i → num p (start_of j) ≡ num p (start_of i) → listed p j ≡ 0
  unfolding differs other_at
  apart i j t h e = elim (or_is (not (eqb (num p (start_of j)) (num p (start_of i)))) (eqb (listed p j) 0) (every_at (other_at p i) i t j h)) [
    | inl q ↦ absurd (neqb→ne (num p (start_of j)) (num p (start_of i)) q e)
    | inr u ↦ eqb→eq (listed p j) 0 u
  ]

  differ_all : (i : ℕ) → ((j : ℕ) → j < i → num p (start_of j) ≡ num p (start_of i) → listed p j ≡ 0) → T (differs p i)
  unfolding differs other_at
  differ_all i f = at_every (other_at p i) i (λ j h. or_from (eqb (num p (start_of j)) (num p (start_of i))) (eqb (listed p j) 0)
      (λ q. eq→eqb (listed p j) 0 (f j h (eqb→eq (num p (start_of j)) (num p (start_of i)) q))))
    where
      or_from : (a b : Bool) → (T a → T b) → T (not a || b)
      or_from true b g = g tt
      or_from false b g = tt

  within : Frame p n → (j : ℕ) → 1 ≤ listed p j → j < n
  unfolding listed
  within f j l = elim (dec_le 1 (cnt j (row_at p 16 (byte_at p 12)))) [
    | yes a ↦ row_below 16 (byte_at p 12) f.waiting.inside j a
    | no a ↦ elim (dec_le 1 (cnt j (row_at p 80 (byte_at p 13)))) [
      | yes c ↦ row_below 80 (byte_at p 13) f.complete.inside j c
      | no c ↦ row_below 144 (byte_at p 14) f.bounded.inside j (omega arith)
    ]
  ]

  sheet_sound_of : (i : ℕ) → T (sheet_sound limits d pl (slot_part i)) → T (sound_sheet limits d pl (slot_sheet i))
  unfolding sheet_sound
  sheet_sound_of i t = and_r (equal (sheet_bytes limits (slot_sheet i)) (slot_part i)) _ t

  module _ (f : Frame p n) (g : (i : ℕ) → i < n → Says i) where
    count : (j : ℕ) → cnt j (used s) ≡ listed p j
    count = listed_is f.waiting.few f.complete.few f.bounded.few

    there : (j : ℕ) → Listed s j → j < n
    there j l = within f j (omega (arith, count j))

    once_of : (j : ℕ) → Says j → listed p j ≤ 1
    once_of j (free z t) = omega arith
    once_of j (held o l e t) = omega arith

    blank_of : (j : ℕ) → j < n → listed p j ≡ 0 → Says j → sheet_at s j ≡ blank
    blank_of j h z (free _ t) = sheet_is j h ∙ (zero_blank j h t).1
    blank_of j h z (held o l e t) = absurd (omega arith)

    held_of : (j : ℕ) → 1 ≤ listed p j → Says j → (num p (start_of j) < next_of p) × (T (differs p j) × T (sheet_sound limits d pl (slot_part j)))
    held_of j l (free z t) = absurd (omega arith)
    held_of j l (held o q e t) = (q, (e, t))

    held_at : (j : ℕ) → Listed s j → (num p (start_of j) < next_of p) × (T (differs p j) × T (sheet_sound limits d pl (slot_part j)))
    held_at j l = held_of j (omega (arith, count j)) (g j (there j l))

    tests_tidy : Tidy limits b s
    unfolding schedulers strategies numbers next_of pool_in
    tests_tidy = record {
      scheduler = f.scheduler;
      strategy = f.strategy;
      next = f.next;
      once = λ j. elim (dec_le (suc j) n) [
        | yes h ↦ (let o = once_of j (g j h) in omega (arith, count j))
        | no h ↦ elim (dec_le 1 (cnt j (used s))) [ yes l ↦ (let t = there j l in omega arith) | no l ↦ omega arith ]
      ];
      there = λ j l. (let t = there j l in omega (arith, slots_long));
      blanks = λ j z. elim (dec_le (suc j) n) [ yes h ↦ blank_of j h (omega (arith, count j)) (g j h) | no h ↦ past_end j (omega arith) ];
      differ = λ j k a c e. same j k a c (sym (number_is j (there j a)) ∙ e ∙ number_is k (there k c));
      low = λ j l. (let q = (held_at j l).0 in let m = number_is j (there j l) in omega arith);
      sheets = λ j l. subst (λ x. T (sound_sheet limits d pl x)) (sym (sheet_is j (there j l))) (sheet_sound_of j (held_at j l).1.1);
    }
      where
        same : (j k : ℕ) → Listed s j → Listed s k → num p (start_of j) ≡ num p (start_of k) → j ≡ k
        same j k a c e = elim (dec_le (suc j) k) [
          | yes l ↦ (let z = apart k j (held_at k c).1.0 l e in absurd (omega (arith, count j)))
          | no l ↦ elim (dec_le (suc k) j) [ yes m ↦ (let z = apart j k (held_at j a).1.0 m (sym e) in absurd (omega (arith, count k))) | no m ↦ omega arith ]
        ]

  -- ---- a tidy image passes the tests

  module _ (e : pool_bytes limits s ≡ p) (t : Tidy limits b s) where
    abbrev head : (pool_head s ≡ part 0 208 p) × ((i : ℕ) → i < n → sheet_bytes limits (slot_sheet i) ≡ slot_part i)
    head = pool_images e

    abbrev rooms : Type 0
    rooms = (byte_at p 12 ≤ 64) × ((byte_at p 13 ≤ 64) × (byte_at p 14 ≤ 64))

    few : rooms
    few = let h = image_frame limits p (omega arith) bytes head.0 in (h.1.0.0, (h.1.1.0.0, h.1.1.1.0))

    counted : (j : ℕ) → cnt j (used s) ≡ listed p j
    counted = listed_is few.0 few.1.0 few.1.1

    inside : (j : ℕ) → 1 ≤ listed p j → j < n
    inside j l = omega (arith, t.there j (omega (arith, counted j)), slots_long)

    tidy_frame : Frame p n
    unfolding schedulers strategies numbers next_of pool_in listed
    tidy_frame =
        let h = image_frame limits p (omega arith) bytes head.0 in
        record {
          mark = h.0;
          scheduler = t.scheduler;
          strategy = t.strategy;
          next = t.next;
          waiting = record { few = h.1.0.0; room = h.1.0.1; inside = below_row 16 (byte_at p 12) (λ j l. inside j (omega arith)) };
          complete = record { few = h.1.1.0.0; room = h.1.1.0.1; inside = below_row 80 (byte_at p 13) (λ j l. inside j (omega arith)) };
          bounded = record { few = h.1.1.1.0; room = h.1.1.1.1; inside = below_row 144 (byte_at p 14) (λ j l. inside j (omega arith)) };
        }

    sheet_of : (i : ℕ) → i < n → T (sound_sheet limits d pl (slot_sheet i)) → T (sheet_sound limits d pl (slot_part i))
    unfolding sheet_sound
    sheet_of i h u = and_i (equal (sheet_bytes limits (slot_sheet i)) (slot_part i)) _ (subst (λ l. T (equal l (slot_part i))) (sym (head.1 i h)) (equal_self (slot_part i))) u

    tidy_says : (i : ℕ) → i < n → Says i
    unfolding next_of pool_in
    tidy_says i h = elim (dec_le 1 (listed p i)) [
      | yes l ↦ (let m : Listed s i = omega (arith, counted i) in let o = t.once i in let q = t.low i m in let w = number_is i h in
          held (omega (arith, counted i)) (omega arith)
          (differ_all i (λ j k z. elim (dec_le 1 (listed p j)) [
            | yes a ↦ (let u = t.differ j i (omega (arith, counted j)) m (number_is j (omega arith) ∙ z ∙ sym (number_is i h)) in absurd (omega arith))
            | no a ↦ omega arith
          ]))
          (sheet_of i h (subst (λ x. T (sound_sheet limits d pl x)) (sheet_is i h) (t.sheets i m))))
      | no l ↦ (let z : cnt i (used s) ≡ 0 = omega (arith, counted i) in
          free (omega arith) (part_zeros p (start_of i) 2128 (sym blank_image ∙ ap (sheet_bytes limits) (sym (t.blanks i z) ∙ sheet_is i h) ∙ head.1 i h)))
    ]

  -- ---- the whole

  pub pool_test : frame_right p n && slots_right d pl p n ≡ sound limits b p
  unfolding sound slots_right
  pool_test = same_test (frame_right p n && slots_right d pl p n) (sound limits b p) forth back
    where
      forth : T (frame_right p n && slots_right d pl p n) → T (equal (pool_bytes limits s) p && sound_state limits b s)
      forth u =
          let a = both_of (frame_right p n) (slots_right d pl p n) u in
          let f = frame_says p n a.0 in
          let g : (i : ℕ) → i < n → Says i = λ i h. slot_says i (every_at (slot_right d pl p) n a.1 i h) in
          and_i (equal (pool_bytes limits s) p) (sound_state limits b s) (subst (λ l. T (equal l p)) (sym (images_pool n f (λ i h. slot_image i h (g i h)))) (equal_self p))
          (tidy_sound limits b s (tests_tidy f g))

      back : T (equal (pool_bytes limits s) p && sound_state limits b s) → T (frame_right p n && slots_right d pl p n)
      back u =
          let e = equal_eq (pool_bytes limits s) p (and_l (equal (pool_bytes limits s) p) (sound_state limits b s) u) in
          let t = tidy limits b s (and_r (equal (pool_bytes limits s) p) (sound_state limits b s) u) in
          of_both (frame_right p n) (slots_right d pl p n) (says_frame p n (tidy_frame e t)) (at_every (slot_right d pl p) n (λ i h. says_slot i (tidy_says e t i h)))

  -- What a sound pool's bytes are: in frame, and the image of what they say.
  pub sound_frame : T (sound limits b p) → Frame p n × (pool_bytes limits s ≡ p)
  unfolding sound
  sound_frame u =
      let e = equal_eq (pool_bytes limits s) p (and_l (equal (pool_bytes limits s) p) (sound_state limits b s) u) in
      (tidy_frame e (tidy limits b s (and_r (equal (pool_bytes limits s) p) (sound_state limits b s) u)), e)
