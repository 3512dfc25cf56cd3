-- The head of a pool is the image of what it says exactly if mark, version and unused bytes are right, each list has at most 64 slots,
-- and zeros stand behind it.
use Rattle.std.specs.Prelude.{◌≡◌, ℕ, ◌+◌, ◌-◌, ◌*◌, ◌/◌, ◌%◌, ◌≤◌, ◌<◌, min, [], ◌∷◌, ◌++◌, drop, T, ltb, eqb}
use Rattle.std.proofs.Math.Path.{sym, ap, ap₂}
use Rattle.std.proofs.Common.{◌∙◌, arith, length-append, eqb→eq, ltb→lt, lt→ltb, le→leb}
use Rattle.std.proofs.Math.Dec.{leb, leb→le}
use Rattle.std.proofs.Math.ListN.{length, length-take}
use Rattle.std.proofs.Math.Seq.{take-take}
use Rattle.base.specs.Lists.{from}
use Rattle.base.specs.BranchLaws.{eq→eqb}
use Rattle.rules.specs.Reading.{Bytes, num}
use Rattle.rules.specs.Sheet.{Limits}
use Rattle.rules.specs.Pool.{State}
use Rattle.rules.specs.Image.{word, long, padded, pool_mark, most_slots, pool_head, part, list_in, pool_in}
use Rattle.images.specs.Regions.{padded_length}
use Rattle.sheetparts.specs.Loops.{up_to}
use Rattle.sheetparts.specs.Tests.{byte_at, zeros}
use Rattle.sheetcheck.specs.Regions.{join_split, part_length, part_join, part_row, region_front, front_region}
use Rattle.sheetcheck.specs.Tables.{both_of, of_both}
use Rattle.poolparts.specs.Tests.{mark_number, list_room, list_right, in_range, lists_right, next_of, frame_right, row_at}

-- ---- what the head's tests say

pub record ListSays (p : Bytes) (slots at n : ℕ) : Type 0 where
  pub few : n ≤ 64
  pub room : T (zeros p (at + n) (64 - n))
  pub inside : T (in_range p slots at n)

list_says : (p : Bytes) (slots at n : ℕ) → T (list_right p slots at n) → ListSays p slots at n
unfolding list_right list_room
list_says p slots at n t =
    let a = both_of (list_room p at n) (in_range p slots at n) t in
    let b = both_of (leb n 64) (zeros p (at + n) (64 - n)) a.0 in
    record { few = leb→le n 64 b.0; room = b.1; inside = a.1 }

says_list : (p : Bytes) (slots at n : ℕ) → ListSays p slots at n → T (list_right p slots at n)
unfolding list_right list_room
says_list p slots at n g =
    of_both (list_room p at n) (in_range p slots at n) (of_both (leb n 64) (zeros p (at + n) (64 - n)) (le→leb n 64 g.few) g.room) g.inside

pub record Frame (p : Bytes) (slots : ℕ) : Type 0 where
  pub mark : mark_number p ≡ 21775437
  pub scheduler : byte_at p 5 < 2
  pub strategy : byte_at p 6 < 2
  pub next : next_of p ≤ 65536
  pub waiting : ListSays p slots 16 (byte_at p 12)
  pub complete : ListSays p slots 80 (byte_at p 13)
  pub bounded : ListSays p slots 144 (byte_at p 14)

pub frame_says : (p : Bytes) (slots : ℕ) → T (frame_right p slots) → Frame p slots
unfolding frame_right lists_right
frame_says p slots t =
    let a = both_of (eqb (mark_number p) 21775437) _ t in
    let b = both_of (ltb (byte_at p 5) 2) _ a.1 in
    let c = both_of (ltb (byte_at p 6) 2) _ b.1 in
    let d = both_of (leb (next_of p) 65536) _ c.1 in
    let e = both_of (list_right p slots 16 (byte_at p 12)) _ d.1 in
    let f = both_of (list_right p slots 80 (byte_at p 13)) _ e.1 in
    record {
      mark = eqb→eq (mark_number p) 21775437 a.0;
      scheduler = ltb→lt (byte_at p 5) 2 b.0;
      strategy = ltb→lt (byte_at p 6) 2 c.0;
      next = leb→le (next_of p) 65536 d.0;
      waiting = list_says p slots 16 (byte_at p 12) e.0;
      complete = list_says p slots 80 (byte_at p 13) f.0;
      bounded = list_says p slots 144 (byte_at p 14) f.1;
    }

pub says_frame : (p : Bytes) (slots : ℕ) → Frame p slots → T (frame_right p slots)
unfolding frame_right lists_right
says_frame p slots g =
    of_both (eqb (mark_number p) 21775437) _ (eq→eqb (mark_number p) 21775437 g.mark)
    (of_both (ltb (byte_at p 5) 2) _ (lt→ltb (byte_at p 5) 2 g.scheduler)
    (of_both (ltb (byte_at p 6) 2) _ (lt→ltb (byte_at p 6) 2 g.strategy)
    (of_both (leb (next_of p) 65536) _ (le→leb (next_of p) 65536 g.next)
    (of_both (list_right p slots 16 (byte_at p 12)) _ (says_list p slots 16 (byte_at p 12) g.waiting)
    (of_both (list_right p slots 80 (byte_at p 13)) _ (says_list p slots 80 (byte_at p 13) g.complete) (says_list p slots 144 (byte_at p 14) g.bounded))))))

-- ---- lists

module _ (p : Bytes) (at n : ℕ) (fits : at + 64 ≤ length p) where
  pub list_length : length (list_in at n p) ≡ min n 64
  unfolding list_in most_slots
  list_length = length-take n (part at 64 p) ∙ omega (arith, part_length at 64 p fits)

  list_part : n ≤ 64 → list_in at n p ≡ part at n p
  unfolding list_in most_slots part
  list_part h = take-take n 64 (drop at p) h

  pub list_row : n ≤ 64 → list_in at n p ≡ row_at p at n
  unfolding row_at
  list_row h = list_part h ∙ part_row p at n (omega arith)

  list_long : length (padded most_slots (list_in at n p)) ≡ 64
  unfolding most_slots
  list_long = padded_length 64 (list_in at n p) (omega (arith, list_length))

  list_image : n ≤ 64 → T (zeros p (at + n) (64 - n)) → padded most_slots (list_in at n p) ≡ part at 64 p
  unfolding most_slots
  list_image h t = front_region p at 64 n (list_in at n p) fits h (list_length ∙ omega arith) (list_part h) t

  image_list : n ≤ 64 → padded most_slots (list_in at n p) ≡ part at 64 p → T (zeros p (at + n) (64 - n))
  unfolding most_slots
  image_list h e = (region_front p at 64 n (list_in at n p) fits h (list_length ∙ omega arith) e).1

-- ---- the first sixteen bytes

marked : (a b c d e f g : ℕ) → a < 256 → b < 256 → c < 256 → d < 256 → e < 256 → f < 256 → g < 256
    → a + 256 * b + 65536 * c + 16777216 * d + 4294967296 * e + 1099511627776 * f + 281474976710656 * g ≡ 21775437
    → ((a ≡ 77) × ((b ≡ 68) × ((c ≡ 76) × (d ≡ 1)))) × ((e ≡ 0) × ((f ≡ 0) × (g ≡ 0)))
marked a b c d e f g pa pb pc pd pe pf pg h = ((omega arith, (omega arith, (omega arith, omega arith))), (omega arith, (omega arith, omega arith)))

sixteen : (a b c d e f g h i j k l m n o q a' b' c' d' e' f' g' h' i' j' k' l' m' n' o' q' : ℕ)
    → a ∷ b ∷ c ∷ d ∷ e ∷ f ∷ g ∷ h ∷ i ∷ j ∷ k ∷ l ∷ m ∷ n ∷ o ∷ q ∷ [] ≡ a' ∷ b' ∷ c' ∷ d' ∷ e' ∷ f' ∷ g' ∷ h' ∷ i' ∷ j' ∷ k' ∷ l' ∷ m' ∷ n' ∷ o' ∷ q' ∷ []
    → ((a ≡ a') × ((b ≡ b') × ((c ≡ c') × ((d ≡ d') × ((e ≡ e') × ((h ≡ h') × (q ≡ q'))))))) × ((m ≡ m') × ((n ≡ n') × (o ≡ o')))
sixteen a b c d e f g h i j k l m n o q a' b' c' d' e' f' g' h' i' j' k' l' m' n' o' q' e₀ = ((cc, (cc, (cc, (cc, (cc, (cc, cc)))))), (cc, (cc, cc)))

sixteen_same : (a b c d e h q f g i j k l m n o : ℕ) → ((a ≡ 77) × ((b ≡ 68) × ((c ≡ 76) × (d ≡ 1)))) × ((e ≡ 0) × ((h ≡ 0) × (q ≡ 0)))
    → 77 ∷ 68 ∷ 76 ∷ 1 ∷ 0 ∷ f ∷ g ∷ 0 ∷ i ∷ j ∷ k ∷ l ∷ m ∷ n ∷ o ∷ 0 ∷ [] ≡ a ∷ b ∷ c ∷ d ∷ e ∷ f ∷ g ∷ h ∷ i ∷ j ∷ k ∷ l ∷ m ∷ n ∷ o ∷ q ∷ []
sixteen_same a b c d e h q f g i j k l m n o r = rw (r.0.0, r.0.1.0, r.0.1.1.0, r.0.1.1.1, r.1.0, r.1.1.0, r.1.1.1)

word_back : (x y : ℕ) → x < 256 → y < 256 → word (x + 256 * y) ≡ x ∷ y ∷ []
unfolding word
word_back x y p q =
    let a : (x + 256 * y) % 256 ≡ x = omega arith in
    let d : (x + 256 * y) / 256 ≡ y = omega arith in
    let m : y % 256 ≡ y = omega arith in
    rw (a, d, m)

long_back : (a b c d : ℕ) → a < 256 → b < 256 → c < 256 → d < 256 → long (a + 256 * b + 65536 * (c + 256 * d)) ≡ a ∷ b ∷ c ∷ d ∷ []
unfolding long
long_back a b c d pa pb pc pd =
    let l : (a + 256 * b + 65536 * (c + 256 * d)) % 65536 ≡ a + 256 * b = omega arith in
    let h : (a + 256 * b + 65536 * (c + 256 * d)) / 65536 ≡ c + 256 * d = omega arith in
    rw (l, h, word_back a b pa pb, word_back c d pc pd)

-- ---- the head's image

module _ (lim : Limits) (p : Bytes) (fits : 208 ≤ length p) (bytes : (i : ℕ) → byte_at p i < 256) where
  abbrev state : State
  state = pool_in lim p

  -- The first sixteen bytes that are written, of lists of such lengths.
  abbrev first_of : ℕ → ℕ → ℕ → Bytes
  first_of w c b = 77 ∷ 68 ∷ 76 ∷ 1 ∷ 0 ∷ byte_at p 5 ∷ byte_at p 6 ∷ 0 ∷ byte_at p 8 ∷ byte_at p 9 ∷ byte_at p 10 ∷ byte_at p 11 ∷ w ∷ c ∷ b ∷ 0 ∷ []

  head_is : pool_head state ≡ first_of (length state.waiting) (length state.complete) (length state.bounded)
      ++ (padded most_slots state.waiting ++ (padded most_slots state.complete ++ padded most_slots state.bounded))
  unfolding pool_head pool_mark pool_in num
  head_is = rw (long_back (byte_at p 8) (byte_at p 9) (byte_at p 10) (byte_at p 11) (bytes 8) (bytes 9) (bytes 10) (bytes 11))

  three_long : (a b c : Bytes) → length a ≡ 64 → length b ≡ 64 → length c ≡ 64 → length (a ++ (b ++ c)) ≡ 192
  three_long a b c x y z = simp length-append (omega arith)

  -- Whatever bytes are read, the head that is written has its size.
  pub head_size_lem : length (pool_head state) ≡ 208
  unfolding pool_in
  head_size_lem = let e = three_long (padded most_slots (list_in 16 (byte_at p 12) p)) (padded most_slots (list_in 80 (byte_at p 13) p)) (padded most_slots (list_in 144 (byte_at p 14) p))
      (list_long p 16 (byte_at p 12) (omega arith)) (list_long p 80 (byte_at p 13) (omega arith)) (list_long p 144 (byte_at p 14) (omega arith)) in
      ap length head_is ∙ omega (arith, e)

  bytes_are : part 0 208 p ≡ part 0 16 p ++ (part 16 64 p ++ (part 80 64 p ++ part 144 64 p))
  bytes_are =
      part_join 0 208 16 p (omega arith) ∙ ap (λ (l : Bytes). part 0 16 p ++ l) (part_join 16 192 64 p (omega arith)
      ∙ ap (λ (l : Bytes). part 16 64 p ++ l) (part_join 80 128 64 p (omega arith)))

  first_row : part 0 16 p ≡ byte_at p 0 ∷ byte_at p 1 ∷ byte_at p 2 ∷ byte_at p 3 ∷ byte_at p 4 ∷ byte_at p 5 ∷ byte_at p 6 ∷ byte_at p 7 ∷ byte_at p 8 ∷ byte_at p 9 ∷ byte_at p 10 ∷ byte_at p 11
      ∷ byte_at p 12 ∷ byte_at p 13 ∷ byte_at p 14 ∷ byte_at p 15 ∷ []
  unfolding up_to from
  first_row = part_row p 0 16 (omega arith)

  pub frame_image : (slots : ℕ) → Frame p slots → pool_head state ≡ part 0 208 p
  unfolding mark_number pool_in
  frame_image slots g =
      let k = marked (byte_at p 0) (byte_at p 1) (byte_at p 2) (byte_at p 3) (byte_at p 4) (byte_at p 7) (byte_at p 15) (bytes 0) (bytes 1) (bytes 2) (bytes 3) (bytes 4) (bytes 7) (bytes 15) g.mark in
      let w : length (list_in 16 (byte_at p 12) p) ≡ byte_at p 12 = list_length p 16 (byte_at p 12) (omega arith) ∙ omega (arith, g.waiting.few) in
      let c : length (list_in 80 (byte_at p 13) p) ≡ byte_at p 13 = list_length p 80 (byte_at p 13) (omega arith) ∙ omega (arith, g.complete.few) in
      let b : length (list_in 144 (byte_at p 14) p) ≡ byte_at p 14 = list_length p 144 (byte_at p 14) (omega arith) ∙ omega (arith, g.bounded.few) in
      let h : first_of (length (list_in 16 (byte_at p 12) p)) (length (list_in 80 (byte_at p 13) p)) (length (list_in 144 (byte_at p 14) p)) ≡ part 0 16 p =
      rw (w, c, b) (sixteen_same (byte_at p 0) (byte_at p 1) (byte_at p 2) (byte_at p 3) (byte_at p 4) (byte_at p 7) (byte_at p 15) _ _ _ _ _ _ _ _ _ k ∙ sym first_row) in
      head_is ∙ ap₂ (λ (x y : Bytes). x ++ y) h (ap₂ (λ (x y : Bytes). x ++ y) (list_image p 16 (byte_at p 12) (omega arith) g.waiting.few g.waiting.room)
      (ap₂ (λ (x y : Bytes). x ++ y) (list_image p 80 (byte_at p 13) (omega arith) g.complete.few g.complete.room) (list_image p 144 (byte_at p 14) (omega arith) g.bounded.few g.bounded.room)))
      ∙ sym bytes_are

  -- What the image rule says of the head.
  pub image_frame : pool_head state ≡ part 0 208 p → (mark_number p ≡ 21775437) × (((byte_at p 12 ≤ 64) × T (zeros p (16 + byte_at p 12) (64 - byte_at p 12)))
      × (((byte_at p 13 ≤ 64) × T (zeros p (80 + byte_at p 13) (64 - byte_at p 13))) × ((byte_at p 14 ≤ 64) × T (zeros p (144 + byte_at p 14) (64 - byte_at p 14)))))
  unfolding mark_number pool_in
  image_frame e =
      let q = sym head_is ∙ e ∙ bytes_are in
      let a = join_split (first_of (length (list_in 16 (byte_at p 12) p)) (length (list_in 80 (byte_at p 13) p)) (length (list_in 144 (byte_at p 14) p))) _ (part 0 16 p) _ (sym (part_length 0 16 p (omega arith))) q in
      let b = join_split (padded most_slots (list_in 16 (byte_at p 12) p)) _ (part 16 64 p) _ (list_long p 16 (byte_at p 12) (omega arith) ∙ sym (part_length 16 64 p (omega arith))) a.1 in
      let c = join_split (padded most_slots (list_in 80 (byte_at p 13) p)) _ (part 80 64 p) _ (list_long p 80 (byte_at p 13) (omega arith) ∙ sym (part_length 80 64 p (omega arith))) b.1 in
      let k = sixteen _ _ _ _ _ _ _ _ _ _ _ _ _ _ _ _ _ _ _ _ _ _ _ _ _ _ _ _ _ _ _ _ (a.0 ∙ first_row) in
      let w : byte_at p 12 ≤ 64 = omega (arith, k.1.0, list_length p 16 (byte_at p 12) (omega arith)) in
      let x : byte_at p 13 ≤ 64 = omega (arith, k.1.1.0, list_length p 80 (byte_at p 13) (omega arith)) in
      let y : byte_at p 14 ≤ 64 = omega (arith, k.1.1.1, list_length p 144 (byte_at p 14) (omega arith)) in
      (omega (arith, k.0), ((w, image_list p 16 (byte_at p 12) (omega arith) w b.0), ((x, image_list p 80 (byte_at p 13) (omega arith) x c.0), (y, image_list p 144 (byte_at p 14) (omega arith) y c.1))))
