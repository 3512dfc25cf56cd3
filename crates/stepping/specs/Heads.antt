-- Where a sequent's head stands, the place that children get, and whether there is room for them.
use Rattle.std.specs.Prelude.{◌≡◌, ◌++◌, ltb}
use Rattle.std.proofs.Math.Path.{refl, sym, ap}
use Rattle.std.proofs.Common.{◌∙◌, mod-eq_of_lt, lt-ltb, le-ltb}
use Prim.Native.Nat.{ℕ, suc, ◌+◌, ◌-◌, ◌/◌, ◌%◌, ◌≤◌, ◌<◌}
use Rattle.std.proofs.Math.Nat.{mod_self}
use native.Mathlib.Omega.{arith}
use Rattle.std.proofs.Math.ListN.{length, get_or, length-append}
use Rattle.base.specs.Branch.{if}
use Rattle.base.specs.Lists.{All}
use Rattle.rules.specs.Book.{Sequent}
use Rattle.rules.specs.Reading.{Bytes, num}
use Rattle.rules.specs.Fire.{Strategy, linear, fair, place_after}
use Rattle.rules.specs.Pool.{State, numbers, used, free}
use Rattle.rules.specs.Image.{word, long, pool_mark, pool_head, pool_bytes, head_size, sheet_size}
use Rattle.images.specs.Pools.{pool_length}
use Rattle.pools.specs.Count.{cnt}
use Rattle.placing.specs.OneByOne.{free_count}
use Rattle.texts.specs.Names.{names_in}
use Rattle.texts.specs.Text.{LiteralText, SequentText}
use Rattle.texts.specs.Parts.{sequent_grows}
use Rattle.skips.specs.Rest.{SkipsMany}
use Rattle.poolparts.specs.Tests.{next_of}
use Rattle.lists.specs.Moves.{Imaged, shows_next}
use Rattle.stepping.specs.Standing.{L}

-- ---- the head of a sequent

abbrev pub HeadAt : Bytes → ℕ → ℕ → Type 0
HeadAt text a r = (q : Sequent) (e : ℕ) (t : SequentText (names_in text) text a q e) → e ≤ length text → r ≡ t.middle

pub head_short : (text : Bytes) (a : ℕ) → length text - a < 4 → HeadAt text a a
head_short text a h q e t l = let g = sequent_grows (names_in text) text a q e t in absurd (omega arith)

pub head_skips : (text : Bytes) (a r : ℕ) → SkipsMany (LiteralText (names_in text) text) (length text) (a + 4) (num text (a + 2)) r → HeadAt text a r
head_skips text a r k q e t l = let g = sequent_grows (names_in text) text a q e t in k q.body t.middle t.body (sym t.count) (omega arith)

-- ---- the place

abbrev pub NextPlace : Strategy → ℕ → ℕ → ℕ → Type 0
NextPlace strategy i n r = i < n → r ≡ place_after strategy i n

module _ (i n : ℕ) where
  pub place_linear : NextPlace linear i n 0
  unfolding place_after
  place_linear h = refl

  pub place_wraps : i + 1 ≡ n → NextPlace fair i n 0
  unfolding place_after
  place_wraps e h = let z : suc i ≡ n = omega arith in sym (ap (λ k. k % n) z ∙ mod_self n)

  pub place_next : (i + 1 ≡ n → ⊥) → NextPlace fair i n (i + 1)
  unfolding place_after
  place_next g h = let z : i + 1 ≡ suc i = omega arith in let q : suc i < n = omega arith in z ∙ sym (mod-eq_of_lt q)

-- ---- slots and numbers

unfoldable pub room_of : State → ℕ → ℕ
room_of s n = if (ltb (suc (length (free s))) n) (λ _. 16) (λ _. if (ltb numbers (s.next + n)) (λ _. 17) (λ _. 0))

abbrev pub RoomFor : Bytes → ℕ → ℕ → Type 0
RoomFor p n r = (s : State) → Imaged L s p → ((j : ℕ) → cnt j (used s) ≤ 1) → All (λ j. j < length s.slots) (used s) → r ≡ room_of s n

module _ (p : Bytes) (n : ℕ) where
  -- What the header counts is what the state lists.
  used_count : (s : State) → Imaged L s p → get_or p 12 0 + get_or p 13 0 + get_or p 14 0 ≡ length (used s)
  unfolding used pool_bytes pool_head pool_mark long word
  used_count s sh =
      let a = ap (λ (x : Bytes). get_or x 12 0) sh.is in
      let b = ap (λ (x : Bytes). get_or x 13 0) sh.is in
      let c = ap (λ (x : Bytes). get_or x 14 0) sh.is in
      omega (arith, length-append s.waiting (s.complete ++ s.bounded), length-append s.complete s.bounded)

  slot_count_lem : (s : State) → Imaged L s p → (length p - 208) / 2128 ≡ length s.slots
  unfolding head_size sheet_size
  slot_count_lem s sh = let l = ap length sh.is ∙ pool_length L s sh.storable in omega arith

  pub room_slots : (length p - 208) / 2128 + 1 < get_or p 12 0 + get_or p 13 0 + get_or p 14 0 + n → RoomFor p n 16
  unfolding room_of if
  room_slots h s sh o t =
      let c = free_count s o t in
      let u = used_count s sh in
      let k = slot_count_lem s sh in
      sym (ap (λ b. if b (λ _. 16) (λ _. if (ltb numbers (s.next + n)) (λ _. 17) (λ _. 0))) (lt-ltb (suc (length (free s))) n (omega arith)))

  module _ (h : get_or p 12 0 + get_or p 13 0 + get_or p 14 0 + n ≤ (length p - 208) / 2128 + 1) where
    room_there : (s : State) → Imaged L s p → ((j : ℕ) → cnt j (used s) ≤ 1) → All (λ j. j < length s.slots) (used s)
        → room_of s n ≡ if (ltb numbers (s.next + n)) (λ _. 17) (λ _. 0)
    unfolding room_of if
    room_there s sh o t =
        let c = free_count s o t in
        let u = used_count s sh in
        let k = slot_count_lem s sh in
        ap (λ b. if b (λ _. 16) (λ _. if (ltb numbers (s.next + n)) (λ _. 17) (λ _. 0))) (le-ltb (suc (length (free s))) n (omega arith))

    pub room_numbers : 65536 < next_of p + n → RoomFor p n 17
    unfolding if numbers
    room_numbers l s sh o t =
        let e = shows_next L s p sh in
        sym (room_there s sh o t ∙ ap (λ b. if b (λ _. 17) (λ _. 0)) (lt-ltb 65536 (s.next + n) (omega arith)))

    pub room_is : next_of p + n ≤ 65536 → RoomFor p n 0
    unfolding if numbers
    room_is l s sh o t =
        let e = shows_next L s p sh in
        sym (room_there s sh o t ∙ ap (λ b. if b (λ _. 17) (λ _. 0)) (le-ltb 65536 (s.next + n) (omega arith)))
