-- A list of a pool's header one slot shorter or longer: the image of the state with that list. One law over the list's number.
use Rattle.std.specs.Prelude.{◌≡◌, refl, List, [], ◌∷◌, ◌++◌, map}
use Rattle.std.specs.Borrow.{MutBor}
use Rattle.std.proofs.Common.{sym, ap₂, ◌∙◌, arith, append_assoc}
use Rattle.std.proofs.Math.Path.{ap}
use Prim.Native.Nat.{ℕ, zero, suc, ◌+◌, ◌-◌, ◌*◌, ◌/◌, ◌%◌, ◌≤◌, ◌<◌}
use Rattle.std.proofs.Math.ListN.{length, get_or, set, length-append}
use Rattle.std.proofs.lemmas.List.{set_at}
use Rattle.std.proofs.Math.Seq.{get_or_at}
use Rattle.base.specs.Lists.{flat}
use Rattle.rules.specs.Reading.{Bytes}
use Rattle.rules.specs.Sheet.{Limits}
use Rattle.rules.specs.Pool.{State, changed}
use Rattle.rules.specs.Image.{word, long, padded, pool_mark, most_slots, pool_head, pool_bytes, sheet_bytes}
use Rattle.images.specs.Storable.{Octet}
use Rattle.images.specs.Regions.{padded_length}
use Rattle.heads.specs.Shift.{moved_down, moved_up, lower_list, raise_list, append_list}

-- ---- the lists by their numbers

abbrev pub list_at : ℕ → State → List ℕ
list_at zero s = s.waiting
list_at (suc zero) s = s.complete
list_at (suc (suc j)) s = s.bounded

abbrev pub relisted : ℕ → State → List ℕ → State
relisted zero s xs = changed s s.next xs s.complete s.bounded s.slots
relisted (suc zero) s xs = changed s s.next s.waiting xs s.bounded s.slots
relisted (suc (suc j)) s xs = changed s s.next s.waiting s.complete xs s.slots

relisted_same : (j : ℕ) (s : State) → relisted j s (list_at j s) ≡ s
unfolding changed
relisted_same zero s = refl
relisted_same (suc zero) s = refl
relisted_same (suc (suc j)) s = refl

relisted_slots : (j : ℕ) (s : State) (xs : List ℕ) → (relisted j s xs).slots ≡ s.slots
unfolding changed
relisted_slots zero s xs = refl
relisted_slots (suc zero) s xs = refl
relisted_slots (suc (suc j)) s xs = refl

-- Lists that have room in a header.
pub record Few (s : State) : Type 0 where
  pub waiting : length s.waiting ≤ 64
  pub complete : length s.complete ≤ 64
  pub bounded : length s.bounded ≤ 64

few_at : (j : ℕ) (s : State) → Few s → length (list_at j s) ≤ 64
few_at zero s f = f.waiting
few_at (suc zero) s f = f.complete
few_at (suc (suc j)) s f = f.bounded

-- ---- what the calls do

-- It is the same pool behind the reference, changed as R says, and as long as before.
abbrev pub Changes : (Bytes → Bytes → Type 0) → MutBor Bytes → MutBor Bytes → Type 0
Changes R a b = (b.ghost_name ≡ a.ghost_name) × R a.now b.now × (length b.now ≡ length a.now)

abbrev pub Popped : ℕ → Bytes → Bytes → Type 0
Popped j p p' = (lim : Limits) (s : State) → Few s → p ≡ pool_bytes lim s → (i : ℕ) (ws : List ℕ) → list_at j s ≡ i ∷ ws → p' ≡ pool_bytes lim (relisted j s ws)

abbrev pub PushedBack : ℕ → ℕ → Bytes → Bytes → Type 0
PushedBack j x p p' = (lim : Limits) (s : State) → Few s → p ≡ pool_bytes lim s → Octet x → length (list_at j s) < 64 → p' ≡ pool_bytes lim (relisted j s (list_at j s ++ (x ∷ [])))

abbrev pub PushedFront : ℕ → ℕ → Bytes → Bytes → Type 0
PushedFront j x p p' = (lim : Limits) (s : State) → Few s → p ≡ pool_bytes lim s → Octet x → length (list_at j s) < 64 → p' ≡ pool_bytes lim (relisted j s (x ∷ list_at j s))

-- ---- where a list stands

-- Whatever list j is, its length is one byte, and it stands behind that filled up with zeros.
pub record Stands (s : State) (j : ℕ) (rest : Bytes) : Type 0 where
  pub pre : Bytes
  pub post : Bytes
  pub behind : Bytes
  pub before : length pre ≡ 12 + j
  pub reach : length pre + suc (length post) ≡ 16 + 64 * j
  pub is : (xs : List ℕ) → pool_head (relisted j s xs) ++ rest ≡ (pre ++ (length xs ∷ post)) ++ (padded 64 xs ++ behind)

module _ (s : State) (rest : Bytes) (f : Few s) where
  abbrev front : Bytes
  front =
      77 ∷ 68 ∷ 76 ∷ 1 ∷ 0 ∷ s.scheduler ∷ s.strategy ∷ 0 ∷ s.next % 65536 % 256 ∷ s.next % 65536 / 256 % 256 ∷ s.next / 65536 % 256 ∷ s.next / 65536 / 256 % 256 ∷ []

  stands : (j : ℕ) → j < 3 → Stands s j rest
  unfolding changed pool_head pool_mark most_slots long word
  stands zero h = record {
    pre = front;
    post = length s.complete ∷ length s.bounded ∷ 0 ∷ [];
    behind = padded 64 s.complete ++ (padded 64 s.bounded ++ rest);
    before = refl;
    reach = refl;
    is = λ xs. simp append_assoc;
  }
  stands (suc zero) h = record {
    pre = front ++ (length s.waiting ∷ []);
    post = length s.bounded ∷ 0 ∷ padded 64 s.waiting;
    behind = padded 64 s.bounded ++ rest;
    before = refl;
    reach = omega (arith, padded_length 64 s.waiting f.waiting);
    is = λ xs. simp append_assoc;
  }
  stands (suc (suc zero)) h = record {
    pre = front ++ (length s.waiting ∷ length s.complete ∷ []);
    post = 0 ∷ (padded 64 s.waiting ++ padded 64 s.complete);
    behind = rest;
    before = refl;
    reach = omega (arith, length-append (padded 64 s.waiting) (padded 64 s.complete), padded_length 64 s.waiting f.waiting, padded_length 64 s.complete f.complete);
    is = λ xs. simp append_assoc;
  }
  stands (suc (suc (suc j))) h = absurd (omega arith)

module _ (s : State) (rest : Bytes) (j : ℕ) (k : Stands s j rest) where
  abbrev up_to : ℕ → Bytes
  up_to n = k.pre ++ (n ∷ k.post)

  long_enough : (n : ℕ) → length (up_to n) ≡ 16 + 64 * j
  long_enough n = length-append k.pre (n ∷ k.post) ∙ k.reach

  counted : (xs : List ℕ) → get_or (pool_head (relisted j s xs) ++ rest) (12 + j) 0 ≡ length xs
  counted xs = ap (λ l. get_or l (12 + j) 0) (k.is xs ∙ append_assoc k.pre (length xs ∷ k.post) _) ∙ get_or_at k.pre (length xs) _ 0 (12 + j) k.before

  first : (i : ℕ) (ws : List ℕ) → get_or (pool_head (relisted j s (i ∷ ws)) ++ rest) (16 + 64 * j) 0 ≡ i
  unfolding padded
  first i ws = ap (λ l. get_or l (16 + 64 * j) 0) (k.is (i ∷ ws)) ∙ get_or_at (up_to (length (i ∷ ws))) i _ 0 (16 + 64 * j) (long_enough (length (i ∷ ws)))

  -- The list changed where it stands, and its count.
  rewritten : (g : Bytes → Bytes) (xs ys : List ℕ) → ((a z : Bytes) → length a ≡ 16 + 64 * j → g (a ++ (padded 64 xs ++ z)) ≡ a ++ (padded 64 ys ++ z))
      → set (g (pool_head (relisted j s xs) ++ rest)) (12 + j) (length ys) ≡ pool_head (relisted j s ys) ++ rest
  rewritten g xs ys law =
      ap (λ l. set (g l) (12 + j) (length ys)) (k.is xs)
      ∙ ap (λ l. set l (12 + j) (length ys)) (law (up_to (length xs)) k.behind (long_enough (length xs)) ∙ append_assoc k.pre (length xs ∷ k.post) _)
      ∙ set_at k.pre (length xs) _ (length ys) (12 + j) k.before
      ∙ sym (append_assoc k.pre (length ys ∷ k.post) _) ∙ sym (k.is ys)

-- ---- the same of an image

module _ (lim : Limits) (s : State) (p : Bytes) (j : ℕ) (h : j < 3) (f : Few s) (e : p ≡ pool_bytes lim s) where
  slots : Bytes
  slots = flat (map (sheet_bytes lim) s.slots)

  shown : (xs : List ℕ) → list_at j s ≡ xs → p ≡ pool_head (relisted j s xs) ++ slots
  unfolding pool_bytes slots
  shown xs q = e ∙ ap (λ x. pool_head x ++ slots) (sym (relisted_same j s) ∙ ap (relisted j s) q)

  pub count_is : get_or p (12 + j) 0 ≡ length (list_at j s)
  count_is = ap (λ l. get_or l (12 + j) 0) (shown (list_at j s) refl) ∙ counted s slots j (stands s slots f j h) (list_at j s)

  pub first_slot : (i : ℕ) (ws : List ℕ) → list_at j s ≡ i ∷ ws → get_or p (16 + 64 * j) 0 ≡ i
  first_slot i ws q = ap (λ l. get_or l (16 + 64 * j) 0) (shown (i ∷ ws) q) ∙ first s slots j (stands s slots f j h) i ws

  pub image_rewritten : (g : Bytes → Bytes) (xs ys : List ℕ) → list_at j s ≡ xs
      → ((a z : Bytes) → length a ≡ 16 + 64 * j → g (a ++ (padded 64 xs ++ z)) ≡ a ++ (padded 64 ys ++ z))
      → set (g p) (12 + j) (length ys) ≡ pool_bytes lim (relisted j s ys)
  unfolding pool_bytes slots
  image_rewritten g xs ys q law =
      ap (λ l. set (g l) (12 + j) (length ys)) (shown xs q) ∙ rewritten s slots j (stands s slots f j h) g xs ys law
      ∙ ap (λ xs. pool_head (relisted j s ys) ++ flat (map (sheet_bytes lim) xs)) (sym (relisted_slots j s ys))

-- ---- the ways out

module _ (j : ℕ) (h : j < 3) (p : Bytes) (n : ℕ) (e : n ≡ get_or p (12 + j) 0) where
  pub pop_none : n ≡ 0 → Popped j p p
  pop_none z lim s f q i ws r = let c = e ∙ count_is lim s p j h f q ∙ ap length r in absurd (omega arith)

  pub pop_out : (p' : Bytes) → p' ≡ set (moved_down (16 + 64 * j) p) (12 + j) (n - 1) → Popped j p p'
  pop_out p' o lim s f q i ws r =
      let c : n ≡ suc (length ws) = e ∙ count_is lim s p j h f q ∙ ap length r in
      let l : length ws < 64 = omega (arith, few_at j s f, ap length r) in
      let m : n - 1 ≡ length ws = omega arith in
      o ∙ ap (λ k. set (moved_down (16 + 64 * j) p) (12 + j) k) m
      ∙ image_rewritten lim s p j h f q (moved_down (16 + 64 * j)) (i ∷ ws) ws r (λ a z g. lower_list a z (16 + 64 * j) g i ws l)

  module _ (x : ℕ) where
    pub back_full : 64 ≤ n → PushedBack j x p p
    back_full z lim s f q o l = let c = e ∙ count_is lim s p j h f q in absurd (omega arith)

    pub front_full : 64 ≤ n → PushedFront j x p p
    front_full z lim s f q o l = let c = e ∙ count_is lim s p j h f q in absurd (omega arith)

    pub back_out : (p' : Bytes) → p' ≡ set (set p (16 + 64 * j + n) (x % 256)) (12 + j) (n + 1) → PushedBack j x p p'
    back_out p' o lim s f q b l =
        let xs : List ℕ = list_at j s in
        let c : n ≡ length xs = e ∙ count_is lim s p j h f q in
        let m : n + 1 ≡ length (xs ++ (x ∷ [])) = omega (arith, length-append xs (x ∷ [])) in
        let y : x % 256 ≡ x = omega arith in
        o ∙ ap₂ (λ u v. set (set p (16 + 64 * j + u) v) (12 + j) (u + 1)) c y ∙ ap (λ k. set (set p (16 + 64 * j + length xs) x) (12 + j) k) (ap (λ u. u + 1) (sym c) ∙ m)
        ∙ image_rewritten lim s p j h f q (λ t. set t (16 + 64 * j + length xs) x) xs (xs ++ (x ∷ [])) refl (λ a z g. append_list a z (16 + 64 * j) g x xs l)

    pub front_out : (p' : Bytes) → p' ≡ set (moved_up (16 + 64 * j) (x % 256) p) (12 + j) (n + 1) → PushedFront j x p p'
    front_out p' o lim s f q b l =
        let xs : List ℕ = list_at j s in
        let c : n ≡ length xs = e ∙ count_is lim s p j h f q in
        let m : n + 1 ≡ length (x ∷ xs) = omega arith in
        let y : x % 256 ≡ x = omega arith in
        o ∙ ap₂ (λ u v. set (moved_up (16 + 64 * j) v p) (12 + j) u) m y
        ∙ image_rewritten lim s p j h f q (moved_up (16 + 64 * j) x) xs (x ∷ xs) refl (λ a z g. raise_list a z (16 + 64 * j) g x xs l)
