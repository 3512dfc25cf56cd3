-- Take behind the book's check, and that what it writes is the definition's outcome: the first sheet of a list is copied, its
-- slot is all zero, and the list goes on behind it.
use Rattle.std.specs.Prelude.{◌≡◌, refl, get_or, replicate, T, ltb}
use Rattle.std.proofs.Math.Path.{sym, ap, ap₂, subst}
use Rattle.std.proofs.Common.{◌∙◌, drop-drop, lt-ltb, le-ltb}
use Prim.Native.Nat.{ℕ, zero, suc, ◌+◌, ◌-◌, ◌*◌, ◌≤◌, ◌<◌}
use native.Mathlib.Omega.{arith}
use mathlib.Core.List.{List, [], ◌∷◌, ◌++◌, map, append_assoc}
use Rattle.std.proofs.Math.ListN.{length, take, drop, length-append}
use Rattle.std.proofs.lemmas.List.{length-replicate}
use Rattle.std.proofs.Math.Seq.{take_at, drop_at}
use Rattle.std.proofs.Math.Dec.{ltb→lt}
use Rattle.base.specs.Branch.{if, case_l}
use Rattle.base.specs.Lists.{All, flat, from}
use Rattle.base.specs.ListLaws.{all_map, all_get_d}
use Rattle.pools.specs.Count.{from_all}
use Rattle.rules.specs.Book.{Book}
use Rattle.rules.specs.Reading.{Bytes}
use Rattle.rules.specs.Sheet.{Sheet, blank, limits}
use Rattle.rules.specs.Pool.{State, sheet_at, freed, changed}
use Rattle.rules.specs.Step.{lists, list_of, taken}
use Rattle.rules.specs.Image.{pool_head, pool_bytes, sheet_size, part, sheet_in, sheet_bytes, pool_in}
use Rattle.rules.specs.Sound.{sound}
use Rattle.rules.specs.Calls.{right_length, TakeOutcome, take_outcome}
use Rattle.images.specs.Regions.{table_before, table_split, table_set}
use Rattle.images.specs.Sheets.{blank_zero}
use Rattle.sheetparts.specs.Loops.{up_to, up_next, up_end, every_at}
use Rattle.sheetparts.specs.Tests.{byte_at}
use Rattle.sheetparts.specs.Ways.{on, off}
use Rattle.sheetcheck.specs.Regions.{part_length}
use Rattle.poolparts.specs.Tests.{row_at, start_of, slot_at, in_range}
use Rattle.poolcheck.specs.Heads.{Frame, list_row, list_length, head_size_lem}
use Rattle.poolcheck.specs.Pools.{slots_long, slots_are, sheet_is, again_size, pool_images}
use Rattle.heads.specs.Lists.{Few, Popped}
use Rattle.octets.specs.Patch.{patched}
use Rattle.takings.specs.Moves.{copied}

-- ---- behind the book's check

-- Of a sound pool.
unfoldable pub take_first : Bytes → ℕ → Bytes → ℕ → List ℕ → TakeOutcome
take_first pool list out i is = if (ltb (length out) (sheet_size limits)) (λ _. take_outcome 19 pool out) (λ _.
    take_outcome 0 (pool_bytes limits (taken list (pool_in limits pool) i is)) (sheet_bytes limits (sheet_at (pool_in limits pool) i) ++ drop (sheet_size limits) out))

unfoldable pub take_going : Bytes → ℕ → Bytes → TakeOutcome
take_going pool list out = case_l (list_of list (pool_in limits pool)) (λ _. take_outcome 18 pool out) (take_first pool list out)

unfoldable pub take_rest : Book → Bytes → ℕ → Bytes → TakeOutcome
take_rest b pool list out = if (right_length (length pool)) (λ _. if (ltb list lists)
    (λ _. if (sound limits b pool) (λ _. take_going pool list out) (λ _. take_outcome 13 pool out)) (λ _. take_outcome 12 pool out)) (λ _. take_outcome 11 pool out)

-- An answer and both buffers are those of an outcome.
pub record Took (o : TakeOutcome) (answer : ℕ) (after written : Bytes) : Type 0 where
  pub answers : answer ≡ o.answer
  pub leaves : after ≡ o.pool
  pub writes : written ≡ o.out

pub took_by : (o q : TakeOutcome) (answer : ℕ) (after written : Bytes) → o ≡ q → Took q answer after written → Took o answer after written
took_by o q answer after written e t = subst (λ x. Took x answer after written) (sym e) t

pub took_is : (n : ℕ) (p o : Bytes) → Took (take_outcome n p o) n p o
unfolding take_outcome
took_is n p o = record { answers = refl; leaves = refl; writes = refl }

-- ---- the list

-- Where a list stands in the header, and its count.
abbrev pub list_place : ℕ → ℕ
list_place list = 16 + 64 * (1 + list)

abbrev pub count_place : ℕ → ℕ
count_place list = 12 + (1 + list)

-- A pool in frame that is the image of what it says.
pub record Ready (p : Bytes) : Type 0 where
  pub slots : ℕ
  pub long : length p ≡ 208 + 2128 * slots
  pub frame : Frame p slots
  pub image : pool_bytes limits (pool_in limits p) ≡ p

module _ (p : Bytes) (r : Ready p) where
  abbrev s : State
  s = pool_in limits p

  list_is : (list : ℕ) → list < 2 → list_of list s ≡ row_at p (list_place list) (byte_at p (count_place list))
  unfolding list_of pool_in
  list_is zero h = list_row p 80 (byte_at p 13) (omega (arith, r.long)) r.frame.complete.few
  list_is (suc zero) h = list_row p 144 (byte_at p 14) (omega (arith, r.long)) r.frame.bounded.few
  list_is (suc (suc list)) h = absurd (omega arith)

  few : (list : ℕ) → list < 2 → byte_at p (count_place list) ≤ 64
  few zero h = r.frame.complete.few
  few (suc zero) h = r.frame.bounded.few
  few (suc (suc list)) h = absurd (omega arith)

  inside : (list : ℕ) → list < 2 → T (in_range p r.slots (list_place list) (byte_at p (count_place list)))
  inside zero h = r.frame.complete.inside
  inside (suc zero) h = r.frame.bounded.inside
  inside (suc (suc list)) h = absurd (omega arith)

  -- The first slot is one of the pool's.
  pub first_fits : (list : ℕ) → list < 2 → (byte_at p (count_place list) ≡ 0 → ⊥) → (byte_at p (list_place list) < r.slots) × (start_of (byte_at p (list_place list)) + 2128 ≤ length p)
  unfolding in_range slot_at
  first_fits list h z =
      let e : list_place list + 0 ≡ list_place list = omega arith in
      let l = ltb→lt _ r.slots (every_at (slot_at p r.slots (list_place list)) (byte_at p (count_place list)) (inside list h) 0 (omega arith)) in
      let k : byte_at p (list_place list) < r.slots = subst (λ a. byte_at p a < r.slots) e l in
      (k, omega (arith, r.long))

  abbrev rest : ℕ → List ℕ
  rest list = map (λ j. byte_at p (list_place list + j)) (up_to 1 (byte_at p (count_place list)))

  empty_is : (list : ℕ) → list < 2 → byte_at p (count_place list) ≡ 0 → list_of list s ≡ []
  unfolding row_at
  empty_is list h e = list_is list h ∙ ap (map (λ j. byte_at p (list_place list + j))) (up_end 0 (byte_at p (count_place list)) (omega arith))

  first_is : (list : ℕ) → list < 2 → (byte_at p (count_place list) ≡ 0 → ⊥) → list_of list s ≡ byte_at p (list_place list) ∷ rest list
  unfolding row_at
  first_is list h z =
      let e : list_place list + 0 ≡ list_place list = omega arith in
      list_is list h ∙ ap (map (λ j. byte_at p (list_place list + j))) (up_next 0 (byte_at p (count_place list)) (omega arith)) ∙ ap (λ (k : ℕ). byte_at p k ∷ rest list) e

  -- ---- the bytes afterwards

  abbrev Sized : Sheet → Type 0
  Sized x = length (sheet_bytes limits x) ≡ 2128

  module _ (bytes : (i : ℕ) → byte_at p i < 256) where
    all_sized : (b : Book) → All Sized s.slots
    unfolding up_to
    all_sized b = subst (All Sized) (sym (slots_are b p r.slots r.long bytes)) (all_map (λ i. i < r.slots) Sized (λ i. sheet_in limits (part (start_of i) 2128 p))
        (λ i h. again_size b p r.slots r.long bytes (part (start_of i) 2128 p) (part_length (start_of i) 2128 p (omega (arith, r.long)))) (from 0 (r.slots - 0))
        (from_all (λ i. i < r.slots) 0 (r.slots - 0) (λ j _ h. omega arith)))

    -- A slot cleared is that slot freed.
    cleared_is : (b : Book) (i : ℕ) → i < r.slots → patched (start_of i) (replicate 2128 0) p ≡ pool_head s ++ flat (map (sheet_bytes limits) (freed i s.slots))
    unfolding patched freed pool_bytes limits sheet_size
    cleared_is b i h =
        let l : i < length s.slots = omega (arith, slots_long b p r.slots r.long bytes) in
        let before : Bytes = pool_head s ++ flat (map (sheet_bytes limits) (take i s.slots)) in
        let here : Bytes = sheet_bytes limits (get_or s.slots i blank) in
        let behind : Bytes = flat (map (sheet_bytes limits) (drop (suc i) s.slots)) in
        let n : length before ≡ start_of i = length-append (pool_head s) (flat (map (sheet_bytes limits) (take i s.slots))) ∙ ap₂ (λ (x y : ℕ). x + y) (head_size_lem limits p (omega (arith, r.long)) bytes)
        (table_before 2128 Sized (sheet_bytes limits) (λ x q. q) s.slots i (omega arith) (all_sized b)) in
        let m : length here ≡ 2128 = all_get_d Sized s.slots i blank l (all_sized b) in
        let w : p ≡ before ++ (here ++ behind) = sym r.image ∙ ap (λ (x : Bytes). pool_head s ++ x) (table_split (sheet_bytes limits) s.slots i blank l) ∙ sym (append_assoc (pool_head s) _ (here ++ behind)) in
        append_assoc (take (start_of i) p) (replicate 2128 0) _ ∙ ap (λ n. take (start_of i) p ++ (replicate 2128 0 ++ drop (start_of i + n) p)) (length-replicate {A = ℕ} 2128 0)
        ∙ ap₂ (λ (x y : Bytes). x ++ (replicate 2128 0 ++ y)) (ap (take (start_of i)) w ∙ take_at before (here ++ behind) (start_of i) n)
        (ap (drop (start_of i + 2128)) w ∙ sym (drop-drop 2128 (start_of i) (before ++ (here ++ behind))) ∙ ap (drop 2128) (drop_at before (here ++ behind) (start_of i) n) ∙ drop_at here behind 2128 m)
        ∙ ap (λ (x : Bytes). before ++ (x ++ behind)) (sym (blank_zero limits)) ∙ append_assoc (pool_head s) _ (sheet_bytes limits blank ++ behind)
        ∙ ap (λ (x : Bytes). pool_head s ++ x) (sym (table_set (sheet_bytes limits) s.slots i blank l))

-- The slot is cleared before the list loses it.
pub popped_behind : (j : ℕ) (p q after : Bytes) → q ≡ p → Popped j q after → Popped j p after
popped_behind j p q after e pop lim s f g = pop lim s f (e ∙ g)

-- ---- the ways out

module _ (p : Bytes) (r : Ready p) (list : ℕ) (out : Bytes) (h : list < 2) where
  abbrev now : State
  now = pool_in limits p

  pub take_empty : byte_at p (count_place list) ≡ 0 → Took (take_going p list out) 18 p out
  unfolding take_going case_l
  take_empty e = took_by _ (take_outcome 18 p out) _ _ _ (ap (λ (l : List ℕ). case_l l (λ _. take_outcome 18 p out) (take_first p list out)) (empty_is p r list h e)) (took_is 18 p out)

  module _ (z : byte_at p (count_place list) ≡ 0 → ⊥) where
    abbrev i : ℕ
    i = byte_at p (list_place list)

    first : take_going p list out ≡ take_first p list out i (rest p r list)
    unfolding take_going case_l
    first = ap (λ (l : List ℕ). case_l l (λ _. take_outcome 18 p out) (take_first p list out)) (first_is p r list h z)

    pub take_short : length out < 2128 → Took (take_going p list out) 19 p out
    unfolding take_first limits sheet_size
    take_short l = took_by _ (take_outcome 19 p out) _ _ _ (first ∙ on (ltb (length out) 2128) _ _ (lt-ltb (length out) 2128 l)) (took_is 19 p out)

    counts_fit : (length now.waiting ≤ 64) × ((length now.complete ≤ 64) × (length now.bounded ≤ 64))
    unfolding pool_in
    counts_fit = (
      omega (arith, list_length p 16 (byte_at p 12) (omega (arith, r.long))),
      (omega (arith, list_length p 80 (byte_at p 13) (omega (arith, r.long))), omega (arith, list_length p 144 (byte_at p 14) (omega (arith, r.long)))),
    )

    -- The state with the slot freed, before the list loses it.
    abbrev emptied : State
    emptied = changed now now.next now.waiting now.complete now.bounded (freed i now.slots)

    emptied_is : (b : Book) → ((j : ℕ) → byte_at p j < 256) → patched (start_of i) (replicate 2128 0) p ≡ pool_bytes limits emptied
    unfolding pool_bytes pool_head changed
    emptied_is b bytes = cleared_is p r bytes b i (first_fits p r list h z).0

    pool_after : (b : Book) → ((j : ℕ) → byte_at p j < 256) → (after : Bytes) → Popped (1 + list) (patched (start_of i) (replicate 2128 0) p) after
        → after ≡ pool_bytes limits (taken list now i (rest p r list))
    unfolding list_of taken changed
    pool_after b bytes after pop = go list h (first_is p r list h z) pop
      where
        few : Few emptied
        few = record { waiting = counts_fit.0; complete = counts_fit.1.0; bounded = counts_fit.1.1 }

        go : (l : ℕ) → l < 2 → list_of l now ≡ i ∷ rest p r list → Popped (1 + l) (patched (start_of i) (replicate 2128 0) p) after → after ≡ pool_bytes limits (taken l now i (rest p r list))
        go zero h e pop = pop limits emptied few (emptied_is b bytes) i (rest p r list) e
        go (suc zero) h e pop = pop limits emptied few (emptied_is b bytes) i (rest p r list) e
        go (suc (suc l)) h e pop = absurd (omega arith)

    sheet_after : (b : Book) → ((j : ℕ) → byte_at p j < 256) → part (start_of i) 2128 p ≡ sheet_bytes limits (sheet_at now i)
    sheet_after b bytes =
        let l = (first_fits p r list h z).0 in
        sym ((pool_images b p r.slots r.long bytes r.image).1 i l) ∙ ap (sheet_bytes limits) (sym (sheet_is b p r.slots r.long bytes i l))

    pub take_done : (b : Book) → ((j : ℕ) → byte_at p j < 256) → 2128 ≤ length out → (after written : Bytes)
        → Popped (1 + list) (patched (start_of i) (replicate 2128 0) p) after → written ≡ copied p (start_of i) 2128 out
        → Took (take_going p list out) 0 after written
    unfolding take_first take_outcome limits sheet_size copied
    take_done b bytes l after written e q =
        let o = first ∙ off (ltb (length out) 2128) _ _ (le-ltb (length out) 2128 l) in
        record {
          answers = ap (λ (x : TakeOutcome). x.answer) (sym o);
          leaves = pool_after b bytes after e ∙ ap (λ (x : TakeOutcome). x.pool) (sym o);
          writes = q ∙ ap (λ (x : Bytes). x ++ drop 2128 out) (sheet_after b bytes) ∙ ap (λ (x : TakeOutcome). x.out) (sym o);
        }

-- Any book serves where the laws of a pool's bytes ask for one.
pub any_book : Book
any_book = record { names = record { constants = 0; functions = []; relations = []; constant_witnesses = 0; function_witnesses = [] }; sequents = [] }
