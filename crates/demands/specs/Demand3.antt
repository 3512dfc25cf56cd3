-- Demand 3, carried through every call on the bytes: one invariant of the world, kept by a step, a run and a take.
use Rattle.std.specs.Prelude.{◌≡◌, refl, ◌⊎◌, length, drop, T, ltb, eqb}
use Rattle.std.proofs.Common.{sym, ltb→lt}
use Rattle.std.proofs.Math.Path.{subst}
use Prim.Native.Nat.{ℕ, zero, suc, ◌≤◌}
use Rattle.std.proofs.Math.Decide.{dec_le}
use native.Mathlib.Omega.{arith}
use Rattle.std.proofs.Math.Logic.{inl, inr}
use mathlib.Core.List.{List, [], ◌∷◌, ◌++◌}
use Rattle.std.proofs.Math.Dec.{eqb→eq}
use Rattle.base.specs.Branch.{if}
use Rattle.base.specs.Lists.{All, Some}
use Rattle.base.specs.BranchLaws.{if_elim, case_l_elim, and_l, and_r}
use Rattle.base.specs.ListLaws.{in_some, some_some}
use Rattle.rules.specs.Book.{Sequent, Book, rules}
use Rattle.rules.specs.Reading.{Bytes, read_book, got}
use Rattle.rules.specs.Sheet.{Model, Sheet, blank, limits}
use Rattle.rules.specs.Pool.{State, schedulers, strategies, opened, sheet_at, used}
use Rattle.rules.specs.Step.{step, run, list_of, taken}
use Rattle.rules.specs.Image.{sheet_size, slots_in, sheet_bytes, sheet_in, pool_bytes}
use Rattle.rules.specs.Sound.{sound}
use Rattle.rules.specs.Calls.{right_length, bound_of, Outcome, outcome, open_call, step_call, RunOutcome, run_call, TakeOutcome, take_outcome, take_call, OpenPromise}
use Rattle.rules.specs.Arrangement.{Arrangement, Keeps, Fits, KeepsAll}
use Rattle.images.specs.Storable.{small_limits}
use Rattle.images.specs.Sheets.{sheet_back}
use Rattle.fitting.specs.Fire.{Held, held_fits, held_empty}
use Rattle.soundness.specs.Book.{read_small}
use Rattle.pools.specs.Count.{cnt, hit_self, cnt_append, cnt_in}
use Rattle.pools.specs.Tidy.{Listed, Tidy}
use Rattle.pools.specs.Steps.{step_tidy, run_tidy, taken_tidy, opened_tidy, opened_blank, step_size, run_size, taken_size, opened_size}
use Rattle.demands.specs.Shape.{storable_at}
use Rattle.demands.specs.Refusals.{checked_elim, soundly_of}
use Rattle.demands.specs.Kept.{Roomy, kids_sound, fits_roomy, back, image_fits, image_sound, sound_tidy, slots_are, same_roomy}
use Rattle.demands.specs.Halves.{CompleteKeep, HeldIn, step_keeps, run_keeps, take_keeps, step_fits, run_fits, take_fits}
use Rattle.demands.specs.Worlds.{Call, World, left, took_from, took, After, stepped, ran, handed, Played, nothing, next, begun, state_of, Somewhere, waits, is_complete, is_bounded, was_complete, was_bounded, Empty}

-- ---- the invariant

-- An arrangement fits a listed sheet, or one that was taken.
data Holds (A : Arrangement) (s : State) (cs bs : List Sheet) : Type 0 where
  listed : HeldIn A s → Holds A s cs bs
  in_complete : Some (λ (x : Sheet). Held A x.model) cs → Holds A s cs bs
  in_bounded : Some (λ (x : Sheet). Held A x.model) bs → Holds A s cs bs

-- The pool is sound for the book, and both halves hold.
record Inv (b : Book) (w : World) : Type 1 where
  length_right : T (right_length (length w.pool))
  is_sound : T (sound limits b w.pool)
  complete : CompleteKeep (rules b) (state_of w)
  taken_keep : All (λ (x : Sheet). KeepsAll x.model (rules b)) w.took_complete
  fitted : (A : Arrangement) → Keeps A (rules b) → Holds A (state_of w) w.took_complete w.took_bounded

blank_held : (A : Arrangement) → Held A blank.model
unfolding blank
blank_held A = held_empty A

opened_complete : (sc st n : ℕ) → (opened sc st n).complete ≡ []
unfolding opened
opened_complete sc st n = refl

opened_first : (sc st n : ℕ) → Listed (opened sc st n) 0
unfolding opened used cnt
opened_first sc st n = let h = hit_self 0 in omega arith

-- What was taken stays; what is listed is carried on.
through : (A : Arrangement) (s t : State) → (HeldIn A s → HeldIn A t) → (cs bs : List Sheet) → Holds A s cs bs → Holds A t cs bs
through A s t f cs bs (listed h) = listed (f h)
through A s t f cs bs (in_complete u) = in_complete u
through A s t f cs bs (in_bounded u) = in_bounded u

module _ (book : Bytes) (b : Book) (e : ℕ) (r : read_book book ≡ got b e) where
  -- A world whose pool is the image of a tidy state.
  state_inv : (s : State) → Tidy limits b s → Roomy s → (cs bs : List Sheet) → CompleteKeep (rules b) s → All (λ (x : Sheet). KeepsAll x.model (rules b)) cs
      → ((A : Arrangement) → Keeps A (rules b) → Holds A s cs bs) → Inv b (record { pool = pool_bytes limits s; took_complete = cs; took_bounded = bs })
  state_inv s g w cs bs c k f =
      let e' = back book b e r s g w in
      record {
        length_right = image_fits book b e r s g w;
        is_sound = image_sound book b e r s g w;
        complete = subst (CompleteKeep (rules b)) (sym e') c;
        taken_keep = k;
        fitted = λ A q. subst (λ t. Holds A t cs bs) (sym e') (f A q);
      }

  begun_inv : (pool : Bytes) (sc st : ℕ) → (open_call book pool sc st).answer ≡ 0 → Inv b (begun (open_call book pool sc st).pool)
  unfolding open_call outcome begun
  begun_inv pool sc st =
      checked_elim (λ (o : Outcome). o.answer ≡ 0 → Inv b (begun o.pool)) book pool _ _ _ (λ n l z. absurd (omega (arith, l.some))) (λ b' p z.
      let n = slots_in limits (length pool) in
      let w = fits_roomy pool p.length_right in
      let k = slots_are pool in
      let m = opened_size sc st n in
      let some = w.some in
      let few = w.few in
      state_inv (opened sc st n)
      (opened_tidy limits b sc st n (ltb→lt sc schedulers (and_l (ltb sc schedulers) _ p.known)) (ltb→lt st strategies (and_r (ltb sc schedulers) _ p.known)) (omega arith))
      (record { some = omega arith; few = omega arith }) [] [] (nothing_complete n) tt
      (λ A _. listed (0, first n, subst (λ (x : Sheet). Held A x.model) (sym (opened_blank sc st n 0)) (blank_held A))))
    where
      nothing_complete : (n : ℕ) → CompleteKeep (rules b) (opened sc st n)
      nothing_complete n = none n
        where
          none : (n : ℕ) → CompleteKeep (rules b) (opened sc st n)
          none n = subst (All (λ j. KeepsAll (sheet_at (opened sc st n) j).model (rules b))) (sym (opened_complete sc st n)) tt

      first : (n : ℕ) → Listed (opened sc st n) 0
      first n = opened_first sc st n

  -- A refused step leaves the world as it was; another leaves the image of the next state.
  step_inv : (w : World) (bound number : ℕ) → Inv b w → Inv b (left (step_call book w.pool bound number).pool w)
  unfolding step_call outcome left
  step_inv w bound number i =
      soundly_of (λ (o : Outcome). Inv b (left o.pool w)) book w.pool _ _ _ b e r (λ n l. i) (λ l k t.
      let s = state_of w in
      let bd = bound_of bound number in
      let g = sound_tidy b w.pool t in
      let kids = kids_sound book b e r in
      if_elim (λ (o : Outcome). Inv b (left o.pool w)) _ _ _
      (λ _. state_inv (step limits bd (rules b) s).state (step_tidy limits b kids bd s g) (same_roomy s _ (step_size limits bd (rules b) s) (fits_roomy w.pool l))
      w.took_complete w.took_bounded (step_keeps limits b kids bd s g i.complete) i.taken_keep
      (λ A q. through A s _ (step_fits limits b kids A q bd s g) w.took_complete w.took_bounded (i.fitted A q)))
      (λ _. i))

  run_inv : (w : World) (bound number budget : ℕ) → Inv b w → Inv b (left (run_call book w.pool bound number budget).pool w)
  unfolding run_call left
  run_inv w bound number budget i =
      soundly_of (λ (o : RunOutcome). Inv b (left o.pool w)) book w.pool _ _ _ b e r (λ n l. i) (λ l k t.
      let s = state_of w in
      let bd = bound_of bound number in
      let g = sound_tidy b w.pool t in
      let kids = kids_sound book b e r in
      state_inv (run limits budget bd (rules b) s).state (run_tidy limits b kids budget bd s g) (same_roomy s _ (run_size limits budget bd (rules b) s) (fits_roomy w.pool l))
      w.took_complete w.took_bounded (run_keeps limits b kids budget bd s g i.complete) i.taken_keep
      (λ A q. through A s _ (run_fits limits b kids A q budget bd s g) w.took_complete w.took_bounded (i.fitted A q)))

  -- A take moves a sheet from its list to those that were taken, and the bytes that it wrote are that sheet.
  module _ (w : World) (i : Inv b w) (room : Roomy (state_of w)) (g : Tidy limits b (state_of w)) (out : Bytes) (j : ℕ) (js : List ℕ) where
    abbrev s : State
    s = state_of w

    abbrev written : Bytes
    written = sheet_bytes limits (sheet_at s j) ++ drop (sheet_size limits) out

    writes : sheet_in limits written ≡ sheet_at s j
    writes = let small = read_small book b e r in sheet_back limits small_limits (sheet_at s j) (storable_at limits b small.0 small.1 s g room.few j) (drop (sheet_size limits) out)

    was : (P : Model → Type 0) → P (sheet_at s j).model → P (sheet_in limits written).model
    was P p = subst (λ (x : Sheet). P x.model) (sym writes) p

    took_inv : (list : ℕ) → list_of list s ≡ j ∷ js → Inv b (took_from list (pool_bytes limits (taken list s j js)) written w)
    unfolding took_from list_of
    took_inv zero l = state_inv (taken zero s j js) (taken_tidy limits b s j js g zero l) (same_roomy s _ (taken_size zero s j js) room)
        (sheet_in limits written ∷ w.took_complete) w.took_bounded (take_keeps limits b (kids_sound book b e r) zero s j js g l i.complete)
        (was (λ m. KeepsAll m (rules b)) (subst (All (λ k. KeepsAll (sheet_at s k).model (rules b))) l i.complete).0, i.taken_keep)
        (λ A q. go A q (i.fitted A q))
      where
        go : (A : Arrangement) → Keeps A (rules b) → Holds A s w.took_complete w.took_bounded → Holds A (taken zero s j js) (sheet_in limits written ∷ w.took_complete) w.took_bounded
        go A q (listed h) = elim (take_fits limits b (kids_sound book b e r) A q zero s j js g l h) [ inl u ↦ in_complete (inl (was (Held A) u)) | inr h' ↦ listed h' ]
        go A q (in_complete u) = in_complete (inr u)
        go A q (in_bounded u) = in_bounded u
    took_inv (suc n) l = state_inv (taken (suc n) s j js) (taken_tidy limits b s j js g (suc n) l) (same_roomy s _ (taken_size (suc n) s j js) room)
        w.took_complete (sheet_in limits written ∷ w.took_bounded) (take_keeps limits b (kids_sound book b e r) (suc n) s j js g l i.complete) i.taken_keep
        (λ A q. go A q (i.fitted A q))
      where
        go : (A : Arrangement) → Keeps A (rules b) → Holds A s w.took_complete w.took_bounded → Holds A (taken (suc n) s j js) w.took_complete (sheet_in limits written ∷ w.took_bounded)
        go A q (listed h) = elim (take_fits limits b (kids_sound book b e r) A q (suc n) s j js g l h) [ inl u ↦ in_bounded (inl (was (Held A) u)) | inr h' ↦ listed h' ]
        go A q (in_complete u) = in_complete u
        go A q (in_bounded u) = in_bounded (inr u)

  -- A refused take took nothing, and one that answers 0 took a sheet.
  took_none : (w : World) (n list : ℕ) (out : Bytes) → 1 ≤ n → Inv b w → Inv b (took n list w.pool out w)
  unfolding took left
  took_none w n list out l i = if_elim (Inv b) (eqb n 0) (λ _. took_from list w.pool out w) (λ _. left w.pool w) (λ z. let y = eqb→eq n 0 z in absurd (omega arith)) (λ _. i)

  took_one : (w : World) (list : ℕ) (p out : Bytes) → Inv b (took_from list p out w) → Inv b (took 0 list p out w)
  unfolding took if
  took_one w list p out i = i

  take_inv : (w : World) (list : ℕ) (out : Bytes) → Inv b w
      → Inv b (took (take_call book w.pool list out).answer list (take_call book w.pool list out).pool (take_call book w.pool list out).out w)
  unfolding take_call take_outcome
  take_inv w list out i =
      soundly_of (λ (o : TakeOutcome). Inv b (took o.answer list o.pool o.out w)) book w.pool _ _ _ b e r (λ n l. took_none w n list out l.some i) (λ l k t.
      case_l_elim (λ (o : TakeOutcome). Inv b (took o.answer list o.pool o.out w)) _ _ _ (λ _. took_none w 18 list out (omega arith) i) (λ j js q.
      if_elim (λ (o : TakeOutcome). Inv b (took o.answer list o.pool o.out w)) _ _ _ (λ _. took_none w 19 list out (omega arith) i) (λ _.
      took_one w list _ _ (took_inv w i (fits_roomy w.pool l) (sound_tidy b w.pool t) out j js list q))))

  -- ---- every call, and any list of them

  after_inv : (u : World) (c : Call) (v : World) → After book u c v → Inv b u → Inv b v
  after_inv u _ _ (stepped bound number answer after p) i = subst (λ q. Inv b (left q u)) (sym p.leaves) (step_inv u bound number i)
  after_inv u _ _ (ran bound number budget stop steps after p) i = subst (λ q. Inv b (left q u)) (sym p.leaves) (run_inv u bound number budget i)
  after_inv u _ _ (handed list out answer after written p) i =
      subst (λ (o : TakeOutcome). Inv b (took o.answer list o.pool o.out u)) (λ k. record { answer = sym p.answers k; pool = sym p.leaves k; out = sym p.writes k }) (take_inv u list out i)

  played_inv : (u : World) (cs : List Call) (w : World) → Played book u cs w → Inv b u → Inv b w
  played_inv _ _ _ (nothing w) i = i
  played_inv _ _ _ (next u v w c cs a p) i = played_inv v cs w p (after_inv u c v a i)

-- ---- as document 01 says it

-- A listed slot is waiting, complete or bounded.
listed_where : (P : ℕ → Type 0) (s : State) (j : ℕ) → Listed s j → P j → Some P s.waiting ⊎ (Some P s.complete ⊎ Some P s.bounded)
unfolding used
listed_where P s j l p = go (dec_le 1 (cnt j s.waiting)) (dec_le 1 (cnt j s.complete))
  where
    has : (xs : List ℕ) → 1 ≤ cnt j xs → Some P xs
    has xs m = in_some P j xs (cnt_in j xs m) p

    go : Dec (1 ≤ cnt j s.waiting) → Dec (1 ≤ cnt j s.complete) → Some P s.waiting ⊎ (Some P s.complete ⊎ Some P s.bounded)
    go (yes a) c = inl (has s.waiting a)
    go (no a) (yes c) = inr (inl (has s.complete c))
    go (no a) (no c) =
        let u = cnt_append j s.waiting (s.complete ++ s.bounded) in
        let v = cnt_append j s.complete s.bounded in
        inr (inr (has s.bounded (omega arith)))

holds_fits : (A : Arrangement) (w : World) → Holds A (state_of w) w.took_complete w.took_bounded → Somewhere (Fits A) w
holds_fits A w (listed h) = go (listed_where (λ j. Fits A (sheet_at (state_of w) j).model) (state_of w) h.0 h.1 (held_fits A _ h.2))
  where
    go : Some (λ j. Fits A (sheet_at (state_of w) j).model) (state_of w).waiting
        ⊎ (Some (λ j. Fits A (sheet_at (state_of w) j).model) (state_of w).complete ⊎ Some (λ j. Fits A (sheet_at (state_of w) j).model) (state_of w).bounded) → Somewhere (Fits A) w
    go (inl u) = waits u
    go (inr (inl u)) = is_complete u
    go (inr (inr u)) = is_bounded u
holds_fits A w (in_complete u) = was_complete (some_some (λ (x : Sheet). Held A x.model) (λ (x : Sheet). Fits A x.model) (λ x h. held_fits A x.model h) w.took_complete u)
holds_fits A w (in_bounded u) = was_bounded (some_some (λ (x : Sheet). Held A x.model) (λ (x : Sheet). Fits A x.model) (λ x h. held_fits A x.model h) w.took_bounded u)

-- Both halves, of what can be seen.
pub record Demand3 (rs : List Sequent) (w : World) : Type 1 where
  pub complete_keep : All (λ j. KeepsAll (sheet_at (state_of w) j).model rs) (state_of w).complete
  pub taken_keep : All (λ (x : Sheet). KeepsAll x.model rs) w.took_complete
  pub still_fits : (A : Arrangement) → Keeps A rs → Somewhere (Fits A) w

pub demand_3 : (book pool : Bytes) (scheduler strategy : ℕ) (opened : Bytes) → OpenPromise book pool scheduler strategy 0 opened
    → (b : Book) (e : ℕ) → read_book book ≡ got b e → (cs : List Call) (w : World) → Played book (begun opened) cs w → Demand3 (rules b) w
demand_3 book pool scheduler strategy opened p b e r cs w q =
    let i = played_inv book b e r (begun opened) cs w q (subst (λ x. Inv b (begun x)) (sym p.leaves) (begun_inv book b e r pool scheduler strategy (sym p.answers))) in
    record { complete_keep = i.complete; taken_keep = i.taken_keep; still_fits = λ A k. holds_fits A w (i.fitted A k) }

nowhere : (P : Model → Type 0) (w : World) → Empty w → Somewhere P w → ⊥
nowhere P w n (waits u) = (subst (Some (λ j. P (sheet_at (state_of w) j).model)) n.waiting u).lower
nowhere P w n (is_complete u) = (subst (Some (λ j. P (sheet_at (state_of w) j).model)) n.complete u).lower
nowhere P w n (is_bounded u) = (subst (Some (λ j. P (sheet_at (state_of w) j).model)) n.bounded u).lower
nowhere P w n (was_complete u) = (subst (Some (λ (x : Sheet). P x.model)) n.took_complete u).lower
nowhere P w n (was_bounded u) = (subst (Some (λ (x : Sheet). P x.model)) n.took_bounded u).lower

-- So if nothing waits and no sheet was ever complete or bounded, no arrangement keeps the rules.
pub nothing_keeps_them : (rs : List Sequent) (w : World) → Demand3 rs w → Empty w → (A : Arrangement) → Keeps A rs → ⊥
nothing_keeps_them rs w d n A k = nowhere (Fits A) w n (d.still_fits A k)
