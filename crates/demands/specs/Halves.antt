-- The two halves of demand 3 over a tidy state: through a step, a run and a take, every complete sheet keeps every rule, and what
-- fits some listed sheet fits some listed sheet afterwards, or the one that was taken.
use Rattle.std.specs.Prelude.{◌≡◌, ◌⊎◌, length}
use Rattle.std.proofs.Math.Path.{refl, subst}
use Rattle.std.proofs.Common.{sym, le_trans, inl, inr}
use Prim.Native.Nat.{ℕ, zero, suc, ◌≤◌}
use Rattle.std.proofs.Math.Decide.{ℕ_discrete}
use native.Mathlib.Omega.{arith}
use mathlib.Core.List.{List, [], ◌∷◌, ◌++◌}
use Rattle.base.specs.Lists.{All}
use Rattle.base.specs.BranchLaws.{if_elim}
use Rattle.base.specs.ListLaws.{all_both, all_append}
use Rattle.rules.specs.Book.{Sequent, Book, rules}
use Rattle.rules.specs.Sheet.{Sheet, Limits}
use Rattle.rules.specs.Fire.{Firing, place_after}
use Rattle.rules.specs.Bound.{Bound}
use Rattle.rules.specs.Pool.{State, sheet_at, used, free, changed}
use Rattle.rules.specs.Step.{Placed, placed, Answer, refuse, done, with_placed, without_base, step, Ran, run, list_of, taken}
use Rattle.rules.specs.Arrangement.{Arrangement, Keeps, KeepsAll}
use Rattle.laws.specs.Firing.{visits_cover, visits_within, nothing_keeps}
use Rattle.fitting.specs.Fire.{Held, fired_held, failed_none}
use Rattle.pools.specs.Count.{hit_other, cnt_append, cnt_all}
use Rattle.pools.specs.Slots.{free_more, placed_some}
use Rattle.pools.specs.Tidy.{Listed, Tidy}
use Rattle.pools.specs.Moves.{kept_tidy, New, placed_old, placed_has}
use Rattle.pools.specs.Steps.{strategy_in, visited, kids_of, Did, refusing, completing, failing, branching, step_did, first_listed, base_kept, base_counts, done_kept, done_counts, KidsSound, branch_new, step_tidy, taken_kept, taken_counts}

-- ---- the first half

-- Every complete sheet keeps every rule at every choice of its own elements.
abbrev pub CompleteKeep : List Sequent → State → Type 0
CompleteKeep rs s = All (λ j. KeepsAll (sheet_at s j).model rs) s.complete

-- The arrangement fits some listed sheet.
abbrev pub HeldIn : Arrangement → State → Type 0
HeldIn A s = (j : ℕ) × Listed s j × Held A (sheet_at s j).model

-- A slot of the complete list is listed.
complete_listed : (s : State) → All (Listed s) s.complete
unfolding used
complete_listed s = cnt_all (Listed s) s.complete (λ j l.
    let a = cnt_append j s.waiting (s.complete ++ s.bounded) in
    let c = cnt_append j s.complete s.bounded in
    omega arith)

-- The same slots complete, with the same sheets.
carried : (rs : List Sequent) (s t : State) → t.complete ≡ s.complete → ((j : ℕ) → Listed t j → sheet_at t j ≡ sheet_at s j) → CompleteKeep rs s → CompleteKeep rs t
carried rs s t e f a = go t.complete (complete_listed t) (subst (λ l. All (λ j. KeepsAll (sheet_at s j).model rs) l) (sym e) a)
  where
    go : (l : List ℕ) → All (Listed t) l → All (λ j. KeepsAll (sheet_at s j).model rs) l → All (λ j. KeepsAll (sheet_at t j).model rs) l
    go [] u v = tt
    go (j ∷ js) u v = (subst (λ (x : Sheet). KeepsAll x.model rs) (sym (f j u.0)) v.0, go js u.1 v.1)

module _ (lim : Limits) (b : Book) (kids : KidsSound lim b) where
  abbrev rs : List Sequent
  rs = rules b

  did_keeps : (bd : Bound) (s : State) → Tidy lim b s → CompleteKeep rs s → (r : Answer) → Did lim bd rs s r → CompleteKeep rs r.state
  unfolding refuse done with_placed without_base changed sheet_at
  did_keeps bd s g a _ (refusing n z) = a
  did_keeps bd s g a _ (completing i ws e q) =
      all_append (λ j. KeepsAll (sheet_at s j).model rs) s.complete (i ∷ []) a
      (nothing_keeps (sheet_at s i).model rs (visited rs s i) (visits_cover (strategy_in s) (sheet_at s i).place rs) q, tt)
  did_keeps bd s g a _ (failing i ws f e q t) = carried rs s (without_base s i ws) refl (base_kept s i ws e lim b g).still a
  did_keeps bd s g a _ (branching i ws f e q t u v) =
      let s₀ = without_base s i ws in
      let kept = base_kept s i ws e lim b g in
      let new = branch_new lim b kids bd s g i ws f e q t u v in
      all_both (λ j. KeepsAll (sheet_at s₀ j).model rs) (Listed s₀) (λ j. KeepsAll (sheet_at (with_placed s₀ (ones s i ws f)).state j).model rs)
      (λ j k l. subst (λ (x : Sheet). KeepsAll x.model rs) (sym (placed_old lim b s₀ (ones s i ws f) (kept_tidy lim b s s₀ kept g) new j l).1) k)
      s.complete (carried rs s s₀ refl kept.still a) (complete_listed s₀)
    where
      ones : State → ℕ → List ℕ → Firing → List Placed
      ones s i ws f = placed (free (without_base s i ws)) (place_after (strategy_in s) f.index (length rs)) s.next (kids_of lim bd s i f)

  pub step_keeps : (bd : Bound) (s : State) → Tidy lim b s → CompleteKeep rs s → CompleteKeep rs (step lim bd rs s).state
  step_keeps bd s g a = did_keeps bd s g a _ (step_did lim bd rs s)

  pub run_keeps : (n : ℕ) (bd : Bound) (s : State) → Tidy lim b s → CompleteKeep rs s → CompleteKeep rs (run lim n bd rs s).state
  unfolding run
  run_keeps zero bd s g a = a
  run_keeps (suc n) bd s g a =
      if_elim (λ (y : Ran). CompleteKeep rs y.state) _ _ _ (λ _. run_keeps n bd (step lim bd rs s).state (step_tidy lim b kids bd s g) (step_keeps bd s g a)) (λ _. a)

  -- ---- the second half

  module _ (A : Arrangement) (keeps : Keeps A rs) where
    -- The sheet in a slot, as it was.
    moved : (s t : State) (j : ℕ) → sheet_at t j ≡ sheet_at s j → Held A (sheet_at s j).model → Held A (sheet_at t j).model
    moved s t j e h = subst (λ (x : Sheet). Held A x.model) (sym e) h

    did_fits : (bd : Bound) (s : State) → Tidy lim b s → HeldIn A s → (r : Answer) → Did lim bd rs s r → HeldIn A r.state
    unfolding refuse done
    did_fits bd s g h _ (refusing n z) = h
    did_fits bd s g h _ (completing i ws e q) =
        let t = changed s s.next ws (s.complete ++ (i ∷ [])) s.bounded s.slots in
        let l : Listed t h.0 = let c = done_counts s i ws e h.0 in let k = h.1 in omega arith in
        (h.0, l, moved s t h.0 ((done_kept s i ws e lim b g).still h.0 l) h.2)
    did_fits bd s g h _ (failing i ws f e q t) = go (ℕ_discrete h.0 i)
      where
        go : Dec (h.0 ≡ i) → HeldIn A (without_base s i ws)
        go (yes p) = absurd (failed_none A rs keeps lim bd (sheet_at s i).model (visited rs s i) (visits_within (strategy_in s) (sheet_at s i).place rs) (subst (λ j. Held A (sheet_at s j).model) p h.2) f q t)
        go (no p) =
            let l : Listed (without_base s i ws) h.0 = let c = base_counts s i ws e h.0 in let o = hit_other h.0 i (λ r. p (sym r)) in let k = h.1 in omega arith in
            (h.0, l, moved s (without_base s i ws) h.0 ((base_kept s i ws e lim b g).still h.0 l) h.2)
    did_fits bd s g h _ (branching i ws f e q t u v) = go (ℕ_discrete h.0 i)
      where
        s₀ : State
        s₀ = without_base s i ws

        tidy₀ : Tidy lim b s₀
        tidy₀ = kept_tidy lim b s s₀ (base_kept s i ws e lim b g) g

        new : List Placed
        new = placed (free s₀) (place_after (strategy_in s) f.index (length rs)) s.next (kids_of lim bd s i f)

        are : New lim b s₀ new
        are = branch_new lim b kids bd s g i ws f e q t u v

        room : length (kids_of lim bd s i f) ≤ length (free s₀)
        room = le_trans u (free_more s i ws e g.once (g.there i (first_listed s i ws e)))

        go : Dec (h.0 ≡ i) → HeldIn A (with_placed s₀ new).state
        go (yes p) = placed_has lim b s₀ new tidy₀ are (λ (x : Sheet). Held A x.model)
            (placed_some (place_after (strategy_in s) f.index (length rs)) (Held A) (free s₀) s.next (kids_of lim bd s i f) room
            (fired_held A rs keeps lim bd (sheet_at s i).model (visited rs s i) (visits_within (strategy_in s) (sheet_at s i).place rs) (subst (λ j. Held A (sheet_at s j).model) p h.2) f q))
        go (no p) =
            let l : Listed s₀ h.0 = let c = base_counts s i ws e h.0 in let o = hit_other h.0 i (λ r. p (sym r)) in let k = h.1 in omega arith in
            let old = placed_old lim b s₀ new tidy₀ are h.0 l in
            (h.0, old.0, moved s₀ (with_placed s₀ new).state h.0 old.1 (moved s s₀ h.0 ((base_kept s i ws e lim b g).still h.0 l) h.2))

    pub step_fits : (bd : Bound) (s : State) → Tidy lim b s → HeldIn A s → HeldIn A (step lim bd rs s).state
    step_fits bd s g h = did_fits bd s g h _ (step_did lim bd rs s)

    pub run_fits : (n : ℕ) (bd : Bound) (s : State) → Tidy lim b s → HeldIn A s → HeldIn A (run lim n bd rs s).state
    unfolding run
    run_fits zero bd s g h = h
    run_fits (suc n) bd s g h =
        if_elim (λ (y : Ran). HeldIn A y.state) _ _ _ (λ _. run_fits n bd (step lim bd rs s).state (step_tidy lim b kids bd s g) (step_fits bd s g h)) (λ _. h)

    -- A take moves the sheet that it takes, and no other.
    pub take_fits : (l : ℕ) (s : State) (i : ℕ) (is : List ℕ) → Tidy lim b s → list_of l s ≡ i ∷ is → HeldIn A s → Held A (sheet_at s i).model ⊎ HeldIn A (taken l s i is)
    take_fits l s i is g e h = go (ℕ_discrete h.0 i)
      where
        go : Dec (h.0 ≡ i) → Held A (sheet_at s i).model ⊎ HeldIn A (taken l s i is)
        go (yes p) = inl (subst (λ j. Held A (sheet_at s j).model) p h.2)
        go (no p) =
            let k : Listed (taken l s i is) h.0 = let c = taken_counts lim b s i is l e h.0 in let o = hit_other h.0 i (λ r. p (sym r)) in let q = h.1 in omega arith in
            inr (h.0, k, moved s (taken l s i is) h.0 ((taken_kept lim b s i is g l e).still h.0 k) h.2)

  -- A take leaves the other complete sheets as they are, and what it takes from the complete ones keeps every rule.
  pub take_keeps : (l : ℕ) (s : State) (i : ℕ) (is : List ℕ) → Tidy lim b s → list_of l s ≡ i ∷ is → CompleteKeep rs s → CompleteKeep rs (taken l s i is)
  unfolding taken changed list_of
  take_keeps zero s i is g e a =
      let t = taken zero s i is in
      all_both (λ j. KeepsAll (sheet_at s j).model rs) (Listed t) (λ j. KeepsAll (sheet_at t j).model rs)
      (λ j k l. subst (λ (x : Sheet). KeepsAll x.model rs) (sym ((taken_kept lim b s i is g zero e).still j l)) k)
      is (subst (All (λ j. KeepsAll (sheet_at s j).model rs)) e a).1 (complete_listed t)
  take_keeps (suc n) s i is g e a = carried rs s (taken (suc n) s i is) refl (taken_kept lim b s i is g (suc n) e).still a
