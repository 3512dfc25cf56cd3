-- A tidy state stays tidy when a slot changes its list, when one is given up, and when new sheets go into free slots.
use Rattle.std.specs.Prelude.{◌≡◌, ℕ, ◌+◌, ◌≤◌, ◌<◌, List, ◌++◌, length, get_or, T}
use Rattle.std.proofs.Math.Path.{refl}
use Rattle.std.proofs.Common.{sym, ap, ◌∙◌, subst, le_trans, length-set, get_or-set_same, get_or-set_other}
use Rattle.std.proofs.Math.Decide.{dec_le, ℕ_discrete}
use native.Mathlib.Omega.{arith}
use Rattle.base.specs.Lists.{All, Some}
use Rattle.base.specs.ListLaws.{all_all, all_both, all_map, all_unmap, some_all, some_elim}
use Rattle.rules.specs.Book.{Book}
use Rattle.rules.specs.Sheet.{Sheet, blank, Limits}
use Rattle.rules.specs.Fire.{places}
use Rattle.rules.specs.Pool.{State, schedulers, strategies, strategy_of, numbers, sheet_at, used, changed, freed, scheduler_of}
use Rattle.rules.specs.Sound.{sound_sheet}
use Rattle.rules.specs.Step.{Placed, open_slots, cut_slots, schedule, with_placed, done}
use Rattle.pools.specs.Count.{hit, cnt, hit_self, hit_other, cnt_append, cnt_schedule, cnt_all, all_cnt}
use Rattle.pools.specs.Slots.{slots_of, stored_length, stored_other, stored_new, open_and_cut}
use Rattle.pools.specs.Tidy.{Listed, places_of, Tidy}

-- ---- slots that stay, and one that is given up

-- Settings, next number and number of slots are the same; what is still listed was listed, and its sheet is the same; what is not
-- listed is all zero.
pub record Kept (s t : State) : Type 0 where
  pub scheduler : t.scheduler ≡ s.scheduler
  pub strategy : t.strategy ≡ s.strategy
  pub next : t.next ≡ s.next
  pub size : length t.slots ≡ length s.slots
  pub fewer : (j : ℕ) → cnt j (used t) ≤ cnt j (used s)
  pub still : (j : ℕ) → Listed t j → sheet_at t j ≡ sheet_at s j
  pub blanks : (j : ℕ) → cnt j (used t) ≡ 0 → sheet_at t j ≡ blank

pub kept_tidy : (lim : Limits) (b : Book) (s t : State) → Kept s t → Tidy lim b s → Tidy lim b t
kept_tidy lim b s t q g = record {
  scheduler = subst (λ n. n < schedulers) (sym q.scheduler) g.scheduler;
  strategy = subst (λ n. n < strategies) (sym q.strategy) g.strategy;
  next = subst (λ n. n ≤ numbers) (sym q.next) g.next;
  once = λ j. le_trans (q.fewer j) (g.once j);
  there = λ j l. subst (λ n. j < n) (sym q.size) (g.there j (was j l));
  blanks = q.blanks;
  differ = λ j k a c e. g.differ j k (was j a) (was k c) (ap (λ (x : Sheet). x.number) (sym (q.still j a)) ∙ e ∙ ap (λ (x : Sheet). x.number) (q.still k c));
  low = λ j l. subst (λ n. (sheet_at t j).number < n) (sym q.next) (subst (λ (x : Sheet). x.number < s.next) (sym (q.still j l)) (g.low j (was j l)));
  sheets = λ j l. subst (λ n. T (sound_sheet lim b.names n (sheet_at t j))) (sym (ap (λ n. places (strategy_of n) (length b.sequents)) q.strategy))
      (subst (λ x. T (sound_sheet lim b.names (places_of b s) x)) (sym (q.still j l)) (g.sheets j (was j l)));
}
  where
    was : (j : ℕ) → Listed t j → Listed s j
    was j l = le_trans l (q.fewer j)

-- Slot i is freed and listed no more; the others stay as they are.
pub removed : (lim : Limits) (b : Book) (i : ℕ) (s t : State) → Tidy lim b s → i < length s.slots
    → t.scheduler ≡ s.scheduler → t.strategy ≡ s.strategy → t.next ≡ s.next → t.slots ≡ freed i s.slots
    → ((j : ℕ) → cnt j (used s) ≡ hit j i + cnt j (used t)) → Kept s t
unfolding sheet_at freed
removed lim b i s t g li sc st n e c = record {
  scheduler = sc;
  strategy = st;
  next = n;
  size = ap length e ∙ length-set s.slots i blank;
  fewer = λ j. (let d = c j in omega arith);
  still = λ j l. other j (λ p. let h = subst (λ z. hit j z ≡ 1) p (hit_self j) in let d = c j in let o = g.once j in omega arith);
  blanks = λ j z. elim (ℕ_discrete j i) [
    | yes p ↦ subst (λ k. sheet_at t k ≡ blank) (sym p) (ap (λ xs. get_or xs i blank) e ∙ get_or-set_same s.slots i blank blank li)
    | no p ↦ other j p ∙ g.blanks j (let d = c j in let h = hit_other j i (λ r. p (sym r)) in omega arith)
  ];
}
  where
    other : (j : ℕ) → (j ≡ i → ⊥) → sheet_at t j ≡ sheet_at s j
    other j d = ap (λ xs. get_or xs j blank) e ∙ get_or-set_other s.slots i j blank blank d

-- ---- new sheets in free slots

-- Each is in a slot of its own that was free; the numbers are the next ones, and no two slots have one.
pub record New (lim : Limits) (b : Book) (s : State) (new : List Placed) : Type 0 where
  pub once : (j : ℕ) → cnt j (slots_of new) ≤ 1
  pub free : All (λ (x : Placed). (cnt x.slot (used s) ≡ 0) × (x.slot < length s.slots)) new
  pub numbered : All (λ (x : Placed). (s.next ≤ x.sheet.number) × (x.sheet.number < s.next + length new)) new
  pub differ : All (λ (x : Placed). All (λ (y : Placed). x.sheet.number ≡ y.sheet.number → x.slot ≡ y.slot) new) new
  pub room : s.next + length new ≤ numbers
  pub sound : All (λ (x : Placed). T (sound_sheet lim b.names (places_of b s) x.sheet)) new

module _ (s : State) (new : List Placed) where
  abbrev pub after : State
  after = (with_placed s new).state

  pub placed_counts : (j : ℕ) → cnt j (used after) ≡ cnt j (used s) + cnt j (slots_of new)
  unfolding with_placed done changed used
  placed_counts j =
      let w = schedule (scheduler_of s.scheduler) (open_slots new) s.waiting in
      let a = cnt_append j w (s.complete ++ (s.bounded ++ cut_slots new)) in
      let c = cnt_append j s.complete (s.bounded ++ cut_slots new) in
      let d = cnt_append j s.bounded (cut_slots new) in
      let e = cnt_schedule j (scheduler_of s.scheduler) (open_slots new) s.waiting in
      let f = open_and_cut j new in
      let g = cnt_append j s.waiting (s.complete ++ s.bounded) in
      let h = cnt_append j s.complete s.bounded in
      omega arith

  pub placed_other : (j : ℕ) → cnt j (slots_of new) ≡ 0 → sheet_at after j ≡ sheet_at s j
  unfolding with_placed done changed sheet_at
  placed_other j e = stored_other new s.slots j e

  pub placed_new : ((j : ℕ) → cnt j (slots_of new) ≤ 1) → All (λ (x : Placed). x.slot < length s.slots) new → All (λ (x : Placed). sheet_at after x.slot ≡ x.sheet) new
  unfolding with_placed done changed sheet_at
  placed_new o a = stored_new new s.slots o a

-- A listed slot was listed, or holds one of the new sheets.
module _ (lim : Limits) (b : Book) (s : State) (new : List Placed) (g : Tidy lim b s) (n : New lim b s new) where
  abbrev t : State
  t = after s new

  -- A slot of a new sheet was not listed.
  apart : (j : ℕ) → 1 ≤ cnt j (slots_of new) → cnt j (used s) ≡ 0
  apart j = all_cnt (λ i. cnt i (used s) ≡ 0) (slots_of new) (all_map (λ (x : Placed). (cnt x.slot (used s) ≡ 0) × (x.slot < length s.slots)) (λ i. cnt i (used s) ≡ 0) (λ (x : Placed). x.slot) (λ x q. q.0) new n.free) j

  here : All (λ (x : Placed). sheet_at t x.slot ≡ x.sheet) new
  here = placed_new s new n.once (all_all (λ (x : Placed). (cnt x.slot (used s) ≡ 0) × (x.slot < length s.slots)) (λ (x : Placed). x.slot < length s.slots) (λ x q. q.1) new n.free)

  -- What is true of every old listed slot's sheet and of every new one is true of every listed slot's.
  each : (P : ℕ → Sheet → Type 0) → ((j : ℕ) → Listed s j → P j (sheet_at s j)) → All (λ (x : Placed). P x.slot x.sheet) new → (j : ℕ) → Listed t j → P j (sheet_at t j)
  each P old a j l = go (dec_le 1 (cnt j (slots_of new)))
    where
      go : Dec (1 ≤ cnt j (slots_of new)) → P j (sheet_at t j)
      go (yes m) = all_cnt (λ i. P i (sheet_at t i)) (slots_of new)
          (all_map (λ (x : Placed). P x.slot (sheet_at t x.slot)) (λ i. P i (sheet_at t i)) (λ (x : Placed). x.slot) (λ x p. p) new
          (all_both (λ (x : Placed). sheet_at t x.slot ≡ x.sheet) (λ (x : Placed). P x.slot x.sheet) (λ (x : Placed). P x.slot (sheet_at t x.slot)) (λ x e p. subst (P x.slot) (sym e) p) new here a)) j m
      go (no m) = let c = placed_counts s new j in subst (P j) (sym (placed_other s new j (omega arith))) (old j (omega arith))

  -- A listed slot stays listed, and its sheet stays.
  pub placed_old : (j : ℕ) → Listed s j → Listed t j × (sheet_at t j ≡ sheet_at s j)
  placed_old j l = go (dec_le 1 (cnt j (slots_of new)))
    where
      go : Dec (1 ≤ cnt j (slots_of new)) → Listed t j × (sheet_at t j ≡ sheet_at s j)
      go (yes m) = let z = apart j m in absurd (omega arith)
      go (no m) = let c = placed_counts s new j in (omega arith, placed_other s new j (omega arith))

  -- What some new sheet has, some listed slot has.
  pub placed_has : (P : Sheet → Type 0) → Some (λ (x : Placed). P x.sheet) new → (j : ℕ) × Listed t j × P (sheet_at t j)
  placed_has P q = some_elim (λ (x : Placed). (P x.sheet × (sheet_at t x.slot ≡ x.sheet)) × (1 ≤ cnt x.slot (slots_of new))) ((j : ℕ) × Listed t j × P (sheet_at t j))
      (λ x u. (x.slot, (let c = placed_counts s new x.slot in let m = u.1 in omega arith), subst P (sym u.0.1) u.0.0)) new
      (some_all (λ (x : Placed). P x.sheet × (sheet_at t x.slot ≡ x.sheet)) (λ (x : Placed). 1 ≤ cnt x.slot (slots_of new)) new
      (some_all (λ (x : Placed). P x.sheet) (λ (x : Placed). sheet_at t x.slot ≡ x.sheet) new q here)
      (all_unmap (λ j. 1 ≤ cnt j (slots_of new)) (λ (x : Placed). x.slot) new (cnt_all (λ j. 1 ≤ cnt j (slots_of new)) (slots_of new) (λ j m. m))))

  size : length t.slots ≡ length s.slots
  unfolding with_placed done changed
  size = stored_length new s.slots

  next_is : t.next ≡ s.next + length new
  unfolding with_placed done changed
  next_is = refl

  settings : (t.scheduler ≡ s.scheduler) × (t.strategy ≡ s.strategy)
  unfolding with_placed done changed
  settings = (refl, refl)

  pub placed_tidy : Tidy lim b t
  placed_tidy = record {
    scheduler = subst (λ k. k < schedulers) (sym settings.0) g.scheduler;
    strategy = subst (λ k. k < strategies) (sym settings.1) g.strategy;
    next = subst (λ k. k ≤ numbers) (sym next_is) n.room;
    once = λ j. (let c = placed_counts s new j in let o = g.once j in let p = n.once j in elim (dec_le 1 (cnt j (slots_of new)))
        [ yes m ↦ (let f = apart j m in omega arith) | no m ↦ omega arith ]);
    there = λ j l. subst (λ k. j < k) (sym size) (each (λ i _. i < length s.slots) g.there (all_all (λ (x : Placed). (cnt x.slot (used s) ≡ 0) × (x.slot < length s.slots)) (λ (x : Placed). x.slot < length s.slots) (λ x q. q.1) new n.free) j l);
    blanks = λ j e. (let c = placed_counts s new j in placed_other s new j (omega arith) ∙ g.blanks j (omega arith));
    differ = λ j k lj lk. each (λ i x. x.number ≡ (sheet_at t k).number → i ≡ k)
        (λ i li. each (λ m y. (sheet_at s i).number ≡ y.number → i ≡ m) (λ m lm. g.differ i m li lm) (old_new i li) k lk)
        (all_all (λ (x : Placed). (s.next ≤ x.sheet.number) × All (λ (y : Placed). x.sheet.number ≡ y.sheet.number → x.slot ≡ y.slot) new) (λ (x : Placed). x.sheet.number ≡ (sheet_at t k).number → x.slot ≡ k)
        (λ x q. each (λ m y. x.sheet.number ≡ y.number → x.slot ≡ m) (λ m lm e. let z = g.low m lm in let w = q.0 in absurd (omega arith)) q.1 k lk) new
        (all_both (λ (x : Placed). (s.next ≤ x.sheet.number) × (x.sheet.number < s.next + length new)) (λ (x : Placed). All (λ (y : Placed). x.sheet.number ≡ y.sheet.number → x.slot ≡ y.slot) new) _ (λ x u v. (u.0, v)) new n.numbered n.differ)) j lj;
    low = λ j l. subst (λ k. (sheet_at t j).number < k) (sym next_is) (each (λ _ x. x.number < s.next + length new) (λ i li. let z = g.low i li in omega arith)
        (all_all (λ (x : Placed). (s.next ≤ x.sheet.number) × (x.sheet.number < s.next + length new)) (λ (x : Placed). x.sheet.number < s.next + length new) (λ x q. q.1) new n.numbered) j l);
    sheets = λ j l. subst (λ k. T (sound_sheet lim b.names k (sheet_at t j))) (sym (ap (λ k. places (strategy_of k) (length b.sequents)) settings.1))
        (each (λ _ x. T (sound_sheet lim b.names (places_of b s) x)) g.sheets n.sound j l);
  }
    where
      old_new : (i : ℕ) → Listed s i → All (λ (y : Placed). (sheet_at s i).number ≡ y.sheet.number → i ≡ y.slot) new
      old_new i li = all_all (λ (y : Placed). (s.next ≤ y.sheet.number) × (y.sheet.number < s.next + length new)) (λ (y : Placed). (sheet_at s i).number ≡ y.sheet.number → i ≡ y.slot)
          (λ y q e. let z = g.low i li in let w = q.0 in absurd (omega arith)) new n.numbered
