-- What a step does to a tidy state, case by case, and that every step, run, take and opening leaves a tidy state.
-- That children are sound is a parameter here; the crate `soundness` shows it.
use Rattle.std.specs.Prelude.{◌≡◌, true, not, ◌&&◌, List, [], ◌∷◌, ◌++◌, map, length, get_or, replicate, leb, ltb}
use Rattle.std.proofs.Math.Path.{refl, ap, subst}
use Rattle.std.proofs.Common.{sym, ◌∙◌, le_trans, mod-lt, length-set, le→leb, lt→ltb, nltb→le}
use Prim.Native.Nat.{ℕ, zero, suc, ◌+◌, ◌≤◌, ◌<◌}
use native.Mathlib.Omega.{arith}
use Rattle.std.proofs.Math.Option.{none, some}
use Rattle.std.proofs.lemmas.List.{length-map, length-replicate}
use Rattle.std.proofs.Math.Dec.{T}
use Rattle.base.specs.Lists.{All, any, is_nil, from}
use Rattle.base.specs.BranchLaws.{if_elim, case_o_elim, case_l_elim, and_l, and_i, or_no}
use Rattle.base.specs.ListLaws.{all_any, all_both}
use Rattle.rules.specs.Book.{Sequent, Book, rules}
use Rattle.rules.specs.Sheet.{Model, Sheet, domain, empty, blank, Limits}
use Rattle.rules.specs.Fire.{Firing, firing, Strategy, linear, fair, visits, places, place_after}
use Rattle.rules.specs.Bound.{Bound}
use Rattle.rules.specs.Child.{Child, child}
use Rattle.rules.specs.Pool.{State, schedulers, strategies, strategy_of, numbers, sheet_at, used, free, opened, changed, freed}
use Rattle.rules.specs.Sound.{rising, sound_model, sound_sheet}
use Rattle.rules.specs.Step.{Placed, placed, Answer, refuse, done, with_placed, without_base, with_children, step_on, step, Ran, run, list_of, taken}
use Rattle.laws.specs.Firing.{Within, firing_is, visits_within}
use Rattle.pools.specs.Count.{hit, cnt, hit_elim, hit_self, hit_is, cnt_append}
use Rattle.pools.specs.Slots.{stored_length, Free, free_are, free_once, free_more, placed_length, placed_all, placed_slots, placed_cnt, placed_low, placed_differ}
use Rattle.pools.specs.Tidy.{Listed, places_of, Tidy}
use Rattle.pools.specs.Moves.{Kept, kept_tidy, removed, New, placed_tidy}

-- The strategy of a state, what its sheet in slot i visits, and what the children of a firing there are.
abbrev pub strategy_in : State → Strategy
strategy_in s = strategy_of s.strategy

abbrev pub visited : List Sequent → State → ℕ → List (ℕ × Sequent)
visited rs s i = visits (strategy_in s) (sheet_at s i).place rs

abbrev pub kids_of : Limits → Bound → State → ℕ → Firing → List Child
kids_of lim bd s i f = map (child lim bd (sheet_at s i).model f.choice) f.sequent.head

-- What a step does: it refuses and changes nothing; or the first waiting sheet is complete; or it fails; or it leaves children, none
-- over a limit, and each with a slot.
pub data Did (lim : Limits) (bd : Bound) (rs : List Sequent) (s : State) : Answer → Type 0 where
  refusing : (n : ℕ) → (n ≡ 0 → ⊥) → Did lim bd rs s (refuse n s)
  completing : (i : ℕ) (ws : List ℕ) → s.waiting ≡ i ∷ ws → firing (sheet_at s i).model (visited rs s i) ≡ none
      → Did lim bd rs s (done (changed s s.next ws (s.complete ++ (i ∷ [])) s.bounded s.slots))
  failing : (i : ℕ) (ws : List ℕ) (f : Firing) → s.waiting ≡ i ∷ ws → firing (sheet_at s i).model (visited rs s i) ≡ some f
      → T (is_nil f.sequent.head) → Did lim bd rs s (done (without_base s i ws))
  branching : (i : ℕ) (ws : List ℕ) (f : Firing) → s.waiting ≡ i ∷ ws → firing (sheet_at s i).model (visited rs s i) ≡ some f
      → T (not (any (λ (k : Child). k.over) (kids_of lim bd s i f))) → length (kids_of lim bd s i f) ≤ suc (length (free s))
      → s.next + length (kids_of lim bd s i f) ≤ numbers
      → Did lim bd rs s (with_placed (without_base s i ws) (placed (free (without_base s i ws)) (place_after (strategy_in s) f.index (length rs)) s.next (kids_of lim bd s i f)))

children_did : (lim : Limits) (bd : Bound) (rs : List Sequent) (s : State) (i : ℕ) (ws : List ℕ) (f : Firing) → s.waiting ≡ i ∷ ws
    → firing (sheet_at s i).model (visited rs s i) ≡ some f → Did lim bd rs s (with_children s i ws (place_after (strategy_in s) f.index (length rs)) (kids_of lim bd s i f))
unfolding with_children
children_did lim bd rs s i ws f e q =
    if_elim (Did lim bd rs s) _ _ _ (λ _. refusing 15 (λ z. omega arith)) (λ t.
    if_elim (Did lim bd rs s) _ _ _ (λ _. refusing 16 (λ z. omega arith)) (λ u.
    if_elim (Did lim bd rs s) _ _ _ (λ _. refusing 17 (λ z. omega arith)) (λ v.
    branching i ws f e q t (nltb→le _ _ u) (nltb→le _ _ v))))

pub step_did : (lim : Limits) (bd : Bound) (rs : List Sequent) (s : State) → Did lim bd rs s (step lim bd rs s)
unfolding step step_on
step_did lim bd rs s =
    case_l_elim (Did lim bd rs s) _ _ _ (λ _. refusing 14 (λ z. omega arith)) (λ i ws e.
    case_o_elim (Did lim bd rs s) _ _ _ (λ q. completing i ws e q) (λ f q.
    if_elim (Did lim bd rs s) _ _ _ (λ t. failing i ws f e q t) (λ _. children_did lim bd rs s i ws f e q)))

-- ---- counting the lists of a state whose first waiting slot is i

module _ (s : State) (i : ℕ) (ws : List ℕ) (e : s.waiting ≡ i ∷ ws) where
  abbrev rest : List ℕ
  rest = ws ++ (s.complete ++ s.bounded)

  pub first_counts : (j : ℕ) → cnt j (used s) ≡ hit j i + cnt j rest
  unfolding used cnt
  first_counts j = subst (λ w. cnt j (w ++ (s.complete ++ s.bounded)) ≡ hit j i + cnt j rest) (sym e) refl

  pub first_listed : Listed s i
  first_listed = let c = first_counts i in let h = hit_self i in omega arith

  pub base_counts : (j : ℕ) → cnt j (used s) ≡ hit j i + cnt j (used (without_base s i ws))
  unfolding used without_base changed
  base_counts j = first_counts j

  pub base_kept : (lim : Limits) (b : Book) → Tidy lim b s → Kept s (without_base s i ws)
  unfolding without_base changed
  base_kept lim b g = removed lim b i s (without_base s i ws) g (g.there i first_listed) refl refl refl refl base_counts

  -- A sheet that is complete changes its list only.
  pub done_counts : (j : ℕ) → cnt j (used (changed s s.next ws (s.complete ++ (i ∷ [])) s.bounded s.slots)) ≡ cnt j (used s)
  unfolding changed used cnt
  done_counts j =
      let a = first_counts j in
      let p = cnt_append j ws (s.complete ++ s.bounded) in
      let q = cnt_append j s.complete s.bounded in
      let r = cnt_append j ws ((s.complete ++ (i ∷ [])) ++ s.bounded) in
      let u = cnt_append j (s.complete ++ (i ∷ [])) s.bounded in
      let v = cnt_append j s.complete (i ∷ []) in
      omega arith

  pub done_kept : (lim : Limits) (b : Book) → Tidy lim b s → Kept s (changed s s.next ws (s.complete ++ (i ∷ [])) s.bounded s.slots)
  unfolding changed sheet_at
  done_kept lim b g = record {
    scheduler = refl;
    strategy = refl;
    next = refl;
    size = refl;
    fewer = λ j. (let c = done_counts j in omega arith);
    still = λ j l. refl;
    blanks = λ j z. g.blanks j (let c = done_counts j in omega arith);
  }

-- ---- places

pub place_right : (st : Strategy) (i n : ℕ) → 0 < n → place_after st i n < places st n
unfolding place_after places
place_right linear i n l = omega arith
place_right fair i n l = let m = mod-lt (suc i) l in omega arith

inhabited : (rs : List Sequent) → All (λ (_ : Sequent). 0 < length rs) rs
inhabited [] = tt
inhabited (r ∷ rs) = (omega arith, all_any (λ (_ : Sequent). 0 < suc (length rs)) (λ _. omega arith) rs)

-- Where something fires there is a sequent.
fired_some : (m : Model) (rs : List Sequent) (st : Strategy) (p : ℕ) (f : Firing) → firing m (visits st p rs) ≡ some f → 0 < length rs
fired_some m rs st p f e =
    (firing_is (λ _. Unit) (λ _. 0 < length rs) m (all_any (λ _. Unit) (λ _. tt) (domain m)) (visits st p rs) (visits_within st p rs (λ _. 0 < length rs) (inhabited rs)) f e).visited

-- Where none of the children is over a limit, each is within.
pub none_over : (ks : List Child) → T (not (any (λ (k : Child). k.over) ks)) → All (λ (k : Child). T (not k.over)) ks
none_over [] t = tt
none_over (k ∷ ks) t = let u = or_no k.over (any (λ (j : Child). j.over) ks) t in (u.0, none_over ks u.1)

-- ---- every call leaves a tidy state

-- The children of a sound model that are within the limits are sound.
abbrev pub KidsSound : Limits → Book → Type 1
KidsSound lim b = (bd : Bound) (m : Model) (vs : List (ℕ × Sequent)) (f : Firing) → T (sound_model lim b.names m) → Within (rules b) vs → firing m vs ≡ some f
    → All (λ (k : Child). T (not k.over) → T (sound_model lim b.names k.model)) (map (child lim bd m f.choice) f.sequent.head)

pub same_length : (b : Book) → length (rules b) ≡ length b.sequents
unfolding rules
same_length b = length-map b.sequents _

-- Children in free slots are new sheets.
pub new_ones_lem : (lim : Limits) (b : Book) (s : State) (place : ℕ) (ks : List Child) → place < places_of b s → length ks ≤ length (free s) → s.next + length ks ≤ numbers
    → All (λ (k : Child). T (sound_model lim b.names k.model)) ks → New lim b s (placed (free s) place s.next ks)
unfolding sound_sheet
new_ones_lem lim b s place ks there fits left good = record {
  once = λ j. le_trans (placed_cnt place j (free s) s.next ks) (free_once s j);
  free = placed_slots place (Free s) (free s) s.next ks (free_are s);
  numbered = placed_low place (free s) s.next ks;
  differ = placed_differ place (free s) s.next ks;
  room = subst (λ k. s.next + k ≤ numbers) (sym (placed_length place (free s) s.next ks fits)) left;
  sound = placed_all place (λ (k : Child). T (sound_model lim b.names k.model)) (λ (x : Placed). T (sound_sheet lim b.names (places_of b s) x.sheet))
      (λ _ _ k z. and_i (sound_model lim b.names k.model) _ z (lt→ltb place (places_of b s) there)) (free s) s.next ks good;
}

module _ (lim : Limits) (b : Book) (kids : KidsSound lim b) where
  abbrev new_ones : Bound → State → ℕ → List ℕ → Firing → List Placed
  new_ones bd s i ws f = placed (free (without_base s i ws)) (place_after (strategy_in s) f.index (length (rules b))) s.next (kids_of lim bd s i f)

  -- The children of a branching step are new sheets in free slots.
  pub branch_new : (bd : Bound) (s : State) → Tidy lim b s → (i : ℕ) (ws : List ℕ) (f : Firing) → s.waiting ≡ i ∷ ws → firing (sheet_at s i).model (visited (rules b) s i) ≡ some f
      → T (not (any (λ (k : Child). k.over) (kids_of lim bd s i f))) → length (kids_of lim bd s i f) ≤ suc (length (free s)) → s.next + length (kids_of lim bd s i f) ≤ numbers
      → New lim b (without_base s i ws) (new_ones bd s i ws f)
  unfolding without_base changed sound_sheet
  branch_new bd s g i ws f e q t u v =
      let ks = kids_of lim bd s i f in
      let p = place_after (strategy_in s) f.index (length (rules b)) in
      new_ones_lem lim b (without_base s i ws) p ks
      (subst (λ k. p < places (strategy_in s) k) (same_length b) (place_right (strategy_in s) f.index (length (rules b)) (fired_some (sheet_at s i).model (rules b) (strategy_in s) (sheet_at s i).place f q)))
      (le_trans u (free_more s i ws e g.once (g.there i (first_listed s i ws e)))) v
      (all_both (λ (k : Child). T (not k.over)) (λ (k : Child). T (not k.over) → T (sound_model lim b.names k.model)) (λ (k : Child). T (sound_model lim b.names k.model))
      (λ k a h. h a) ks (none_over ks t)
      (kids bd (sheet_at s i).model (visited (rules b) s i) f (base_sound s g i (first_listed s i ws e)) (visits_within (strategy_in s) (sheet_at s i).place (rules b)) q))
    where
      base_sound : (s : State) → Tidy lim b s → (i : ℕ) → Listed s i → T (sound_model lim b.names (sheet_at s i).model)
      base_sound s g i l = and_l (sound_model lim b.names (sheet_at s i).model) _ (g.sheets i l)

  did_tidy : (bd : Bound) (s : State) → Tidy lim b s → (r : Answer) → Did lim bd (rules b) s r → Tidy lim b r.state
  unfolding refuse done
  did_tidy bd s g _ (refusing n z) = g
  did_tidy bd s g _ (completing i ws e q) = kept_tidy lim b s _ (done_kept s i ws e lim b g) g
  did_tidy bd s g _ (failing i ws f e q t) = kept_tidy lim b s _ (base_kept s i ws e lim b g) g
  did_tidy bd s g _ (branching i ws f e q t u v) =
      placed_tidy lim b (without_base s i ws) _ (kept_tidy lim b s _ (base_kept s i ws e lim b g) g) (branch_new bd s g i ws f e q t u v)

  pub step_tidy : (bd : Bound) (s : State) → Tidy lim b s → Tidy lim b (step lim bd (rules b) s).state
  step_tidy bd s g = did_tidy bd s g _ (step_did lim bd (rules b) s)

  pub run_tidy : (n : ℕ) (bd : Bound) (s : State) → Tidy lim b s → Tidy lim b (run lim n bd (rules b) s).state
  unfolding run
  run_tidy zero bd s g = g
  run_tidy (suc n) bd s g =
      if_elim (λ (y : Ran). Tidy lim b y.state) _ _ _ (λ _. run_tidy n bd (step lim bd (rules b) s).state (step_tidy bd s g)) (λ _. g)

-- ---- the number of slots stays

pub base_size : (s : State) (i : ℕ) (ws : List ℕ) → length (without_base s i ws).slots ≡ length s.slots
unfolding without_base changed freed
base_size s i ws = length-set s.slots i blank

did_size : (lim : Limits) (bd : Bound) (rs : List Sequent) (s : State) (r : Answer) → Did lim bd rs s r → length r.state.slots ≡ length s.slots
unfolding refuse done changed with_placed
did_size lim bd rs s _ (refusing n z) = refl
did_size lim bd rs s _ (completing i ws e q) = refl
did_size lim bd rs s _ (failing i ws f e q t) = base_size s i ws
did_size lim bd rs s _ (branching i ws f e q t u v) = stored_length _ (without_base s i ws).slots ∙ base_size s i ws

pub step_size : (lim : Limits) (bd : Bound) (rs : List Sequent) (s : State) → length (step lim bd rs s).state.slots ≡ length s.slots
step_size lim bd rs s = did_size lim bd rs s _ (step_did lim bd rs s)

pub run_size : (lim : Limits) (n : ℕ) (bd : Bound) (rs : List Sequent) (s : State) → length (run lim n bd rs s).state.slots ≡ length s.slots
unfolding run
run_size lim zero bd rs s = refl
run_size lim (suc n) bd rs s =
    if_elim (λ (y : Ran). length y.state.slots ≡ length s.slots) _ _ _ (λ _. run_size lim n bd rs (step lim bd rs s).state ∙ step_size lim bd rs s) (λ _. refl)

pub taken_size : (l : ℕ) (s : State) (i : ℕ) (is : List ℕ) → length (taken l s i is).slots ≡ length s.slots
unfolding taken changed freed
taken_size zero s i is = length-set s.slots i blank
taken_size (suc n) s i is = length-set s.slots i blank

pub opened_size : (sc st n : ℕ) → length (opened sc st n).slots ≡ n
unfolding opened
opened_size sc st n = length-replicate n blank

-- ---- take

module _ (lim : Limits) (b : Book) (s : State) (i : ℕ) (is : List ℕ) where
  pub taken_counts : (l : ℕ) → list_of l s ≡ i ∷ is → (j : ℕ) → cnt j (used s) ≡ hit j i + cnt j (used (taken l s i is))
  unfolding taken list_of changed used cnt
  taken_counts zero e j =
      let a = subst (λ c. cnt j (s.waiting ++ (c ++ s.bounded)) ≡ cnt j s.waiting + (hit j i + cnt j (is ++ s.bounded))) (sym e) (cnt_append j s.waiting (i ∷ is ++ s.bounded)) in
      let c = cnt_append j s.waiting (is ++ s.bounded) in
      omega arith
  taken_counts (suc n) e j =
      let a = subst (λ c. cnt j (s.waiting ++ (s.complete ++ c)) ≡ cnt j s.waiting + (cnt j s.complete + (hit j i + cnt j is))) (sym e)
      (cnt_append j s.waiting (s.complete ++ (i ∷ is)) ∙ ap (λ k. cnt j s.waiting + k) (cnt_append j s.complete (i ∷ is))) in
      let c = cnt_append j s.waiting (s.complete ++ is) in
      let d = cnt_append j s.complete is in
      omega arith

  taken_there : Tidy lim b s → (l : ℕ) → list_of l s ≡ i ∷ is → i < length s.slots
  taken_there g l e = g.there i (let c = taken_counts l e i in let h = hit_self i in omega arith)

  pub taken_kept : Tidy lim b s → (l : ℕ) → list_of l s ≡ i ∷ is → Kept s (taken l s i is)
  unfolding taken changed
  taken_kept g zero e = removed lim b i s (taken zero s i is) g (taken_there g zero e) refl refl refl refl (taken_counts zero e)
  taken_kept g (suc n) e = removed lim b i s (taken (suc n) s i is) g (taken_there g (suc n) e) refl refl refl refl (taken_counts (suc n) e)

  pub taken_tidy : Tidy lim b s → (l : ℕ) → list_of l s ≡ i ∷ is → Tidy lim b (taken l s i is)
  taken_tidy g l e = kept_tidy lim b s (taken l s i is) (taken_kept g l e) g

-- ---- open

replicate_blank : (n j : ℕ) → get_or (replicate n blank) j blank ≡ blank
replicate_blank zero j = refl
replicate_blank (suc n) zero = refl
replicate_blank (suc n) (suc j) = replicate_blank n j

pub opened_blank : (sc st n j : ℕ) → sheet_at (opened sc st n) j ≡ blank
unfolding opened sheet_at
opened_blank sc st n j = replicate_blank n j

blank_sound : (lim : Limits) (b : Book) (n : ℕ) → 0 < n → T (sound_sheet lim b.names n blank)
unfolding sound_sheet sound_model blank empty rising from
blank_sound lim b n l =
    let fits : T (leb 0 lim.elements && (leb 0 lim.keys && leb 0 lim.facts)) =
    and_i (leb 0 lim.elements) _ (le→leb 0 lim.elements (omega arith)) (and_i (leb 0 lim.keys) _ (le→leb 0 lim.keys (omega arith)) (le→leb 0 lim.facts (omega arith))) in
    and_i (sound_model lim b.names empty) (ltb 0 n) (and_i (leb 0 lim.elements && (leb 0 lim.keys && leb 0 lim.facts)) true fits tt) (lt→ltb 0 n l)

places_some : (st : Strategy) (n : ℕ) → 0 < places st n
unfolding places
places_some linear n = omega arith
places_some fair n = omega arith

pub opened_tidy : (lim : Limits) (b : Book) (sc st n : ℕ) → sc < schedulers → st < strategies → 1 ≤ n → Tidy lim b (opened sc st n)
unfolding opened used cnt sheet_at numbers blank
opened_tidy lim b sc st n p q l = record {
  scheduler = p;
  strategy = q;
  next = one_number;
  once = λ j. (let h = hit_le j 0 in omega arith);
  there = λ j m. subst (λ k. j < k) (sym (length-replicate n blank)) (let e = hit_is j 0 (omega arith) in omega arith);
  blanks = λ j _. replicate_blank n j;
  differ = λ j k a c _. sym (hit_is j 0 (omega arith)) ∙ hit_is k 0 (omega arith);
  low = λ j m. subst (λ (x : Sheet). x.number < 1) (sym (replicate_blank n j)) zero_low;
  sheets = λ j m. subst (λ x. T (sound_sheet lim b.names (places_of b (opened sc st n)) x)) (sym (replicate_blank n j)) (blank_sound lim b (places_of b (opened sc st n)) (places_some (strategy_of st) (length b.sequents)));
}
  where
    hit_le : (j x : ℕ) → hit j x ≤ 1
    hit_le j x = hit_elim (λ k. k ≤ 1) j x (λ _. omega arith) (λ _. omega arith)

    one_number : 1 ≤ numbers
    one_number = omega arith

    zero_low : blank.number < 1
    zero_low = omega arith
