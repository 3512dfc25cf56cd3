-- A state that is sound for a book, as statements about each listed slot; the test `sound_state` says just that.
use Rattle.std.specs.Prelude.{◌≡◌, refl, ℕ, suc, ◌+◌, ◌≤◌, ◌<◌, Bool, not, ◌&&◌, ◌||◌, ◌⊎◌, List, [], ◌∷◌, map, length, leb, eqb}
use Rattle.std.proofs.Common.{sym, ap, ◌∙◌, subst, arith, inl, inr, T_not, eqb→eq, le→leb}
use Rattle.std.proofs.Math.Decide.{dec_le}
use Rattle.std.proofs.Math.ListN.{get_or-eq_default}
use Rattle.std.proofs.Math.Dec.{T, not_T, ltb, leb→le, ltb→lt, lt→ltb}
use Rattle.base.specs.Lists.{All, Some, all, mem, distinct, from, is_nil}
use Rattle.base.specs.BranchLaws.{and_l, and_r, and_i, or_is, or_l, or_r, decided}
use Rattle.base.specs.ListLaws.{In, mem_in, in_mem, all_of, of_all, all_map, all_unmap, some_some, some_elim, map_map}
use Rattle.rules.specs.Book.{Book}
use Rattle.rules.specs.Sheet.{Sheet, empty, blank, Limits}
use Rattle.rules.specs.Fire.{places}
use Rattle.rules.specs.Pool.{State, schedulers, strategies, strategy_of, numbers, sheet_at, sheets_at, used}
use Rattle.rules.specs.Sound.{sound_sheet, is_blank, sound_lists, sound_numbers, sound_state}
use Rattle.pools.specs.Count.{cnt, hit_elim, hit_self, mem_cnt, not_mem_cnt, all_cnt, cnt_all, distinct_cnt, cnt_distinct, all_from, from_all}

-- Some list names the slot.
abbrev pub Listed : State → ℕ → Type 0
Listed s j = 1 ≤ cnt j (used s)

-- How many places the strategy of a state has over a book.
abbrev pub places_of : Book → State → ℕ
places_of b s = places (strategy_of s.strategy) (length b.sequents)

pub record Tidy (lim : Limits) (b : Book) (s : State) : Type 0 where
  pub scheduler : s.scheduler < schedulers
  pub strategy : s.strategy < strategies
  pub next : s.next ≤ numbers
  pub once : (j : ℕ) → cnt j (used s) ≤ 1
  pub there : (j : ℕ) → Listed s j → j < length s.slots
  pub blanks : (j : ℕ) → cnt j (used s) ≡ 0 → sheet_at s j ≡ blank
  pub differ : (j k : ℕ) → Listed s j → Listed s k → (sheet_at s j).number ≡ (sheet_at s k).number → j ≡ k
  pub low : (j : ℕ) → Listed s j → (sheet_at s j).number < s.next
  pub sheets : (j : ℕ) → Listed s j → T (sound_sheet lim b.names (places_of b s) (sheet_at s j))

-- ---- small tests

is_nil_is {ℓ} : {A : Type ℓ} (xs : List A) → T (is_nil xs) → xs ≡ []
is_nil_is [] t = refl
is_nil_is (x ∷ xs) t = absurd t

blank_is : (x : Sheet) → T (is_blank x) → x ≡ blank
unfolding is_blank blank empty
blank_is x t =
    let u = and_l (eqb x.number 0 && eqb x.place 0) _ t in
    let v = and_r (eqb x.number 0 && eqb x.place 0) _ t in
    let v₁ = and_r (eqb x.model.created 0) _ v in
    let v₂ = and_r (is_nil x.model.keys) _ v₁ in
    let n = eqb→eq x.number 0 (and_l (eqb x.number 0) _ u) in
    let p = eqb→eq x.place 0 (and_r (eqb x.number 0) _ u) in
    let c = eqb→eq x.model.created 0 (and_l (eqb x.model.created 0) _ v) in
    let ks = is_nil_is x.model.keys (and_l (is_nil x.model.keys) _ v₁) in
    let fs = is_nil_is x.model.facts (and_l (is_nil x.model.facts) _ v₂) in
    let ds = is_nil_is x.model.depths (and_r (is_nil x.model.facts) _ v₂) in
    λ i. record { number = n i; place = p i; model = record { created = c i; keys = ks i; facts = fs i; depths = ds i } }

is_blank_lem : T (is_blank blank)
unfolding is_blank blank empty
is_blank_lem = tt

-- Numbers that differ, as a test on the list of numbers.
in_map : (f : ℕ → ℕ) (z : ℕ) (xs : List ℕ) → In z (map f xs) → Some (λ x. f x ≡ z) xs
in_map f z [] i = i
in_map f z (x ∷ xs) (inl e) = inl e
in_map f z (x ∷ xs) (inr i) = inr (in_map f z xs i)

map_in : (f : ℕ → ℕ) (z : ℕ) (xs : List ℕ) (y : ℕ) → 1 ≤ cnt y xs → f y ≡ z → In z (map f xs)
map_in f z xs y l e = all_cnt (λ j. f j ≡ z → In z (map f xs)) xs (go xs) y l e
  where
    go : (ys : List ℕ) → All (λ j. f j ≡ z → In z (map f ys)) ys
    go [] = tt
    go (w ∷ ys) = (λ q. inl q, weaken ys (go ys))
      where
        weaken : (vs : List ℕ) → All (λ j. f j ≡ z → In z (map f ys)) vs → All (λ j. f j ≡ z → In z (map f (w ∷ ys))) vs
        weaken [] a = tt
        weaken (v ∷ vs) a = (λ q. inr (a.0 q), weaken vs a.1)

distinct_differ : (f : ℕ → ℕ) (xs : List ℕ) → T (distinct (map f xs)) → (j k : ℕ) → 1 ≤ cnt j xs → 1 ≤ cnt k xs → f j ≡ f k → j ≡ k
unfolding distinct cnt
distinct_differ f [] t j k a b e = absurd (omega arith)
distinct_differ f (x ∷ xs) t j k a b e =
    hit_elim (λ n. 1 ≤ n + cnt j xs → j ≡ k) j x
    (λ p _. hit_elim (λ n. 1 ≤ n + cnt k xs → j ≡ k) k x (λ q _. sym p ∙ q)
    (λ _ l. absurd (new k (omega arith) (sym e ∙ ap f (sym p)))) b)
    (λ _ m. hit_elim (λ n. 1 ≤ n + cnt k xs → j ≡ k) k x (λ q _. absurd (new j (omega arith) (e ∙ ap f (sym q))))
    (λ _ l. distinct_differ f xs (and_r (not (mem (f x) (map f xs))) _ t) j k (omega arith) (omega arith) e) b) a
  where
    new : (y : ℕ) → 1 ≤ cnt y xs → f y ≡ f x → ⊥
    new y l q = T_not (mem (f x) (map f xs)) (and_l (not (mem (f x) (map f xs))) _ t) (in_mem (f x) (map f xs) (map_in f (f x) xs y l q))

differ_distinct : (f : ℕ → ℕ) (xs : List ℕ) → ((j : ℕ) → cnt j xs ≤ 1) → ((j k : ℕ) → 1 ≤ cnt j xs → 1 ≤ cnt k xs → f j ≡ f k → j ≡ k) → T (distinct (map f xs))
unfolding distinct cnt
differ_distinct f [] o g = tt
differ_distinct f (x ∷ xs) o g =
    let h = hit_self x in
    let ox = o x in
    and_i (not (mem (f x) (map f xs))) _
    (not_T (mem (f x) (map f xs)) (λ t. some_elim (λ y. (f y ≡ f x) × (1 ≤ cnt y xs)) ⊥
    (λ y q. let l = q.1 in let e = g y x (omega arith) (omega arith) q.0 in let z = subst (λ w. 1 ≤ cnt w xs) e l in omega arith) xs
    (both xs (in_map f (f x) xs (mem_in (f x) (map f xs) t)))))
    (differ_distinct f xs (λ j. let z = o j in omega arith) (λ j k a b e. g j k (omega arith) (omega arith) e))
  where
    both : (ys : List ℕ) → Some (λ y. f y ≡ f x) ys → Some (λ y. (f y ≡ f x) × (1 ≤ cnt y ys)) ys
    both [] s = absurd s.lower
    both (y ∷ ys) (inl e) = inl (e, let h = hit_self y in omega arith)
    both (y ∷ ys) (inr s) = inr (some_some (λ w. (f w ≡ f x) × (1 ≤ cnt w ys)) (λ w. (f w ≡ f x) × (1 ≤ cnt w (y ∷ ys))) (λ w q. (q.0, let z = q.1 in omega arith)) ys (both ys s))

-- ---- the test says just that

module _ (lim : Limits) (b : Book) (s : State) where
  abbrev fit : Bool
  fit = ltb s.scheduler schedulers && ltb s.strategy strategies

  abbrev good : Bool
  good = all (sound_sheet lim b.names (places_of b s)) (sheets_at s (used s))

  abbrev number_of : ℕ → ℕ
  number_of j = (sheet_at s j).number

  numbers_are : map (λ (x : Sheet). x.number) (sheets_at s (used s)) ≡ map number_of (used s)
  unfolding sheets_at
  numbers_are = map_map (λ (x : Sheet). x.number) (sheet_at s) (used s)

  pub tidy : T (sound_state lim b s) → Tidy lim b s
  unfolding sound_state sound_lists sound_numbers sheets_at sheet_at
  tidy t = record {
    scheduler = ltb→lt s.scheduler schedulers (and_l (ltb s.scheduler schedulers) _ settings);
    strategy = ltb→lt s.strategy strategies (and_r (ltb s.scheduler schedulers) _ settings);
    next = leb→le s.next numbers (and_l (leb s.next numbers) _ ns);
    once = distinct_cnt (used s) (and_l (distinct (used s)) _ ls);
    there = in_range_lem;
    blanks = λ j e. elim (dec_le (suc j) (length s.slots)) [ yes l ↦ blank_in j l e | no l ↦ beyond j (omega arith) ];
    differ = distinct_differ number_of (used s) (subst (λ l. T (distinct l)) numbers_are (and_l (distinct (map (λ (x : Sheet). x.number) (sheets_at s (used s)))) _ ns₁));
    low = λ j l. ltb→lt (number_of j) s.next (all_cnt (λ i. T (ltb (number_of i) s.next)) (used s)
        (all_unmap (λ (x : Sheet). T (ltb x.number s.next)) (sheet_at s) (used s) (all_of (λ (x : Sheet). ltb x.number s.next) (sheets_at s (used s))
        (and_r (distinct (map (λ (x : Sheet). x.number) (sheets_at s (used s)))) _ ns₁))) j l);
    sheets = all_cnt (λ i. T (sound_sheet lim b.names (places_of b s) (sheet_at s i))) (used s)
        (all_unmap (λ x. T (sound_sheet lim b.names (places_of b s) x)) (sheet_at s) (used s) (all_of (sound_sheet lim b.names (places_of b s)) (sheets_at s (used s)) each));
  }
    where
      settings : T fit
      settings = and_l fit _ t

      t₁ : T (sound_lists s && (sound_numbers s && good))
      t₁ = and_r fit _ t

      ls : T (sound_lists s)
      ls = and_l (sound_lists s) _ t₁

      ns : T (sound_numbers s)
      ns = and_l (sound_numbers s) _ (and_r (sound_lists s) _ t₁)

      ns₁ : T (distinct (map (λ (x : Sheet). x.number) (sheets_at s (used s))) && all (λ (x : Sheet). ltb x.number s.next) (sheets_at s (used s)))
      ns₁ = and_r (leb s.next numbers) _ ns

      each : T good
      each = and_r (sound_numbers s) _ (and_r (sound_lists s) _ t₁)

      ls₁ : T (all (λ i. ltb i (length s.slots)) (used s) && all (λ i. mem i (used s) || is_blank (sheet_at s i)) (from 0 (length s.slots)))
      ls₁ = and_r (distinct (used s)) _ ls

      in_range_lem : (j : ℕ) → Listed s j → j < length s.slots
      in_range_lem j l = ltb→lt j (length s.slots) (all_cnt (λ i. T (ltb i (length s.slots))) (used s) (all_of (λ i. ltb i (length s.slots)) (used s) (and_l (all (λ i. ltb i (length s.slots)) (used s)) _ ls₁)) j l)

      blank_in : (j : ℕ) → j < length s.slots → cnt j (used s) ≡ 0 → sheet_at s j ≡ blank
      blank_in j l e = go (or_is (mem j (used s)) _ (all_from (λ i. T (mem i (used s) || is_blank (sheet_at s i))) 0 (length s.slots)
          (all_of (λ i. mem i (used s) || is_blank (sheet_at s i)) (from 0 (length s.slots)) (and_r (all (λ i. ltb i (length s.slots)) (used s)) _ ls₁)) j (omega arith) (omega arith)))
        where
          go : T (mem j (used s)) ⊎ T (is_blank (sheet_at s j)) → sheet_at s j ≡ blank
          go (inl m) = let z = mem_cnt j (used s) m in absurd (omega arith)
          go (inr u) = blank_is (sheet_at s j) u

      beyond : (j : ℕ) → length s.slots ≤ j → sheet_at s j ≡ blank
      beyond j l = get_or-eq_default s.slots blank l

  pub tidy_sound : Tidy lim b s → T (sound_state lim b s)
  unfolding sound_state sound_lists sound_numbers sheets_at
  tidy_sound g =
      and_i fit _ (and_i (ltb s.scheduler schedulers) _ (lt→ltb s.scheduler schedulers g.scheduler) (lt→ltb s.strategy strategies g.strategy))
      (and_i (sound_lists s) _
      (and_i (distinct (used s)) _ (cnt_distinct (used s) g.once)
      (and_i (all (λ i. ltb i (length s.slots)) (used s)) _
      (of_all (λ i. ltb i (length s.slots)) (used s) (cnt_all (λ i. T (ltb i (length s.slots))) (used s) (λ j l. lt→ltb j (length s.slots) (g.there j l))))
      (of_all (λ i. mem i (used s) || is_blank (sheet_at s i)) (from 0 (length s.slots)) (from_all (λ i. T (mem i (used s) || is_blank (sheet_at s i))) 0 (length s.slots) (λ j _ _. slot j)))))
      (and_i (sound_numbers s) _
      (and_i (leb s.next numbers) _ (le→leb s.next numbers g.next)
      (and_i (distinct (map (λ (x : Sheet). x.number) (sheets_at s (used s)))) _
      (subst (λ l. T (distinct l)) (sym numbers_are) (differ_distinct number_of (used s) g.once g.differ))
      (of_all (λ (x : Sheet). ltb x.number s.next) (sheets_at s (used s))
      (all_map (λ i. T (ltb (number_of i) s.next)) (λ (x : Sheet). T (ltb x.number s.next)) (sheet_at s) (λ i t. t) (used s)
      (cnt_all (λ i. T (ltb (number_of i) s.next)) (used s) (λ j l. lt→ltb (number_of j) s.next (g.low j l)))))))
      (of_all (sound_sheet lim b.names (places_of b s)) (sheets_at s (used s))
      (all_map (λ i. T (sound_sheet lim b.names (places_of b s) (sheet_at s i))) (λ x. T (sound_sheet lim b.names (places_of b s) x)) (sheet_at s) (λ i t. t) (used s)
      (cnt_all (λ i. T (sound_sheet lim b.names (places_of b s) (sheet_at s i))) (used s) g.sheets)))))
    where
      slot : (j : ℕ) → T (mem j (used s) || is_blank (sheet_at s j))
      slot j = go (decided (mem j (used s)))
        where
          go : T (mem j (used s)) ⊎ T (not (mem j (used s))) → T (mem j (used s) || is_blank (sheet_at s j))
          go (inl t) = or_l (mem j (used s)) _ t
          go (inr t) = or_r (mem j (used s)) _ (subst (λ x. T (is_blank x)) (sym (g.blanks j (not_mem_cnt j (used s) t))) is_blank_lem)
