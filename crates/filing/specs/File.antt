-- A table filed anew, entry by entry: of two values for one key the pair is kept, the newest first. The list that a loop works
-- on has the table in front and the pairs at its end, so that both grow towards the middle. The entries come in order, so that none
-- that was filed is above one that is still to be.
use Rattle.std.specs.Prelude.{◌≡◌, length, get_or, set}
use Rattle.std.proofs.Math.Path.{refl, sym, ap, ap₂, subst}
use Rattle.std.proofs.Common.{◌∙◌, subst₂, length-set, drop_of_length-le, drop-set-lt, drop-cons, drop-drop, get_or-set_same}
use Prim.Native.Nat.{ℕ, suc, ◌+◌, ◌-◌, ◌*◌, ◌≤◌, ◌<◌}
use native.Mathlib.Omega.{arith}
use Rattle.std.proofs.Math.Option.{Option, none, some}
use mathlib.Core.List.{List, [], ◌∷◌}
use Rattle.std.proofs.Math.ListN.{take, drop}
use Rattle.std.proofs.Math.Seq.{take-set-le, length-take-le}
use Rattle.base.specs.Branch.{case_o}
use Rattle.base.specs.Lists.{All}
use Rattle.base.specs.ListLaws.{all_all}
use Rattle.packing.specs.Replace.{key_of, value_of}
use Rattle.tables.specs.Table.{look_in, put_in, Rising, put_all, put_rises, put_known}
use Rattle.tables.specs.Ways.{Put, put_front, put_behind}
use Rattle.tables.specs.Last.{NoneAbove}
use Rattle.renaming.specs.Order.{Sorted}
use Rattle.filing.specs.Front.{front_cons, front_end, rest_cons, behind, behind_part}

-- A table and the pairs, as numbers.
abbrev pub Files : Type 0
Files = List ℕ × List ℕ

unfoldable pub file_in : ℕ → Files → Files
file_in x r = (put_in x r.0, case_o (look_in (key_of x) r.0) (λ _. r.1) (λ v. (v * 256 + value_of x) ∷ r.1))

unfoldable pub refile_in : List ℕ → Files → Files
refile_in [] r = r
refile_in (x ∷ xs) r = refile_in xs (file_in x r)

unfoldable pub refact_in : List ℕ → List ℕ → List ℕ
refact_in [] done = done
refact_in (x ∷ xs) done = refact_in xs (put_in x done)

-- ---- keys rise

pub refile_rises : (xs : List ℕ) (r : Files) → Rising r.0 → Rising (refile_in xs r).0
unfolding refile_in file_in
refile_rises [] r g = g
refile_rises (x ∷ xs) r g = refile_rises xs (file_in x r) (put_rises x r.0 g)

pub refact_rises : (xs done : List ℕ) → Rising done → Rising (refact_in xs done)
unfolding refact_in
refact_rises [] done g = g
refact_rises (x ∷ xs) done g = refact_rises xs _ (put_rises x done g)

-- Entries whose keys rise are in order.
pub rising_sorted : (xs : List ℕ) → Rising xs → Sorted xs
unfolding Rising Sorted
rising_sorted [] r = tt
rising_sorted (x ∷ xs) r = (all_all (λ y. key_of x < key_of y) (λ y. x ≤ y) (λ y h. omega arith) xs r.0, rising_sorted xs r.1)

-- ---- one entry

-- What filing x does to a list whose table is the first n entries and whose pairs stand from top on.
pub record Filing (x n top : ℕ) (t : List ℕ) (count up : ℕ) (t' : List ℕ) : Type 0 where
  pub made : ◌≡◌ {A = Files} (take count t', drop up t') (file_in x (take n t, drop top t))
  pub kept : (a b : ℕ) → count ≤ a → b ≤ up → drop a (take b t') ≡ drop a (take b t)
  pub rising : Rising (take count t')
  pub high : count ≤ n + 1
  pub above : top ≤ up + 1
  pub below : up ≤ top
  pub sum : count + top ≤ n + 1 + up

filed_table : {x n top : ℕ} {t : List ℕ} {count up : ℕ} {t' : List ℕ} → Filing x n top t count up t' → take count t' ≡ put_in x (take n t)
unfolding file_in
filed_table f = ap (λ (r : Files). r.0) f.made

drop_set : (t : List ℕ) (j w : ℕ) → j < length t → drop j (set t j w) ≡ w ∷ drop (suc j) t
drop_set t j w h =
    drop-cons (set t j w) j 0 (simp length-set h)
    ∙ ap₂ (λ (a : ℕ) (l : List ℕ). a ∷ l) (get_or-set_same t j w 0 h) (drop-set-lt (suc j) t j w (omega arith))

module _ (x n top count : ℕ) (t p : List ℕ) (put : Put x n t count p) (size : length p ≡ length t) (room : n < top) (fits : top ≤ length t)
    (rise : Rising (take n t)) where
  rises : Rising (take count p)
  rises = subst Rising (sym (put_front put)) (put_rises x (take n t) rise)

  pairs_behind : drop top p ≡ drop top t
  pairs_behind =
      let s : count + (top - count) ≡ top = omega (arith, put.high) in
      ap (λ j. drop j p) (sym s) ∙ sym (drop-drop (top - count) count p) ∙ ap (drop (top - count)) (put_behind put) ∙ drop-drop (top - count) count t ∙ ap (λ j. drop j t) s

  pub filed_new : look_in (key_of x) (take n t) ≡ none → Filing x n top t count top p
  unfolding file_in case_o
  filed_new o =
      record {
        made = ap₂ (λ (a b : List ℕ). (a, b)) (put_front put) (pairs_behind ∙ ap (λ (q : Option ℕ). case_o q (λ _. drop top t) (λ v. (v * 256 + value_of x) ∷ drop top t)) (sym o));
        kept = λ a b i j. behind_part count a b t p (put_behind put) i;
        rising = rises;
        high = put.high;
        above = omega arith;
        below = omega arith;
        sum = omega (arith, put.high);
      }

  pub filed_pair : (v : ℕ) → look_in (key_of x) (take n t) ≡ some v → Filing x n top t count (top - 1) (set p (top - 1) (v * 256 + value_of x))
  unfolding file_in case_o
  filed_pair v o =
      let w = v * 256 + value_of x in
      let k : count ≡ n = put.count ∙ put_known x (take n t) v o ∙ length-take-le n t (omega arith) in
      let s : suc (top - 1) ≡ top = omega arith in
      let front : take count (set p (top - 1) w) ≡ take count p = take-set-le count p (top - 1) w (omega arith) in
      let pairs : drop (top - 1) (set p (top - 1) w) ≡ w ∷ drop top t = drop_set p (top - 1) w (omega arith) ∙ ap (λ (l : List ℕ). w ∷ l) (ap (λ j. drop j p) s ∙ pairs_behind) in
      record {
        made = ap₂ (λ (a b : List ℕ). (a, b)) (front ∙ put_front put) (pairs ∙ ap (λ (q : Option ℕ). case_o q (λ _. drop top t) (λ v. (v * 256 + value_of x) ∷ drop top t)) (sym o));
        kept = λ a b i j. ap (drop a) (take-set-le b p (top - 1) w j) ∙ behind_part count a b t p (put_behind put) i;
        rising = subst Rising (sym front) rises;
        high = put.high;
        above = omega arith;
        below = omega arith;
        sum = omega arith;
      }

-- ---- all entries

-- One round: the entry at i is filed, and the rest still stands.
pub refile_next : (t t' : List ℕ) (n i m top m' up : ℕ) → n ≤ length t → i < n → Filing (get_or t i 0) m top t m' up t' → m ≤ i → n ≤ up
    → refile_in (drop i (take n t)) (take m t, drop top t) ≡ refile_in (drop (i + 1) (take n t')) (take m' t', drop up t')
unfolding refile_in
refile_next t t' n i m top m' up h l f q u =
    ap (λ (xs : List ℕ). refile_in xs (take m t, drop top t)) (front_cons t n i h l)
    ∙ ap₂ (λ (xs : List ℕ) (r : Files). refile_in xs r) (sym (f.kept (i + 1) n (omega (arith, f.high)) u)) (sym f.made)

pub refact_next : (t t' : List ℕ) (i m m' : ℕ) → i < length t → Put (get_or t i 0) m t m' t' → m ≤ i
    → refact_in (drop i t) (take m t) ≡ refact_in (drop (i + 1) t') (take m' t')
unfolding refact_in
refact_next t t' i m m' l p q =
    ap (λ (xs : List ℕ). refact_in xs (take m t)) (rest_cons t i l)
    ∙ ap₂ (λ (xs r : List ℕ). refact_in xs r) (sym (behind m' (i + 1) t t' (put_behind p) (omega (arith, p.high)))) (sym (put_front p))

-- What filing the first n entries anew does, with pairs that wait from top on.
pub record Refiled (n top : ℕ) (t : List ℕ) (count up : ℕ) (t' : List ℕ) : Type 0 where
  pub made : ◌≡◌ {A = Files} (take count t', drop up t') (refile_in (take n t) ([], drop top t))
  pub rising : Rising (take count t')
  pub fewer : count ≤ n
  pub below : up ≤ top
  pub sum : count + top ≤ n + up

pub record Refacted (t : List ℕ) (count : ℕ) (t' : List ℕ) : Type 0 where
  pub made : take count t' ≡ refact_in t []
  pub rising : Rising (take count t')
  pub fewer : count ≤ length t

-- ---- in order

-- What is still to be filed is in order, and nothing that was filed is above it.
pub record Ahead (done rest : List ℕ) : Type 0 where
  pub sorted : Sorted rest
  pub above : All (λ y. All (λ z. y ≤ z) rest) done

pub ahead_start : (xs : List ℕ) → Sorted xs → Ahead [] xs
ahead_start xs s = record { sorted = s; above = tt }

key_le : {a b : ℕ} → a ≤ b → key_of a ≤ key_of b
key_le {a} {b} h = omega arith

pub ahead_none : (done : List ℕ) (x : ℕ) (xs rest : List ℕ) → rest ≡ x ∷ xs → Ahead done rest → NoneAbove (key_of x) done
ahead_none done x xs rest e a = all_all (λ y. All (λ z. y ≤ z) rest) (λ y. key_of y ≤ key_of x) (λ y b. key_le (subst (All (λ z. y ≤ z)) e b).0) done a.above

ahead_next : (done : List ℕ) (x : ℕ) (xs rest : List ℕ) → rest ≡ x ∷ xs → Ahead done rest → Ahead (put_in x done) xs
unfolding Sorted
ahead_next done x xs rest e a =
    let s : Sorted (x ∷ xs) = subst Sorted e a.sorted in
    record {
      sorted = s.1;
      above = put_all (λ y. All (λ z. y ≤ z) xs) x done s.0 (all_all (λ y. All (λ z. y ≤ z) rest) (λ y. All (λ z. y ≤ z) xs) (λ y b. (subst (All (λ z. y ≤ z)) e b).1) done a.above);
    }

-- ---- the loops: what is left gives what the whole would

pub record Refiling (t₀ : List ℕ) (n top : ℕ) (t : List ℕ) (count up i : ℕ) : Type 0 where
  pub passed : i ≤ n
  pub fewer : count ≤ i
  pub below : up ≤ top
  pub above : top ≤ up + i
  pub sum : count + top ≤ i + up
  pub size : length t ≡ length t₀
  pub rising : Rising (take count t)
  pub ahead : Ahead (take count t) (drop i (take n t))
  pub rest : refile_in (take n t₀) ([], drop top t₀) ≡ refile_in (drop i (take n t)) (take count t, drop up t)

module _ (t₀ : List ℕ) (n top : ℕ) (room : n + n ≤ top) (fits : top ≤ length t₀) where
  pub refiling_start : Sorted (take n t₀) → Refiling t₀ n top t₀ 0 top 0
  unfolding Rising
  refiling_start s = record { passed = omega arith; fewer = omega arith; below = omega arith; above = omega arith; sum = omega arith; size = refl; rising = tt; ahead = ahead_start (take n t₀) s; rest = refl }

  -- No entry that was filed is above the next.
  pub refiling_none : (t : List ℕ) (count up i : ℕ) → Refiling t₀ n top t count up i → i < n → NoneAbove (key_of (get_or t i 0)) (take count t)
  refiling_none t count up i r l = ahead_none (take count t) (get_or t i 0) (drop (i + 1) (take n t)) _ (front_cons t n i (omega (arith, r.size)) l) r.ahead

  pub refiling_next : (t t' : List ℕ) (count up i count' up' : ℕ) → Refiling t₀ n top t count up i → i < n → length t' ≡ length t
      → Filing (get_or t i 0) count up t count' up' t' → Refiling t₀ n top t' count' up' (i + 1)
  refiling_next t t' count up i count' up' r l z f = record {
    passed = omega arith;
    fewer = omega (arith, f.high, r.fewer);
    below = omega (arith, f.below, r.below);
    above = omega (arith, f.above, r.above);
    sum = omega (arith, f.sum, r.sum);
    size = z ∙ r.size;
    rising = f.rising;
    ahead = subst₂ Ahead (sym (filed_table f)) (sym (f.kept (i + 1) n (omega (arith, f.high, r.fewer)) (omega (arith, f.above, r.above))))
        (ahead_next (take count t) (get_or t i 0) (drop (i + 1) (take n t)) _ (front_cons t n i (omega (arith, r.size)) l) r.ahead);
    rest = r.rest ∙ refile_next t t' n i count up count' up' (omega (arith, r.size)) l f r.fewer (omega (arith, f.above, r.above));
  }

  pub refiling_end : (t : List ℕ) (count up i : ℕ) → Refiling t₀ n top t count up i → n ≤ i → Refiled n top t₀ count up t
  unfolding refile_in
  refiling_end t count up i r l =
      let e : i ≡ n = omega (arith, r.passed) in
      record {
        made = sym (r.rest ∙ ap (λ (xs : List ℕ). refile_in xs (take count t, drop up t)) (ap (λ j. drop j (take n t)) e ∙ front_end t n));
        rising = r.rising;
        fewer = omega (arith, r.fewer, r.passed);
        below = r.below;
        sum = omega (arith, r.sum, r.passed);
      }

pub record Refacting (t₀ t : List ℕ) (count i : ℕ) : Type 0 where
  pub fewer : count ≤ i
  pub rising : Rising (take count t)
  pub ahead : Ahead (take count t) (drop i t)
  pub rest : refact_in t₀ [] ≡ refact_in (drop i t) (take count t)

module _ (t₀ : List ℕ) where
  pub refacting_start : Sorted t₀ → Refacting t₀ t₀ 0 0
  unfolding Rising
  refacting_start s = record { fewer = omega arith; rising = tt; ahead = ahead_start t₀ s; rest = refl }

  pub refacting_none : (t : List ℕ) (count i : ℕ) → Refacting t₀ t count i → i < length t → NoneAbove (key_of (get_or t i 0)) (take count t)
  refacting_none t count i r l = ahead_none (take count t) (get_or t i 0) (drop (i + 1) t) _ (rest_cons t i l) r.ahead

  pub refacting_next : (t t' : List ℕ) (count i count' : ℕ) → Refacting t₀ t count i → i < length t → Put (get_or t i 0) count t count' t' → Refacting t₀ t' count' (i + 1)
  refacting_next t t' count i count' r l p = record {
    fewer = omega (arith, p.high, r.fewer);
    rising = subst Rising (sym (put_front p)) (put_rises (get_or t i 0) (take count t) r.rising);
    ahead = subst₂ Ahead (sym (put_front p)) (sym (behind count' (i + 1) t t' (put_behind p) (omega (arith, p.high, r.fewer))))
        (ahead_next (take count t) (get_or t i 0) (drop (i + 1) t) _ (rest_cons t i l) r.ahead);
    rest = r.rest ∙ refact_next t t' i count count' l p r.fewer;
  }

  pub refacting_end : (t : List ℕ) (count i : ℕ) → Refacting t₀ t count i → length t ≡ length t₀ → i ≡ length t₀ → Refacted t₀ count t
  unfolding refact_in
  refacting_end t count i r z e = record {
    made = sym (r.rest ∙ ap (λ (xs : List ℕ). refact_in xs (take count t)) (drop_of_length-le t {i = i} (omega arith)));
    rising = r.rising;
    fewer = omega (arith, r.fewer);
  }
