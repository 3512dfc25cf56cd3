-- The ways out of the tests of a pool, one law for each.
use Rattle.std.specs.Prelude.{◌≡◌, refl, ℕ, ◌+◌, ◌-◌, ◌≤◌, ◌<◌, zero, suc, max, map, drop, Bool, true, false, cond, List, ◌∷◌, eqb, filter}
use Rattle.std.proofs.Common.{sym, ◌∙◌, add-one}
use Rattle.std.proofs.lemmas.List.Sums.{length-filter, count_by-le-length}
use Rattle.std.proofs.lemmas.List.FromFn.{length-range_with_len}
use Rattle.std.specs.List.{range_with_len}
use Rattle.std.proofs.Math.Path.{ap}
use native.Mathlib.Omega.{arith}
use Rattle.base.specs.Branch.{if}
use Rattle.base.specs.Lists.{from}
use Rattle.pools.specs.Count.{hit, cnt, hit_self, hit_other}
use Rattle.rules.specs.Fire.{linear, fair, places}
use Rattle.std.proofs.Math.ListN.{length, take}
use Rattle.rules.specs.Reading.{Bytes}
use Rattle.rules.specs.Image.{part, sheet_size}
use Rattle.sheetparts.specs.Tests.{Fair}
use Rattle.rules.specs.Sheet.{limits}
use Rattle.sheetcheck.specs.Regions.{part_length}
use Rattle.sheetparts.specs.Loops.{up_to, up_next, up_end}

-- ---- places

pub one_place : (n : ℕ) → 1 ≡ places linear n
unfolding places
one_place n = refl

pub fair_places : (n : ℕ) → max 1 n ≡ places fair n
unfolding places
fair_places n = refl

-- ---- counting: of the numbers below n, those at which f is i

module _ (f : ℕ → ℕ) (i : ℕ) where
  abbrev pub hits : List ℕ → ℕ
  hits js = length (filter (λ j. eqb (f j) i) js)

  hits_from : (a n : ℕ) → hits (range_with_len a n) ≡ cnt i (map f (from a n))
  unfolding cnt hit if from
  hits_from a zero = refl
  hits_from a (suc n) = go (eqb (f a) i) (hits_from (a + 1) n ∙ ap (λ k. cnt i (map f (from k n))) (add-one a))
    where
      go : (b : Bool) → hits (range_with_len (a + 1) n) ≡ cnt i (map f (from (suc a) n))
          → length (cond b (a ∷ filter (λ j. eqb (f j) i) (range_with_len (a + 1) n)) (filter (λ j. eqb (f j) i) (range_with_len (a + 1) n))) ≡ if b (λ _. 1) (λ _. 0) + cnt i (map f (from (suc a) n))
      go true e = omega arith
      go false e = omega arith

  pub hits_counted : (n : ℕ) → hits (range_with_len 0 n) ≡ cnt i (map f (up_to 0 n))
  unfolding up_to
  hits_counted n = let z : n ≡ n - 0 = omega arith in hits_from 0 n ∙ ap (λ k. cnt i (map f (from 0 k))) z

  pub hits_few : (n : ℕ) → hits (range_with_len 0 n) ≤ n
  hits_few n = omega (arith, length-filter (λ j. eqb (f j) i) (range_with_len 0 n), count_by-le-length (λ j. eqb (f j) i) (range_with_len 0 n), length-range_with_len 0 n)

-- Counted one number after another: r so far, and the rest.
module _ (f : ℕ → ℕ) (i j n r : ℕ) (w : ℕ) (e : w ≡ r + cnt i (map f (up_to j n))) where
  step : j < n → w ≡ r + (hit i (f j) + cnt i (map f (up_to (j + 1) n)))
  unfolding cnt
  step h = e ∙ ap (λ l. r + cnt i (map f l)) (up_next j n h)

  pub count_hit : (x : ℕ) → j < n → x ≡ f j → x ≡ i → w ≡ r + 1 + cnt i (map f (up_to (j + 1) n))
  count_hit x h p q = let k : hit i (f j) ≡ 1 = ap (hit i) (sym p ∙ q) ∙ hit_self i in omega (arith, step h)

  pub count_miss : (x : ℕ) → j < n → x ≡ f j → (x ≡ i → ⊥) → w ≡ r + cnt i (map f (up_to (j + 1) n))
  count_miss x h p q = let k : hit i (f j) ≡ 0 = hit_other i (f j) (λ z. q (p ∙ z)) in omega (arith, step h)

  pub count_end : n ≤ j → r ≡ w
  unfolding cnt
  count_end h = let k : cnt i (map f (up_to j n)) ≡ 0 = ap (λ l. cnt i (map f l)) (up_end j n h) in omega arith

-- ---- a slot lent on

pub fair_limits : Fair limits
unfolding limits
fair_limits = record { elements = omega arith; keys = omega arith; facts = omega arith }

module _ (a : ℕ) (p : Bytes) where
  pub lent_part : take (a + 2128 - a) (drop a p) ≡ part a 2128 p
  unfolding part
  lent_part = let e : a + 2128 - a ≡ 2128 = omega arith in ap (λ n. take n (drop a p)) e

  pub lent_length : a + 2128 ≤ length p → length (take (a + 2128 - a) (drop a p)) ≡ sheet_size limits
  unfolding sheet_size limits
  lent_length h = ap length lent_part ∙ part_length a 2128 p h
