-- Slots: what storing children leaves and what it puts where; that free slots are free; that the children always have room.
use Rattle.std.specs.Prelude.{◌≡◌, Bool, true, false, not, get_or, set, T}
use Rattle.std.proofs.Math.Path.{refl, ap}
use Rattle.std.proofs.Common.{sym, ◌∙◌, subst, le_trans, length-set, get_or-set_same, get_or-set_other}
use Prim.Native.Nat.{ℕ, suc, ◌+◌, ◌≤◌, ◌<◌}
use Rattle.std.proofs.Math.Nat.{le_refl}
use native.Mathlib.Omega.{arith}
use Rattle.std.proofs.Math.Logic.{inl, inr}
use mathlib.Core.List.{List, [], ◌∷◌, ◌++◌, map}
use Rattle.std.proofs.Math.ListN.{length}
use Rattle.std.proofs.Math.Dec.{not_T}
use Rattle.base.specs.Branch.{if}
use Rattle.base.specs.Lists.{All, Some, mem, keep, from}
use Rattle.base.specs.ListLaws.{all_all, all_both, some_some}
use Rattle.rules.specs.Sheet.{Model, Sheet, blank}
use Rattle.rules.specs.Child.{Child}
use Rattle.rules.specs.Pool.{State, used, free, changed, freed}
use Rattle.rules.specs.Step.{Placed, placed, stored, open_slots, cut_slots, without_base}
use Rattle.pools.specs.Count.{hit, cnt, hit_self, cnt_in, not_mem_cnt, cnt_not_mem, from_all, from_once, from_has, keep_le, keep_all, keep_more, cnt_all, all_cnt}

abbrev pub slots_of : List Placed → List ℕ
slots_of new = map (λ (x : Placed). x.slot) new

-- ---- storing

pub stored_length : (new : List Placed) (xs : List Sheet) → length (stored new xs) ≡ length xs
unfolding stored
stored_length [] xs = refl
stored_length (x ∷ new) xs = stored_length new (set xs x.slot x.sheet) ∙ length-set xs x.slot x.sheet

-- A slot that no child goes into stays as it is.
pub stored_other : (new : List Placed) (xs : List Sheet) (j : ℕ) → cnt j (slots_of new) ≡ 0 → get_or (stored new xs) j blank ≡ get_or xs j blank
unfolding stored cnt
stored_other [] xs j e = refl
stored_other (x ∷ new) xs j e =
    stored_other new (set xs x.slot x.sheet) j (omega arith)
    ∙ get_or-set_other xs x.slot j x.sheet blank (λ q. let h = subst (λ z. hit j z ≡ 1) q (hit_self j) in omega arith)

-- Each child stands in its slot.
pub stored_new : (new : List Placed) (xs : List Sheet) → ((j : ℕ) → cnt j (slots_of new) ≤ 1) → All (λ (x : Placed). x.slot < length xs) new
    → All (λ (x : Placed). get_or (stored new xs) x.slot blank ≡ x.sheet) new
unfolding stored cnt
stored_new [] xs f a = tt
stored_new (x ∷ new) xs f a =
    let ys : List Sheet = set xs x.slot x.sheet in (
      stored_other new ys x.slot (let h = hit_self x.slot in let g = f x.slot in omega arith) ∙ get_or-set_same xs x.slot x.sheet blank a.0,
      stored_new new ys (λ j. let g = f j in omega arith)
          (all_all (λ (y : Placed). y.slot < length xs) (λ (y : Placed). y.slot < length ys) (λ y l. subst (λ n. y.slot < n) (sym (length-set xs x.slot x.sheet)) l) new a.1),
    )

-- Open and bounded children together are all children.
pub open_and_cut : (j : ℕ) (new : List Placed) → cnt j (open_slots new) + cnt j (cut_slots new) ≡ cnt j (slots_of new)
unfolding open_slots cut_slots cnt if
open_and_cut j [] = refl
open_and_cut j (x ∷ new) = go x.cut (open_and_cut j new)
  where
    go : (b : Bool) → cnt j (open_slots new) + cnt j (cut_slots new) ≡ cnt j (slots_of new)
        → cnt j (if b (λ _. open_slots new) (λ _. x.slot ∷ open_slots new)) + cnt j (if b (λ _. x.slot ∷ cut_slots new) (λ _. cut_slots new)) ≡ hit j x.slot + cnt j (slots_of new)
    go true r = omega arith
    go false r = omega arith

-- ---- placing: where there are slots enough, every child gets one

module _ (p : ℕ) where
  pub placed_length : (is : List ℕ) (n : ℕ) (ks : List Child) → length ks ≤ length is → length (placed is p n ks) ≡ length ks
  unfolding placed
  placed_length [] n [] l = refl
  placed_length [] n (k ∷ ks) l = absurd (omega arith)
  placed_length (i ∷ is) n [] l = refl
  placed_length (i ∷ is) n (k ∷ ks) l = ap suc (placed_length is (suc n) ks (omega arith))

  -- What each child has, each placed sheet has, with its place.
  pub placed_all : (P : Child → Type 0) (Q : Placed → Type 0)
      → ((i n : ℕ) (k : Child) → P k → Q (record { slot = i; cut = k.cut; sheet = record { number = n; place = p; model = k.model } }))
      → (is : List ℕ) (n : ℕ) (ks : List Child) → All P ks → All Q (placed is p n ks)
  unfolding placed
  placed_all P Q f [] n ks a = tt
  placed_all P Q f (i ∷ is) n [] a = tt
  placed_all P Q f (i ∷ is) n (k ∷ ks) a = (f i n k a.0, placed_all P Q f is (suc n) ks a.1)

  -- What some child has, some placed sheet has.
  pub placed_some : (P : Model → Type 0) (is : List ℕ) (n : ℕ) (ks : List Child) → length ks ≤ length is → Some (λ (k : Child). P k.model) ks
      → Some (λ (x : Placed). P x.sheet.model) (placed is p n ks)
  unfolding placed
  placed_some P [] n [] l s = absurd s.lower
  placed_some P [] n (k ∷ ks) l s = absurd (omega arith)
  placed_some P (i ∷ is) n [] l s = absurd s.lower
  placed_some P (i ∷ is) n (k ∷ ks) l (inl q) = inl q
  placed_some P (i ∷ is) n (k ∷ ks) l (inr s) = inr (placed_some P is (suc n) ks (omega arith) s)

  pub placed_slots : (P : ℕ → Type 0) (is : List ℕ) (n : ℕ) (ks : List Child) → All P is → All (λ (x : Placed). P x.slot) (placed is p n ks)
  unfolding placed
  placed_slots P [] n ks a = tt
  placed_slots P (i ∷ is) n [] a = tt
  placed_slots P (i ∷ is) n (k ∷ ks) a = (a.0, placed_slots P is (suc n) ks a.1)

  pub placed_cnt : (j : ℕ) (is : List ℕ) (n : ℕ) (ks : List Child) → cnt j (slots_of (placed is p n ks)) ≤ cnt j is
  unfolding placed cnt
  placed_cnt j [] n ks = le_refl 0
  placed_cnt j (i ∷ is) n [] = omega arith
  placed_cnt j (i ∷ is) n (k ∷ ks) = let r = placed_cnt j is (suc n) ks in omega arith

  -- The numbers are those from n on, and no two slots have one number.
  pub placed_low : (is : List ℕ) (n : ℕ) (ks : List Child) → All (λ (x : Placed). (n ≤ x.sheet.number) × (x.sheet.number < n + length (placed is p n ks))) (placed is p n ks)
  unfolding placed
  placed_low [] n ks = tt
  placed_low (i ∷ is) n [] = tt
  placed_low (i ∷ is) n (k ∷ ks) = (
    (le_refl n, omega arith),
    all_all (λ (x : Placed). (suc n ≤ x.sheet.number) × (x.sheet.number < suc n + length (placed is p (suc n) ks)))
        (λ (x : Placed). (n ≤ x.sheet.number) × (x.sheet.number < n + suc (length (placed is p (suc n) ks))))
        (λ x q. let a = q.0 in let b = q.1 in (omega arith, omega arith)) (placed is p (suc n) ks) (placed_low is (suc n) ks),
  )

  pub placed_differ : (is : List ℕ) (n : ℕ) (ks : List Child)
      → All (λ (x : Placed). All (λ (y : Placed). x.sheet.number ≡ y.sheet.number → x.slot ≡ y.slot) (placed is p n ks)) (placed is p n ks)
  unfolding placed
  placed_differ [] n ks = tt
  placed_differ (i ∷ is) n [] = tt
  placed_differ (i ∷ is) n (k ∷ ks) =
      let rest = placed is p (suc n) ks in
      let low = placed_low is (suc n) ks in (
        (
          λ _. refl,
          all_all (λ (y : Placed). (suc n ≤ y.sheet.number) × (y.sheet.number < suc n + length rest)) (λ (y : Placed). n ≡ y.sheet.number → i ≡ y.slot)
              (λ y q e. let a = q.0 in absurd (omega arith)) rest low,
        ),
        all_both (λ (x : Placed). (suc n ≤ x.sheet.number) × (x.sheet.number < suc n + length rest)) (λ (x : Placed). All (λ (y : Placed). x.sheet.number ≡ y.sheet.number → x.slot ≡ y.slot) rest) _
            (λ x q r. ((λ e. let a = q.0 in absurd (omega arith)), r)) rest low (placed_differ is (suc n) ks),
      )

-- ---- free slots

-- A slot that is there and that no list names.
abbrev pub Free : State → ℕ → Type 0
Free s j = (cnt j (used s) ≡ 0) × (j < length s.slots)

pub free_are : (s : State) → All (Free s) (free s)
unfolding free
free_are s = all_both (λ j. T (not (mem j (used s)))) (λ j. j < length s.slots) (Free s) (λ j t l. (not_mem_cnt j (used s) t, l)) (keep unused row)
    (keep_all unused row)
    (cnt_all (λ j. j < length s.slots) (keep unused row) (λ j l.
    all_cnt (λ i. i < length s.slots) row (from_all (λ i. i < length s.slots) 0 (length s.slots) (λ i a b. omega arith)) j (le_trans l (keep_le unused j row))))
  where
    unused : ℕ → Bool
    unused j = not (mem j (used s))

    row : List ℕ
    row = from 0 (length s.slots)

pub free_once : (s : State) (j : ℕ) → cnt j (free s) ≤ 1
unfolding free
free_once s j = le_trans (keep_le (λ i. not (mem i (used s))) j (from 0 (length s.slots))) (from_once j 0 (length s.slots))

-- With the base gone there is a slot more: as many children as free slots plus one have room.
pub free_more : (s : State) (i : ℕ) (ws : List ℕ) → s.waiting ≡ i ∷ ws → ((j : ℕ) → cnt j (used s) ≤ 1) → i < length s.slots
    → suc (length (free s)) ≤ length (free (without_base s i ws))
unfolding free without_base changed freed used cnt
free_more s i ws e once l =
    subst (λ n. suc (length (keep (λ j. not (mem j (used s))) (from 0 (length s.slots)))) ≤ length (keep (λ j. not (mem j (ws ++ (s.complete ++ s.bounded)))) (from 0 n)))
    (sym (length-set s.slots i blank))
    (keep_more (λ j. not (mem j (used s))) (λ j. not (mem j (ws ++ (s.complete ++ s.bounded)))) (from 0 (length s.slots))
    (from_all (λ j. T (not (mem j (used s))) → T (not (mem j (ws ++ (s.complete ++ s.bounded))))) 0 (length s.slots)
    (λ j _ _ t. cnt_not_mem j _ (let z = not_mem_cnt j (used s) t in let c = count j in omega arith)))
    here)
  where
    rest : List ℕ
    rest = ws ++ (s.complete ++ s.bounded)

    count : (j : ℕ) → cnt j (used s) ≡ hit j i + cnt j rest
    count j = subst (λ w. cnt j (w ++ (s.complete ++ s.bounded)) ≡ hit j i + cnt j rest) (sym e) refl

    one : T (not (not (mem i (used s)))) × T (not (mem i rest))
    one = let c = count i in let h = hit_self i in let o = once i in
        (not_T (not (mem i (used s))) (λ t. let z = not_mem_cnt i (used s) t in omega arith), cnt_not_mem i rest (omega arith))

    here : Some (λ k. T (not (not (mem k (used s)))) × T (not (mem k rest))) (from 0 (length s.slots))
    here = some_some (λ k. k ≡ i) (λ k. T (not (not (mem k (used s)))) × T (not (mem k rest))) (λ k q. subst (λ z. T (not (not (mem z (used s)))) × T (not (mem z rest))) (sym q) one) (from 0 (length s.slots))
        (cnt_in i (from 0 (length s.slots)) (from_has i 0 (length s.slots) (omega arith) (omega arith)))
