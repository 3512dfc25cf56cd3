-- A table's entries parted by a function: those that it leaves as they are, and what it makes of the others. Put in order together
-- they are what it makes of the table. The loop that parts them leaves the first in the table and puts the others into a
-- spare slice.
use Rattle.std.specs.Prelude.{◌≡◌, ℕ, suc, ◌+◌, ◌-◌, ◌≤◌, ◌<◌, length, get_or, set, ltb}
use Rattle.std.proofs.Math.Path.{refl, sym, ap, ap₂}
use Rattle.std.proofs.Common.{◌∙◌, subst, subst₂, arith, add-one, drop-cons, drop-drop, take-suc-set, drop-set-lt}
use Rattle.std.proofs.Math.Decide.{dec_lt}
use mathlib.Core.List.{List, [], ◌∷◌, ◌++◌, map, append-nil}
use Rattle.std.proofs.Math.ListN.{take, drop, drop_of_length-le}
use Rattle.std.proofs.Math.Seq.{append_snoc}
use Rattle.std.proofs.Math.Dec.{ltb→lt, lt→ltb, not_T}
use Rattle.base.specs.Branch.{if}
use Rattle.base.specs.Lists.{All}
use Rattle.base.specs.BranchLaws.{if_true, if_false}
use Rattle.renaming.specs.Order.{insert_in, order_in, Sorted, order_middle}
use Rattle.renaming.specs.Place.{Lowers, Keeps}

unfoldable pub staying : (ℕ → ℕ) → List ℕ → List ℕ
staying f [] = []
staying f (x ∷ xs) = if (ltb (f x) x) (λ _. staying f xs) (λ _. x ∷ staying f xs)

unfoldable pub going : (ℕ → ℕ) → List ℕ → List ℕ
going f [] = []
going f (x ∷ xs) = if (ltb (f x) x) (λ _. f x ∷ going f xs) (λ _. going f xs)

-- ---- together

module _ (f : ℕ → ℕ) where
  -- An entry at the front goes, or it stays.
  goes_first : (x : ℕ) (xs : List ℕ) → f x < x → (staying f (x ∷ xs) ≡ staying f xs) × (going f (x ∷ xs) ≡ f x ∷ going f xs)
  unfolding staying going
  goes_first x xs h = let t = lt→ltb (f x) x h in (if_true (ltb (f x) x) _ _ t, if_true (ltb (f x) x) _ _ t)

  stays_first : (x : ℕ) (xs : List ℕ) → x ≤ f x → (staying f (x ∷ xs) ≡ x ∷ staying f xs) × (going f (x ∷ xs) ≡ going f xs)
  unfolding staying going
  stays_first x xs h =
      let t = not_T (ltb (f x) x) (λ q. let l = ltb→lt (f x) x q in absurd (omega arith)) in
      (if_false (ltb (f x) x) _ _ t, if_false (ltb (f x) x) _ _ t)

  -- What holds of both parts, with the entry's own fact.
  parts_elim {κ} : (P : List ℕ → List ℕ → Type κ) (x : ℕ) (xs : List ℕ)
      → (f x < x → P (staying f xs) (f x ∷ going f xs)) → (x ≤ f x → P (x ∷ staying f xs) (going f xs)) → P (staying f (x ∷ xs)) (going f (x ∷ xs))
  parts_elim P x xs g h = elim (dec_lt (f x) x) [
    | yes p ↦ (let e = goes_first x xs p in subst₂ P (sym e.0) (sym e.1) (g p))
    | no p ↦ (let q : x ≤ f x = omega arith in let e = stays_first x xs q in subst₂ P (sym e.0) (sym e.1) (h q))
  ]

  pub parted_order : Lowers f → (xs : List ℕ) → order_in (staying f xs ++ going f xs) ≡ order_in (map f xs)
  unfolding staying going order_in
  parted_order low [] = refl
  parted_order low (x ∷ xs) = parts_elim (λ (u v : List ℕ). order_in (u ++ v) ≡ insert_in (f x) (order_in (map f xs))) x xs
      (λ _. order_middle (staying f xs) (f x) (going f xs) ∙ ap (insert_in (f x)) (parted_order low xs))
      (λ h. let e : x ≡ f x = omega (arith, low x) in ap₂ insert_in e (parted_order low xs))

  parts_all : (P Q : ℕ → Type 0) → ((x : ℕ) → P x → f x < x → Q (f x)) → (xs : List ℕ) → All P xs → All P (staying f xs) × All Q (going f xs)
  unfolding staying going
  parts_all P Q g [] a = (tt, tt)
  parts_all P Q g (x ∷ xs) a = let r = parts_all P Q g xs a.1 in
      parts_elim (λ (u v : List ℕ). All P u × All Q v) x xs (λ h. (r.0, (g x a.0 h, r.1))) (λ _. ((a.0, r.0), r.1))

  pub parted_sorted : Keeps f → (xs : List ℕ) → Sorted xs → Sorted (staying f xs) × Sorted (going f xs)
  unfolding staying going Sorted
  parted_sorted keeps [] s = (tt, tt)
  parted_sorted keeps (x ∷ xs) s = let r = parted_sorted keeps xs s.1 in
      parts_elim (λ (u v : List ℕ). Sorted u × Sorted v) x xs
      (λ h. (r.0, ((parts_all (λ y. x ≤ y) (λ y. f x ≤ y) (λ y p q. keeps x y p h q) xs s.0).1, r.1)))
      (λ h. (((parts_all (λ y. x ≤ y) (λ _. Unit) (λ _ _ _. tt) xs s.0).0, r.0), r.1))

-- ---- the loop

-- After k entries of the table, of which some have gone: the parts so far, with those of what is left, are the whole's.
pub record Parting (f : ℕ → ℕ) (t₀ : List ℕ) (k gone : ℕ) (t c : List ℕ) : Type 0 where
  pub fewer : gone ≤ k
  pub stays : take (k - gone) t ++ staying f (drop k t₀) ≡ staying f t₀
  pub goes : take gone c ++ going f (drop k t₀) ≡ going f t₀
  pub rest : drop k t ≡ drop k t₀

pub record Parted (f : ℕ → ℕ) (t : List ℕ) (gone : ℕ) (t' c' : List ℕ) : Type 0 where
  pub fewer : gone ≤ length t
  pub stays : take (length t - gone) t' ≡ staying f t
  pub goes : take gone c' ≡ going f t

module _ (f : ℕ → ℕ) (t₀ : List ℕ) where
  pub parting_start : (c : List ℕ) → Parting f t₀ 0 0 t₀ c
  parting_start c = record { fewer = omega arith; stays = refl; goes = refl; rest = refl }

  module _ (k gone : ℕ) (t c : List ℕ) (p : Parting f t₀ k gone t c) (l : k < length t) (room : k < length c) where
    abbrev x : ℕ
    x = get_or t k 0

    later : drop (k + 1) t ≡ drop (k + 1) t₀
    later = sym (drop-drop 1 k t) ∙ ap (drop 1) p.rest ∙ drop-drop 1 k t₀

    next : drop k t₀ ≡ x ∷ drop (k + 1) t₀
    next = sym p.rest ∙ drop-cons t k 0 l ∙ ap (λ (ys : List ℕ). x ∷ ys) (ap (λ j. drop j t) (sym (add-one k)) ∙ later)

    -- It goes.
    goes : f x < x → Parting f t₀ (k + 1) (gone + 1) t (set c gone (f x))
    goes h =
        let first = goes_first f x (drop (k + 1) t₀) h in
        let e : k + 1 - (gone + 1) ≡ k - gone = omega arith in
        let front : take (gone + 1) (set c gone (f x)) ≡ take gone c ++ (f x ∷ []) = rw (add-one gone) (take-suc-set c gone (f x) (omega (arith, p.fewer))) in
        record {
          fewer = omega (arith, p.fewer);
          stays = ap₂ (λ (i : ℕ) (v : List ℕ). take i t ++ v) e (sym (ap (staying f) next ∙ first.0)) ∙ p.stays;
          goes =
              ap (λ (u : List ℕ). u ++ going f (drop (k + 1) t₀)) front ∙ append_snoc (take gone c) (f x) (going f (drop (k + 1) t₀))
              ∙ ap (λ (u : List ℕ). take gone c ++ u) (sym (ap (going f) next ∙ first.1)) ∙ p.goes;
          rest = later;
        }

    -- It stays.
    stays : x ≤ f x → Parting f t₀ (k + 1) gone (set t (k - gone) x) c
    stays h =
        let first = stays_first f x (drop (k + 1) t₀) h in
        let e : k + 1 - gone ≡ suc (k - gone) = omega (arith, p.fewer) in
        let front : take (k + 1 - gone) (set t (k - gone) x) ≡ take (k - gone) t ++ (x ∷ []) =
        ap (λ i. take i (set t (k - gone) x)) e ∙ take-suc-set t (k - gone) x (omega arith) in
        record {
          fewer = omega (arith, p.fewer);
          stays =
              ap (λ (u : List ℕ). u ++ staying f (drop (k + 1) t₀)) front ∙ append_snoc (take (k - gone) t) x (staying f (drop (k + 1) t₀))
              ∙ ap (λ (u : List ℕ). take (k - gone) t ++ u) (sym (ap (staying f) next ∙ first.0)) ∙ p.stays;
          goes = ap (λ (v : List ℕ). take gone c ++ v) (sym (ap (going f) next ∙ first.1)) ∙ p.goes;
          rest = drop-set-lt (k + 1) t (k - gone) x (omega arith) ∙ later;
        }

    -- By what the function makes of it.
    pub parting_goes : (y : ℕ) → y ≡ f x → y < x → Parting f t₀ (k + 1) (gone + 1) t (set c gone y)
    parting_goes y e h = subst (λ z. Parting f t₀ (k + 1) (gone + 1) t (set c gone z)) (sym e) (goes (subst (λ z. z < x) e h))

    pub parting_stays : (y : ℕ) → y ≡ f x → x ≤ y → Parting f t₀ (k + 1) gone (set t (k - gone) x) c
    parting_stays y e h = stays (subst (λ z. x ≤ z) e h)

  pub parting_end : (k gone : ℕ) (t c : List ℕ) → Parting f t₀ k gone t c → k ≡ length t₀ → Parted f t₀ gone t c
  unfolding staying going
  parting_end k gone t c p e =
      let none : drop k t₀ ≡ [] = drop_of_length-le t₀ {i = k} (omega arith) in
      record {
        fewer = omega (arith, p.fewer);
        stays =
            ap (λ i. take (i - gone) t) (sym e) ∙ sym (append-nil (take (k - gone) t))
            ∙ ap (λ (u : List ℕ). take (k - gone) t ++ staying f u) (sym none) ∙ p.stays;
        goes = sym (append-nil (take gone c)) ∙ ap (λ (u : List ℕ). take gone c ++ going f u) (sym none) ∙ p.goes;
      }
