-- The rounds of a merge, by any order: what holds at first and is kept by each round holds at the end, and then no pair is waiting.
-- For each round uses up a pair, and adds one for each key that falls away.
use Rattle.std.specs.Prelude.{◌≡◌, Bool, true, false, ◌⊎◌, ◌≢◌, length}
use Rattle.std.proofs.Math.Path.{refl}
use Rattle.std.proofs.Common.{sym, ◌∙◌, subst, arith, inl, inr, eqb→eq}
use Prim.Native.Nat.{ℕ, zero, suc, ◌+◌, ◌≤◌, min, max}
use mathlib.Core.List.{List, [], ◌∷◌}
use Rattle.base.specs.Branch.{if}
use Rattle.base.specs.BranchLaws.{if_elim, neqb→ne}
use Rattle.rules.specs.Sheet.{Entry, Model}
use Rattle.rules.specs.Bound.{History}
use Rattle.rules.specs.Merge.{rename, Pair, lowered, merge}
use Rattle.laws.specs.MergeBy.{Orders, EachReorders, merge_into_by, merge_all_by, merge_by}
use Rattle.laws.proofs.MergeByLaws.{merge_has}
use Rattle.soundness.specs.Join.{into_length}

-- ---- renaming the larger of two elements to the smaller

-- It changes that element alone.
pub rename_has : (P : ℕ → ℕ → Type 0) (s l : ℕ) → P l s → ((e : ℕ) → e ≢ l → P e e) → (e : ℕ) → P e (rename s l e)
unfolding rename
rename_has P s l p f e = if_elim (P e) _ _ _ (λ t. subst (λ z. P z s) (sym (eqb→eq e l t)) p) (λ t. f e (neqb→ne e l t))

-- What one round makes of an element.
abbrev pub rename_of : Pair → ℕ → ℕ
rename_of p = rename (min p.0 p.1) (max p.0 p.1)

-- Both elements of a pair become the smaller.
pub one_renamed : (p : Pair) → rename_of p p.0 ≡ rename_of p p.1
one_renamed p = to p.0 (inl refl) ∙ sym (to p.1 (inr refl))
  where
    to : (e : ℕ) → (e ≡ p.0) ⊎ (e ≡ p.1) → rename_of p e ≡ min p.0 p.1
    to = rename_has (λ x y. (x ≡ p.0) ⊎ (x ≡ p.1) → y ≡ min p.0 p.1) (min p.0 p.1) (max p.0 p.1) (λ _. refl)
        (λ x d o. elim o [ inl q ↦ omega arith | inr q ↦ omega arith ])

-- ---- the rounds

-- What it makes of a sheet, and of the pairs that wait behind.
abbrev pub round_of : (List Entry → List Entry) → (List Pair → List Pair) → Pair → Model → List Pair → Model × List Pair
round_of order next p m ps = merge_into_by order next (min p.0 p.1) (max p.0 p.1) m ps

module _ {ℓ} (order : Orders Entry) (next : Orders Pair) (ro : EachReorders order) (rn : EachReorders next)
    (I : Model → History → List Pair → Type ℓ)
    (skip : (m : Model) (now : History) (p : Pair) (ps : List Pair) → p.0 ≡ p.1 → I m now (p ∷ ps) → I m now ps)
    (round : (n : ℕ) (m : Model) (now : History) (p : Pair) (ps : List Pair) → I m now (p ∷ ps)
    → I (round_of (order n) (next n) p m ps).0 (λ e. rename_of p (now e)) (round_of (order n) (next n) p m ps).1) where
  rounds_end : (k : ℕ) (m : Model) (now : History) (ps : List Pair) → length ps + length m.keys ≤ k → I m now ps
      → I (merge_all_by order next k m now ps).0 (merge_all_by order next k m now ps).1 []
  unfolding merge_all_by
  rounds_end zero m now [] f i = i
  rounds_end zero m now (p ∷ ps) f i = absurd (omega arith)
  rounds_end (suc k) m now [] f i = i
  rounds_end (suc k) m now (p ∷ ps) f i =
      if_elim (λ (r : Model × History). I r.0 r.1 []) _ _ _
      (λ t. rounds_end k m now ps (omega arith) (skip m now p ps (eqb→eq p.0 p.1 t) i))
      (λ t.
      let n = into_length (order k) (next k) (ro k) (rn k) (min p.0 p.1) (max p.0 p.1) m ps in
      rounds_end k _ _ _ (omega arith) (round k m now p ps i))

  -- What does not speak of depths holds of the merged sheet too.
  pub merge_by_ends : ((m : Model) (now : History) → I m now [] → I (lowered m) now [])
      → (a b : ℕ) (m : Model) (now : History) → I m now ((a, b) ∷ []) → I (merge_by order next a b m now).0 (merge_by order next a b m now).1 []
  unfolding merge_by
  merge_by_ends low a b m now i = low _ _ (rounds_end (suc (length m.keys)) m now ((a, b) ∷ []) (omega arith) i)

-- ---- the history does not bear on the sheet, and is carried along

pub through_if : {A B : Type 0} (f : A → B) (b : Bool) (x y : Unit {0} → A) (u v : Unit {0} → B) → u tt ≡ f (x tt) → v tt ≡ f (y tt) → if b u v ≡ f (if b x y)
unfolding if
through_if f true x y u v p q = p
through_if f false x y u v p q = q

-- A merge after a history.
abbrev pub after_history : History → Model × History → Model × History
after_history now r = (r.0, λ e. r.1 (now e))

module _ (order : Orders Entry) (next : Orders Pair) (now : History) where
  rounds_after : (k : ℕ) (m : Model) (g : History) (ps : List Pair) → merge_all_by order next k m (λ e. g (now e)) ps ≡ after_history now (merge_all_by order next k m g ps)
  unfolding merge_all_by
  rounds_after zero m g ps = refl
  rounds_after (suc k) m g [] = refl
  rounds_after (suc k) m g (p ∷ ps) =
      let r = round_of (order k) (next k) p m ps in
      through_if (after_history now) _ _ _ _ _ (rounds_after k m g ps) (rounds_after k r.0 (λ e. rename_of p (g e)) r.1)

  pub merge_by_after : (a b : ℕ) (m : Model) → merge_by order next a b m now ≡ after_history now (merge_by order next a b m (λ e. e))
  unfolding merge_by
  merge_by_after a b m = λ i. let r = rounds_after (suc (length m.keys)) m (λ e. e) ((a, b) ∷ []) i in (lowered r.0, r.1)

pub merge_after : (now : History) (a b : ℕ) (m : Model) → merge a b m now ≡ after_history now (merge a b m (λ e. e))
merge_after now a b m =
    merge_has (λ (r : History → Model × History). r now ≡ after_history now (r (λ e. e))) a b m (λ order next ro rn. merge_by_after order next now a b m)
