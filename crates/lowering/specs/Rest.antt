-- A pass that keeps the depths is the last, and any other lowers their sum: so passes end, and end where the document's do.
use Rattle.std.specs.Prelude.{◌≡◌, refl, Bool, ◌||◌, eqb}
use Rattle.std.proofs.Math.Path.{sym, ap}
use Rattle.std.proofs.Common.{◌∙◌, subst, le_refl, le_trans, add-one, drop_of_length-le, eqb→eq}
use Prim.Native.Nat.{ℕ, zero, suc, ◌+◌, ◌≤◌, ◌<◌, min}
use native.Mathlib.Omega.{arith}
use Rattle.std.proofs.Math.Bool.{true, false}
use mathlib.Core.List.{List, [], ◌∷◌}
use lib.ListN.{length, get_or, drop, set}
use lib.Seq.{set-get_or, drop-cons}
use Rattle.std.proofs.lemmas.List.{get_or_past}
use Rattle.base.specs.BranchLaws.{if_elim, if_true, if_false, eq→eqb, neqb→ne}
use Rattle.rules.specs.Merge.{sum}
use Rattle.packing.specs.Replace.{value_of}
use Rattle.lowering.specs.Lower.{over_in, lowest, lower_at, lower_by_in, lower_in}

-- What a flag says of depths before and after: some fell, or all are as they were.
abbrev pub Fell : Bool → List ℕ → List ℕ → Type 0
Fell true ds es = sum es < sum ds
Fell false ds es = es ≡ ds

set_sum : (ds : List ℕ) (v n : ℕ) → n ≤ get_or ds v 0 → sum (set ds v n) + get_or ds v 0 ≡ sum ds + n
unfolding sum
set_sum [] v n l = omega arith
set_sum (x ∷ xs) zero n l = omega arith
set_sum (x ∷ xs) (suc v) n l = let r = set_sum xs v n l in omega arith

fell_sum : (f : Bool) (ds es : List ℕ) → Fell f ds es → sum es ≤ sum ds
fell_sum true ds es h = omega arith
fell_sum false ds es h = subst (λ (z : List ℕ). sum z ≤ sum ds) (sym h) (le_refl _)

-- What fell before and what fell since.
fell_then : (f r : Bool) (ds es fs : List ℕ) → Fell f ds es → Fell r es fs → Fell (f || r) ds fs
fell_then true r ds es fs p q = let t = fell_sum r es fs q in omega arith
fell_then false true ds es fs p q = subst (λ (z : List ℕ). sum fs < sum z) p q
fell_then false false ds es fs p q = q ∙ p

-- ---- one key

pub record LoweredAt (x : ℕ) (ds : List ℕ) (r : Bool) (es : List ℕ) : Type 0 where
  pub depths : es ≡ lower_at x ds
  pub fell : Fell r ds es

module _ (x : ℕ) (ds : List ℕ) where
  -- The key gives no less.
  pub lowered_not : get_or ds (value_of x) 0 ≤ lowest ds x → LoweredAt x ds false ds
  unfolding lower_at lowest
  lowered_not h =
      let e : lowest ds x ≡ get_or ds (value_of x) 0 = omega arith in
      record { depths = sym (ap (set ds (value_of x)) e ∙ set-get_or ds (value_of x) 0); fell = refl }

  -- The value has no depth.
  pub lowered_none : length ds ≤ value_of x → LoweredAt x ds false ds
  lowered_none h = let z = get_or_past ds (value_of x) 0 h in lowered_not (omega arith)

  pub lowered_less : lowest ds x < get_or ds (value_of x) 0 → LoweredAt x ds true (set ds (value_of x) (lowest ds x))
  unfolding lower_at
  lowered_less h = record { depths = refl; fell = let s = set_sum ds (value_of x) (lowest ds x) (omega arith) in omega arith }

-- ---- a pass over the keys

pub record LoweredBy (ks ds : List ℕ) (r : Bool) (es : List ℕ) : Type 0 where
  pub depths : es ≡ lower_by_in ks ds
  pub fell : Fell r ds es

-- What is left of the pass gives what the whole would.
pub record Lowering (ks ds₀ ds : List ℕ) (i : ℕ) (f : Bool) : Type 0 where
  pub rest : lower_by_in ks ds₀ ≡ lower_by_in (drop i ks) ds
  pub fell : Fell f ds₀ ds

module _ (ks ds₀ : List ℕ) where
  pub lowering_start : Lowering ks ds₀ ds₀ 0 false
  lowering_start = record { rest = refl; fell = refl }

  pub lowering_next : (ds es : List ℕ) (i : ℕ) (f r : Bool) → Lowering ks ds₀ ds i f → i < length ks → LoweredAt (get_or ks i 0) ds r es → Lowering ks ds₀ es (i + 1) (f || r)
  unfolding lower_by_in
  lowering_next ds es i f r g l s = record {
    rest = g.rest ∙ ap (λ (xs : List ℕ). lower_by_in xs ds) (drop-cons ks i 0 l ∙ ap (λ j. get_or ks i 0 ∷ drop j ks) (sym (add-one i))) ∙ ap (lower_by_in (drop (i + 1) ks)) (sym s.depths);
    fell = fell_then f r ds₀ ds es g.fell s.fell;
  }

  pub lowering_end : (ds : List ℕ) (i : ℕ) (f : Bool) → Lowering ks ds₀ ds i f → length ks ≤ i → LoweredBy ks ds₀ f ds
  unfolding lower_by_in
  lowering_end ds i f g l = record { depths = sym (g.rest ∙ ap (λ (xs : List ℕ). lower_by_in xs ds) (drop_of_length-le ks {i = i} l)); fell = g.fell }

-- ---- passes

lower_at_sum : (x : ℕ) (ds : List ℕ) → sum (lower_at x ds) ≤ sum ds
unfolding lower_at lowest
lower_at_sum x ds = let r = set_sum ds (value_of x) (min (get_or ds (value_of x) 0) (over_in ds x)) (omega arith) in omega arith

lower_by_sum : (ks ds : List ℕ) → sum (lower_by_in ks ds) ≤ sum ds
unfolding lower_by_in
lower_by_sum [] ds = le_refl _
lower_by_sum (x ∷ xs) ds = le_trans (lower_by_sum xs (lower_at x ds)) (lower_at_sum x ds)

-- As many passes as the sum are enough.
enough : (n m : ℕ) (ks ds : List ℕ) → sum ds ≤ n → sum ds ≤ m → lower_in n ks ds ≡ lower_in m ks ds
unfolding lower_in
enough zero zero ks ds p q = refl
enough zero (suc m) ks ds p q =
    let b = lower_by_sum ks ds in
    sym (if_true (eqb (sum (lower_by_in ks ds)) (sum ds)) _ _ (eq→eqb (sum (lower_by_in ks ds)) (sum ds) (omega arith)))
enough (suc n) zero ks ds p q =
    let b = lower_by_sum ks ds in
    if_true (eqb (sum (lower_by_in ks ds)) (sum ds)) _ _ (eq→eqb (sum (lower_by_in ks ds)) (sum ds) (omega arith))
enough (suc n) (suc m) ks ds p q =
    if_elim (λ (z : List ℕ). z ≡ lower_in (suc m) ks ds) (eqb (sum (lower_by_in ks ds)) (sum ds)) _ _
    (λ t. sym (if_true (eqb (sum (lower_by_in ks ds)) (sum ds)) _ _ t))
    (λ t.
    let b = lower_by_sum ks ds in
    let e = neqb→ne (sum (lower_by_in ks ds)) (sum ds) t in
    enough n m ks (lower_by_in ks ds) (omega arith) (omega arith) ∙ sym (if_false (eqb (sum (lower_by_in ks ds)) (sum ds)) _ _ t))

-- A pass that lowers leaves the rest to the next; one that does not has come to rest.
pass : (n : ℕ) (ks ds : List ℕ) → sum ds ≤ n → sum (lower_by_in ks ds) < sum ds → lower_in n ks ds ≡ lower_in (sum (lower_by_in ks ds)) ks (lower_by_in ks ds)
unfolding lower_in
pass zero ks ds p h = absurd (omega arith)
pass (suc n) ks ds p h =
    if_elim (λ (z : List ℕ). z ≡ lower_in (sum (lower_by_in ks ds)) ks (lower_by_in ks ds)) (eqb (sum (lower_by_in ks ds)) (sum ds)) _ _
    (λ t. let e = eqb→eq (sum (lower_by_in ks ds)) (sum ds) t in absurd (omega arith))
    (λ _. enough n (sum (lower_by_in ks ds)) ks (lower_by_in ks ds) (omega arith) (le_refl _))

rests : (n : ℕ) (ks ds : List ℕ) → lower_by_in ks ds ≡ ds → lower_in n ks ds ≡ ds
unfolding lower_in
rests zero ks ds e = refl
rests (suc n) ks ds e = if_true (eqb (sum (lower_by_in ks ds)) (sum ds)) _ _ (eq→eqb (sum (lower_by_in ks ds)) (sum ds) (ap sum e))

-- While some fell, the passes still to come give what all would; once none fell, all is done.
abbrev Pending : Bool → (end ks ds : List ℕ) → Type 0
Pending true end ks ds = end ≡ lower_in (sum ds) ks ds
Pending false end ks ds = ds ≡ end

abbrev pub Passing : (ks ds₀ ds : List ℕ) → Bool → Type 0
Passing ks ds₀ ds f = Pending f (lower_in (sum ds₀) ks ds₀) ks ds

-- How much is left to fall, and one pass to see that none does.
unfoldable pub left : Bool → List ℕ → ℕ
left true ds = suc (sum ds)
left false ds = 0

module _ (ks ds₀ : List ℕ) where
  pub passing_next : (ds es : List ℕ) (f r : Bool) → f ≡ true → Passing ks ds₀ ds f → LoweredBy ks ds r es → Passing ks ds₀ es r
  passing_next ds es f r e p s = go r s.fell
    where
      g : Passing ks ds₀ ds true
      g = subst (Passing ks ds₀ ds) e p

      go : (r : Bool) → Fell r ds es → Pending r (lower_in (sum ds₀) ks ds₀) ks es
      go true h =
          g ∙ pass (sum ds) ks ds (le_refl _) (subst (λ (fs : List ℕ). sum fs < sum ds) s.depths h)
          ∙ ap (λ (fs : List ℕ). lower_in (sum fs) ks fs) (sym s.depths)
      go false h = h ∙ sym (g ∙ rests (sum ds) ks ds (sym s.depths ∙ h))

  pub passing_less : (ds es : List ℕ) (f r : Bool) → f ≡ true → LoweredBy ks ds r es → left r es < left f ds
  unfolding left
  passing_less ds es f r e s = subst (λ g. left r es < left g ds) (sym e) (go r s.fell)
    where
      go : (r : Bool) → Fell r ds es → left r es < suc (sum ds)
      go true h = omega arith
      go false h = omega arith
