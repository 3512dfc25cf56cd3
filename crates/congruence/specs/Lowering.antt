-- The Rust's lowering (`lower` in impl/basic.rs): from elements that fell to the values of keys over them, and so on until none
-- falls. Where each key is at rest or over one of the elements that it starts from, it comes to the depths that passes over all keys
-- come to (`lower`): each of the two is at rest, and what is at rest below the depths at first stays below through both.
use Rattle.std.specs.Prelude.{◌≡◌, refl, ℕ, zero, suc, ◌+◌, ◌≤◌, ◌<◌, min, Bool, true, false, ◌⊎◌, ◌≢◌, length, get_or, set, ltb}
use Rattle.std.proofs.Common.{sym, ap, ◌∙◌, subst, le_refl, length-set, get_or-set_same, ext_get_or, ltb→lt, nltb→le}
use Rattle.std.proofs.Math.Nat.{le_trans}
use Rattle.std.proofs.Math.Decide.{ℕ_discrete}
use native.Mathlib.Omega.{arith}
use Rattle.std.proofs.Math.Logic.{inl, inr}
use mathlib.Core.List.{List, [], ◌∷◌, map}
use Rattle.std.proofs.Math.Seq.{get_or-set_other}
use Rattle.std.proofs.Math.Dec.{T}
use Rattle.base.specs.Branch.{if}
use Rattle.base.specs.Lists.{All, Some, mem, keep}
use Rattle.base.specs.BranchLaws.{if_elim}
use Rattle.base.specs.ListLaws.{all_all, all_both, all_map, all_unmap, in_mem, some_some, some_elim, some_map, map_map, In}
use Rattle.rules.specs.Sheet.{Entry}
use Rattle.rules.specs.Bound.{depth_over, History}
use Rattle.rules.specs.Merge.{rename, rename_entry, merge_depths, sum, lower_by, lower}
use Rattle.soundness.specs.Tools.{set_below, within}
use Rattle.soundness.specs.Settle.{depth_in, given, given_below, set_sum, RestsAt, AtRest, lower_rests, lower_below, lower_length}
use Rattle.congruence.specs.Rounds.{rename_has}

-- ---- the Rust's lowering

-- A depth for an element.
abbrev pub Offer : Type 0
Offer = ℕ × ℕ

-- Depths are set where less is offered, and the elements are pushed.
unfoldable pub rust_fall : List Offer → List ℕ × List ℕ → List ℕ × List ℕ
rust_fall [] r = r
rust_fall (y ∷ ys) r = rust_fall ys (if (ltb y.0 (get_or r.0 y.1 0)) (λ _. (set r.0 y.1 y.0, y.1 ∷ r.1)) (λ _. r))

-- What each key over the element offers its value, at the depths before.
unfoldable pub offers : ℕ → List Entry → List ℕ → List Offer
offers e ks ds = map (λ (x : Entry). (given ds x.0.args, x.1)) (keep (λ (x : Entry). mem e x.0.args) ks)

-- The element that was pushed last is taken first; for at most so many.
unfoldable pub rust_lower : ℕ → List Entry → List ℕ → List ℕ → List ℕ
rust_lower zero ks ds es = ds
rust_lower (suc n) ks ds [] = ds
rust_lower (suc n) ks ds (e ∷ es) = let r = rust_fall (offers e ks ds) (ds, es) in rust_lower n ks r.0 r.1

-- ---- one element

-- No depth rises, and one that changes has its element pushed; offers are met, and each push is paid by a depth that falls. What is
-- below the depths and the offers stays below.
record Fallen (ys : List Offer) (ds es cs fs : List ℕ) : Type 0 where
  below : (e : ℕ) → depth_in cs e ≤ depth_in ds e
  changed : (e : ℕ) → (depth_in cs e ≡ depth_in ds e) ⊎ In e fs
  still : (e : ℕ) → In e es → In e fs
  met : All (λ (y : Offer). depth_in cs y.1 ≤ y.0) ys
  paid : length fs + sum cs ≤ length es + sum ds
  above : (D : ℕ → ℕ) → ((e : ℕ) → D e ≤ depth_in ds e) → All (λ (y : Offer). D y.1 ≤ y.0) ys → (e : ℕ) → D e ≤ depth_in cs e
  long : length cs ≡ length ds

set_above : (D : ℕ → ℕ) (ds : List ℕ) (v n : ℕ) → ((e : ℕ) → D e ≤ get_or ds e 0) → D v ≤ n → (e : ℕ) → D e ≤ get_or (set ds v n) e 0
set_above D [] v n l p e = l e
set_above D (x ∷ xs) zero n l p zero = p
set_above D (x ∷ xs) zero n l p (suc e) = l (suc e)
set_above D (x ∷ xs) (suc v) n l p zero = l zero
set_above D (x ∷ xs) (suc v) n l p (suc e) = set_above (λ i. D (suc i)) xs v n (λ i. l (suc i)) p e

fallen : (ys : List Offer) (ds es : List ℕ) → Fallen ys ds es (rust_fall ys (ds, es)).0 (rust_fall ys (ds, es)).1
unfolding rust_fall
fallen [] ds es = record {
  below = λ e. le_refl _;
  changed = λ e. inl refl;
  still = λ e i. i;
  met = tt;
  paid = le_refl _;
  above = λ D l a. l;
  long = refl;
}
fallen (y ∷ ys) ds es = if_elim (λ (r : List ℕ × List ℕ). Fallen (y ∷ ys) ds es (rust_fall ys r).0 (rust_fall ys r).1) _ _ _
    (λ t. set_fallen (ltb→lt y.0 (get_or ds y.1 0) t) (fallen ys (set ds y.1 y.0) (y.1 ∷ es)))
    (λ t. kept_fallen (nltb→le y.0 (get_or ds y.1 0) t) (fallen ys ds es))
  where
    set_fallen : y.0 < depth_in ds y.1 → {cs fs : List ℕ} → Fallen ys (set ds y.1 y.0) (y.1 ∷ es) cs fs → Fallen (y ∷ ys) ds es cs fs
    set_fallen l g =
        let room = within ds y.1 (omega arith) in
        let at = get_or-set_same ds y.1 y.0 0 room in
        let s = set_sum ds y.1 y.0 (omega arith) in
        record {
          below = λ e. le_trans (g.below e) (set_below ds y.1 y.0 (omega arith) e);
          changed = λ e. elim (g.changed e) [
            | inr i ↦ inr i
            | inl p ↦ elim (ℕ_discrete e y.1) [ yes q ↦ inr (g.still e (inl (sym q))) | no q ↦ inl (p ∙ get_or-set_other ds y.1 e y.0 0 q) ]
          ];
          still = λ e i. g.still e (inr i);
          met = (let b = g.below y.1 in omega arith, g.met);
          paid = let p = g.paid in omega arith;
          above = λ D a o. g.above D (set_above D ds y.1 y.0 a o.0) o.1;
          long = g.long ∙ length-set ds y.1 y.0;
        }

    kept_fallen : depth_in ds y.1 ≤ y.0 → {cs fs : List ℕ} → Fallen ys ds es cs fs → Fallen (y ∷ ys) ds es cs fs
    kept_fallen l g = record {
      below = g.below;
      changed = g.changed;
      still = g.still;
      met = (le_trans (g.below y.1) l, g.met);
      paid = g.paid;
      above = λ D a o. g.above D a o.1;
      long = g.long;
    }

-- ---- all of them

keep_has : {A : Type 0} (P : A → Type 0) (p : A → Bool) (xs : List A) → All P (keep p xs) → All (λ x. T (p x) → P x) xs
unfolding keep if
keep_has P p [] a = tt
keep_has P p (x ∷ xs) a = go (p x) (keep_has P p xs) a
  where
    go : (b : Bool) → (All P (keep p xs) → All (λ y. T (p y) → P y) xs) → All P (if b (λ _. x ∷ keep p xs) (λ _. keep p xs)) → (T b → P x) × All (λ y. T (p y) → P y) xs
    go true r q = (λ _. q.0, r q.1)
    go false r q = (λ z. absurd z, r q)

keep_all : {A : Type 0} (P : A → Type 0) (p : A → Bool) (xs : List A) → All P xs → All P (keep p xs)
unfolding keep
keep_all P p [] a = tt
keep_all P p (x ∷ xs) a = if_elim (All P) _ _ _ (λ _. (a.0, keep_all P p xs a.1)) (λ _. keep_all P p xs a.1)

-- The key is at rest, or over an element that is still to be taken.
abbrev pub Waits : List ℕ → List ℕ → Entry → Type 0
Waits ds es x = RestsAt ds x ⊎ Some (λ a. In a es) x.0.args

-- Where D is no key gives less than D.
abbrev Rests : (ℕ → ℕ) → List Entry → Type 0
Rests D ks = All (λ (x : Entry). D x.1 ≤ depth_over (map D x.0.args)) ks

record Lowered (ks : List Entry) (ds cs : List ℕ) : Type 0 where
  rests : AtRest cs ks
  below : (e : ℕ) → depth_in cs e ≤ depth_in ds e
  above : (D : ℕ → ℕ) → Rests D ks → ((e : ℕ) → D e ≤ depth_in ds e) → (e : ℕ) → D e ≤ depth_in cs e
  long : length cs ≡ length ds

module _ (ks : List Entry) (ds : List ℕ) (e : ℕ) (es cs fs : List ℕ) (g : Fallen (offers e ks ds) ds es cs fs) where
  same_args : (xs : List ℕ) → (map (depth_in cs) xs ≡ map (depth_in ds) xs) ⊎ Some (λ a. In a fs) xs
  same_args [] = inl refl
  same_args (a ∷ xs) = go (g.changed a) (same_args xs)
    where
      go : (depth_in cs a ≡ depth_in ds a) ⊎ In a fs → (map (depth_in cs) xs ≡ map (depth_in ds) xs) ⊎ Some (λ b. In b fs) xs
          → (map (depth_in cs) (a ∷ xs) ≡ map (depth_in ds) (a ∷ xs)) ⊎ Some (λ b. In b fs) (a ∷ xs)
      go (inl p) (inl q) = inl (λ i. p i ∷ q i)
      go (inl p) (inr s) = inr (inr s)
      go (inr i) q = inr (inl i)

  settled : (x : Entry) → depth_in cs x.1 ≤ given ds x.0.args → Waits cs fs x
  settled x l = elim (same_args x.0.args) [ inl q ↦ inl (subst (λ (zs : List ℕ). depth_in cs x.1 ≤ depth_over zs) (sym q) l) | inr s ↦ inr s ]

  -- Over the element that is taken, or over another.
  which : (xs : List ℕ) → Some (λ a. In a (e ∷ es)) xs → In e xs ⊎ Some (λ a. In a es) xs
  which [] s = absurd s.lower
  which (a ∷ xs) (inl (inl p)) = inl (inl (sym p))
  which (a ∷ xs) (inl (inr i)) = inr (inl i)
  which (a ∷ xs) (inr s) = elim (which xs s) [ inl i ↦ inl (inr i) | inr u ↦ inr (inr u) ]

  waits_on : All (Waits ds (e ∷ es)) ks → All (Waits cs fs) ks
  unfolding offers
  waits_on w = all_both (λ (x : Entry). T (mem e x.0.args) → depth_in cs x.1 ≤ given ds x.0.args) (Waits ds (e ∷ es)) (Waits cs fs) one ks
      (keep_has (λ (x : Entry). depth_in cs x.1 ≤ given ds x.0.args) (λ (x : Entry). mem e x.0.args) ks
      (all_unmap (λ (y : Offer). depth_in cs y.1 ≤ y.0) (λ (x : Entry). (given ds x.0.args, x.1)) (keep (λ (x : Entry). mem e x.0.args) ks) g.met)) w
    where
      one : (x : Entry) → (T (mem e x.0.args) → depth_in cs x.1 ≤ given ds x.0.args) → Waits ds (e ∷ es) x → Waits cs fs x
      one x f (inl r) = settled x (le_trans (g.below x.1) r)
      one x f (inr s) = elim (which x.0.args s) [
        | inl i ↦ settled x (f (in_mem e x.0.args i))
        | inr u ↦ inr (some_some (λ a. In a es) (λ a. In a fs) (λ a i. g.still a i) x.0.args u)
      ]

  stays_above : (D : ℕ → ℕ) → Rests D ks → ((a : ℕ) → D a ≤ depth_in ds a) → (a : ℕ) → D a ≤ depth_in cs a
  unfolding offers
  stays_above D r l = g.above D l
      (all_map (λ (x : Entry). D x.1 ≤ given ds x.0.args) (λ (y : Offer). D y.1 ≤ y.0) (λ (x : Entry). (given ds x.0.args, x.1)) (λ x q. q) (keep (λ (x : Entry). mem e x.0.args) ks)
      (keep_all (λ (x : Entry). D x.1 ≤ given ds x.0.args) (λ (x : Entry). mem e x.0.args) ks
      (all_all (λ (x : Entry). D x.1 ≤ depth_over (map D x.0.args)) (λ (x : Entry). D x.1 ≤ given ds x.0.args)
      (λ x q. le_trans q (given_below (depth_in ds) D l x.0.args)) ks r)))

none_wait : (ks : List Entry) (ds : List ℕ) → All (Waits ds []) ks → Lowered ks ds ds
none_wait ks ds w = record {
  rests = all_all (Waits ds []) (RestsAt ds) (λ x q. elim q [ inl r ↦ r | inr s ↦ absurd (some_elim (λ a. In a []) ⊥ (λ a i. i.lower) x.0.args s) ]) ks w;
  below = λ e. le_refl _;
  above = λ D r l. l;
  long = refl;
}

rust_lowered : (n : ℕ) (ks : List Entry) (ds es : List ℕ) → length es + sum ds ≤ n → All (Waits ds es) ks → Lowered ks ds (rust_lower n ks ds es)
unfolding rust_lower
rust_lowered zero ks ds [] l w = none_wait ks ds w
rust_lowered zero ks ds (e ∷ es) l w = absurd (omega arith)
rust_lowered (suc n) ks ds [] l w = none_wait ks ds w
rust_lowered (suc n) ks ds (e ∷ es) l w =
    let g = fallen (offers e ks ds) ds es in
    let q = g.paid in
    let f = rust_fall (offers e ks ds) (ds, es) in
    let r = rust_lowered n ks f.0 f.1 (omega arith) (waits_on ks ds e es _ _ g w) in
    record {
      rests = r.rests;
      below = λ a. le_trans (r.below a) (g.below a);
      above = λ D s a. r.above D s (stays_above ks ds e es _ _ g D s a);
      long = r.long ∙ g.long;
    }

-- ---- passes over all keys keep what is at rest below

lower_by_above : (D : ℕ → ℕ) (ks : List Entry) (ds : List ℕ) → Rests D ks → ((e : ℕ) → D e ≤ depth_in ds e) → (e : ℕ) → D e ≤ depth_in (lower_by ks ds) e
unfolding lower_by
lower_by_above D [] ds r l = l
lower_by_above D (x ∷ xs) ds r l = lower_by_above D xs _ r.1
    (set_above D ds x.1 _ l (let p = l x.1 in let q = r.0 in let z = given_below (depth_in ds) D l x.0.args in omega arith))

lower_above : (n : ℕ) (D : ℕ → ℕ) (ks : List Entry) (ds : List ℕ) → Rests D ks → ((e : ℕ) → D e ≤ depth_in ds e) → (e : ℕ) → D e ≤ depth_in (lower n ks ds) e
unfolding lower
lower_above zero D ks ds r l e = l e
lower_above (suc n) D ks ds r l e =
    if_elim (λ (q : List ℕ). D e ≤ depth_in q e) _ _ _ (λ _. l e) (λ _. lower_above n D ks (lower_by ks ds) r (lower_by_above D ks ds r l) e)

pub rust_lowers : (n : ℕ) (ks : List Entry) (ds es : List ℕ) → length es + sum ds ≤ n → All (Waits ds es) ks → rust_lower n ks ds es ≡ lower (sum ds) ks ds
rust_lowers n ks ds es l w =
    let g = rust_lowered n ks ds es l w in
    ext_get_or 0 (rust_lower n ks ds es) (lower (sum ds) ks ds) (g.long ∙ sym (lower_length (sum ds) ks ds)) (λ e _.
    let p = lower_above (sum ds) (depth_in (rust_lower n ks ds es)) ks ds g.rests g.below e in
    let q = g.above (depth_in (lower (sum ds) ks ds)) (lower_rests (sum ds) ks ds (le_refl _)) (lower_below (sum ds) ks ds) e in omega arith)

-- ---- what a round of merging leaves to be lowered

set_at : (ds : List ℕ) (v n : ℕ) → get_or (set ds v n) v 0 ≤ n
set_at [] v n = omega arith
set_at (x ∷ xs) zero n = le_refl n
set_at (x ∷ xs) (suc v) n = set_at xs v n

-- Where l becomes s, only the depth of s may fall: a key that rests goes on resting, or is over s.
module _ (s l : ℕ) (apart : s ≢ l) (ds : List ℕ) (h : History) (own : h s ≡ s) (ws : List ℕ) where
  abbrev r : ℕ → ℕ
  r = rename s l

  abbrev cs : List ℕ
  cs = merge_depths s l ds

  abbrev fs : List ℕ
  fs = map (λ e. r (h e)) (s ∷ ws)

  smaller : depth_in cs s ≤ min (depth_in ds s) (depth_in ds l)
  unfolding merge_depths
  smaller =
      let p = get_or-set_other (set ds s (min (depth_in ds s) (depth_in ds l))) l s 0 0 apart in
      let q = set_at ds s (min (depth_in ds s) (depth_in ds l)) in omega arith

  others : (e : ℕ) → e ≢ s → e ≢ l → depth_in cs e ≡ depth_in ds e
  unfolding merge_depths
  others e p q = get_or-set_other (set ds s (min (depth_in ds s) (depth_in ds l))) l e 0 0 q ∙ get_or-set_other ds s e (min (depth_in ds s) (depth_in ds l)) 0 p

  value_falls : (v : ℕ) → depth_in cs (r v) ≤ depth_in ds v
  value_falls = rename_has (λ v w. depth_in cs w ≤ depth_in ds v) s l (let p = smaller in omega arith)
      (λ e d. elim (ℕ_discrete e s) [ yes q ↦ subst (λ z. depth_in cs z ≤ depth_in ds z) (sym q) (let p = smaller in omega arith) | no q ↦ (let p = others e q d in omega arith) ])

  arg_same : (x : ℕ) → (depth_in cs (r x) ≡ depth_in ds x) ⊎ (r x ≡ s)
  arg_same = rename_has (λ x y. (depth_in cs y ≡ depth_in ds x) ⊎ (y ≡ s)) s l (inr refl) (λ e d. elim (ℕ_discrete e s) [ yes q ↦ inr q | no q ↦ inl (others e q d) ])

  args_same : (xs : List ℕ) → (map (depth_in cs) (map r xs) ≡ map (depth_in ds) xs) ⊎ Some (λ y. y ≡ s) (map r xs)
  args_same [] = inl refl
  args_same (x ∷ xs) = go (arg_same x) (args_same xs)
    where
      go : (depth_in cs (r x) ≡ depth_in ds x) ⊎ (r x ≡ s) → (map (depth_in cs) (map r xs) ≡ map (depth_in ds) xs) ⊎ Some (λ y. y ≡ s) (map r xs)
          → (map (depth_in cs) (map r (x ∷ xs)) ≡ map (depth_in ds) (x ∷ xs)) ⊎ Some (λ y. y ≡ s) (map r (x ∷ xs))
      go (inl p) (inl q) = inl (λ i. p i ∷ q i)
      go (inl p) (inr u) = inr (inr u)
      go (inr p) q = inr (inl p)

  listed : (y : ℕ) → y ≡ s → In y fs
  listed y p = inl (ap r own ∙ rename_has (λ x z. x ≡ s → z ≡ s) s l (λ _. refl) (λ _ _ q. q) s refl ∙ sym p)

  carried : (x : ℕ) → In x (map h ws) → In (r x) fs
  carried x i = inr (subst (In (r x)) (map_map r h ws) (some_map (λ y. y ≡ x) (λ y. y ≡ r x) r (λ y p. ap r p) (map h ws) i))

  pub round_waits : (x : Entry) → Waits ds (map h ws) x → Waits cs fs (rename_entry s l x)
  unfolding rename_entry
  round_waits x (inl q) = elim (args_same x.0.args) [
    | inl p ↦ inl (subst (λ (zs : List ℕ). depth_in cs (r x.1) ≤ depth_over zs) (sym p) (le_trans (value_falls x.1) q))
    | inr u ↦ inr (some_some (λ y. y ≡ s) (λ y. In y fs) listed (map r x.0.args) u)
  ]
  round_waits x (inr u) = inr (some_map (λ y. In y (map h ws)) (λ y. In y fs) r carried x.0.args u)
