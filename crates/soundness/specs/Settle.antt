-- Lowering depths comes to rest, and keeps each depth reached by some key: at rest no key gives less, so that each depth is the
-- least over the element's keys. A pass that keeps the sum of the depths changes nothing, and any other pass lowers the sum.
use Rattle.std.specs.Prelude.{◌≡◌, refl, ℕ, zero, suc, ◌+◌, ◌≤◌, min, List, [], ◌∷◌, map, length, get_or, set}
use Rattle.std.proofs.Common.{sym, ap, ◌∙◌, subst, le_refl, le_trans, arith, length-set, eqb→eq, get_or-set_same, get_or-set_other}
use Rattle.std.proofs.Math.Decide.{dec_le, ℕ_discrete}
use Rattle.std.proofs.lemmas.List.{set-get_or}
use Rattle.base.specs.Lists.{All, Some}
use Rattle.base.specs.BranchLaws.{if_elim, neqb→ne}
use Rattle.base.specs.ListLaws.{some_some, In, in_some, all_in}
use Rattle.rules.specs.Sheet.{Entry}
use Rattle.rules.specs.Bound.{depth_over}
use Rattle.rules.specs.Merge.{lower_by, lower, sum}
use Rattle.soundness.specs.Tools.{set_below, within}

-- An element's depth, and the depth that a key over some elements gives.
abbrev pub depth_in : List ℕ → ℕ → ℕ
depth_in ds e = get_or ds e 0

abbrev pub given : List ℕ → List ℕ → ℕ
given ds xs = depth_over (map (λ e. get_or ds e 0) xs)

-- Shallower arguments give no more.
pub given_below : (f g : ℕ → ℕ) → ((e : ℕ) → g e ≤ f e) → (xs : List ℕ) → depth_over (map g xs) ≤ depth_over (map f xs)
unfolding depth_over
given_below f g l [] = le_refl 0
given_below f g l (x ∷ xs) = let p = l x in let q = given_below f g l xs in omega arith

-- The key gives no less than its value's depth; it yields the element and gives no more than its depth.
abbrev pub RestsAt : List ℕ → Entry → Type 0
RestsAt ds x = depth_in ds x.1 ≤ given ds x.0.args

abbrev pub ReachedBy : List ℕ → ℕ → Entry → Type 0
ReachedBy ds e x = (x.1 ≡ e) × (given ds x.0.args ≤ depth_in ds e)

-- No key gives less than the depth is.
abbrev pub AtRest : List ℕ → List Entry → Type 0
AtRest ds ks = All (RestsAt ds) ks

-- Some key gives no more.
abbrev pub Reached : List ℕ → List Entry → ℕ → Type 0
Reached ds ks e = Some (ReachedBy ds e) ks

-- ---- what one key lowers

abbrev lowest : Entry → List ℕ → ℕ
lowest x ds = min (depth_in ds x.1) (given ds x.0.args)

abbrev lower_at : Entry → List ℕ → List ℕ
lower_at x ds = set ds x.1 (lowest x ds)

lower_at_below : (x : Entry) (ds : List ℕ) (e : ℕ) → depth_in (lower_at x ds) e ≤ depth_in ds e
lower_at_below x ds = set_below ds x.1 (lowest x ds) (omega arith)

pub set_sum : (ds : List ℕ) (v n : ℕ) → n ≤ depth_in ds v → sum (set ds v n) + depth_in ds v ≡ sum ds + n
unfolding sum
set_sum [] v n l = omega arith
set_sum (x ∷ xs) zero n l = omega arith
set_sum (x ∷ xs) (suc v) n l = let r = set_sum xs v n l in omega arith

lower_at_sum : (x : Entry) (ds : List ℕ) → sum (lower_at x ds) ≤ sum ds
lower_at_sum x ds = let r = set_sum ds x.1 (lowest x ds) (omega arith) in omega arith

lower_at_same : (x : Entry) (ds : List ℕ) → sum (lower_at x ds) ≡ sum ds → (depth_in ds x.1 ≤ given ds x.0.args) × (lower_at x ds ≡ ds)
lower_at_same x ds e =
    let r = set_sum ds x.1 (lowest x ds) (omega arith) in
    let q : lowest x ds ≡ depth_in ds x.1 = omega arith in
    (omega arith, ap (set ds x.1) q ∙ set-get_or ds x.1 0)

lower_at_reached : (ks : List Entry) (x : Entry) → In x ks → (ds : List ℕ) (e : ℕ) → Reached ds ks e → Reached (lower_at x ds) ks e
lower_at_reached ks x i ds e r = go (dec_le (depth_in ds x.1) (given ds x.0.args)) (ℕ_discrete e x.1)
  where
    less : (xs : List ℕ) → given (lower_at x ds) xs ≤ given ds xs
    less = given_below (depth_in ds) (depth_in (lower_at x ds)) (lower_at_below x ds)

    go : Dec (depth_in ds x.1 ≤ given ds x.0.args) → Dec (e ≡ x.1) → Reached (lower_at x ds) ks e
    go (yes l) d =
        let q : lowest x ds ≡ depth_in ds x.1 = omega arith in
        subst (λ es. Reached es ks e) (sym (ap (set ds x.1) q ∙ set-get_or ds x.1 0)) r
    go (no l) (yes p) =
        let s = get_or-set_same ds x.1 (lowest x ds) 0 (within ds x.1 (omega arith)) in
        let t = less x.0.args in
        let u = ap (depth_in (lower_at x ds)) p in
        in_some (ReachedBy (lower_at x ds) e) x ks i (sym p, omega arith)
    go (no l) (no p) =
        let s = get_or-set_other ds x.1 e (lowest x ds) 0 p in
        some_some (ReachedBy ds e) (ReachedBy (lower_at x ds) e)
        (λ y q. (q.0, let t = less y.0.args in let z = q.1 in omega arith)) ks r

-- ---- a pass

lower_by_sum : (ks : List Entry) (ds : List ℕ) → sum (lower_by ks ds) ≤ sum ds
unfolding lower_by
lower_by_sum [] ds = le_refl _
lower_by_sum (x ∷ xs) ds = le_trans (lower_by_sum xs (lower_at x ds)) (lower_at_sum x ds)

lower_by_same : (ks : List Entry) (ds : List ℕ) → sum (lower_by ks ds) ≡ sum ds → AtRest ds ks × (lower_by ks ds ≡ ds)
unfolding lower_by
lower_by_same [] ds e = (tt, refl)
lower_by_same (x ∷ xs) ds e =
    let a = lower_at_sum x ds in
    let b = lower_by_sum xs (lower_at x ds) in
    let p = lower_at_same x ds (omega arith) in
    let q = lower_by_same xs (lower_at x ds) (omega arith) in
    ((p.0, subst (λ es. AtRest es xs) p.1 q.0), q.1 ∙ p.1)

lower_by_below : (ks : List Entry) (ds : List ℕ) (e : ℕ) → depth_in (lower_by ks ds) e ≤ depth_in ds e
unfolding lower_by
lower_by_below [] ds e = le_refl _
lower_by_below (x ∷ xs) ds e = le_trans (lower_by_below xs (lower_at x ds) e) (lower_at_below x ds e)

lower_by_reached : (ks js : List Entry) → All (λ x. In x ks) js → (ds : List ℕ) (e : ℕ) → Reached ds ks e → Reached (lower_by js ds) ks e
unfolding lower_by
lower_by_reached ks [] a ds e r = r
lower_by_reached ks (x ∷ js) a ds e r = lower_by_reached ks js a.1 (lower_at x ds) e (lower_at_reached ks x a.0 ds e r)

lower_by_length : (ks : List Entry) (ds : List ℕ) → length (lower_by ks ds) ≡ length ds
unfolding lower_by
lower_by_length [] ds = refl
lower_by_length (x ∷ xs) ds = lower_by_length xs (lower_at x ds) ∙ length-set ds x.1 (lowest x ds)

-- ---- passes until none lowers

pub lower_rests : (n : ℕ) (ks : List Entry) (ds : List ℕ) → sum ds ≤ n → AtRest (lower n ks ds) ks
unfolding lower
lower_rests zero ks ds l = let b = lower_by_sum ks ds in (lower_by_same ks ds (omega arith)).0
lower_rests (suc n) ks ds l =
    if_elim (λ r. AtRest r ks) _ _ _
    (λ t. (lower_by_same ks ds (eqb→eq (sum (lower_by ks ds)) (sum ds) t)).0)
    (λ t. let b = lower_by_sum ks ds in let d = neqb→ne (sum (lower_by ks ds)) (sum ds) t in lower_rests n ks (lower_by ks ds) (omega arith))

pub lower_reached : (n : ℕ) (ks : List Entry) (ds : List ℕ) (e : ℕ) → Reached ds ks e → Reached (lower n ks ds) ks e
unfolding lower
lower_reached zero ks ds e r = r
lower_reached (suc n) ks ds e r =
    if_elim (λ q. Reached q ks e) _ _ _ (λ _. r) (λ _. lower_reached n ks (lower_by ks ds) e (lower_by_reached ks ks (all_in ks) ds e r))

pub lower_below : (n : ℕ) (ks : List Entry) (ds : List ℕ) (e : ℕ) → depth_in (lower n ks ds) e ≤ depth_in ds e
unfolding lower
lower_below zero ks ds e = le_refl _
lower_below (suc n) ks ds e =
    if_elim (λ q. depth_in q e ≤ depth_in ds e) _ _ _ (λ _. le_refl _) (λ _. le_trans (lower_below n ks (lower_by ks ds) e) (lower_by_below ks ds e))

pub lower_length : (n : ℕ) (ks : List Entry) (ds : List ℕ) → length (lower n ks ds) ≡ length ds
unfolding lower
lower_length zero ks ds = refl
lower_length (suc n) ks ds =
    if_elim (λ (q : List ℕ). length q ≡ length ds) _ _ _ (λ _. refl) (λ _. lower_length n ks (lower_by ks ds) ∙ lower_by_length ks ds)
