-- Entries brought back among those that stayed in the table, from the greatest down: the places behind those that stayed are free,
-- and the greatest of all that are left goes to the last of them.
use Rattle.std.specs.Prelude.{◌≡◌, refl, length, drop, set}
use Rattle.std.proofs.Common.{sym, ap₂, ◌∙◌, subst₂, le_refl, length-set, take_all, take-append-drop, drop_of_length-le, take-suc, drop-cons, drop-set-lt, get_or-set_same, get_or-take, take-take, length-take-le, lt-length-set}
use Rattle.std.proofs.Math.Path.{ap, subst}
use Prim.Native.Nat.{ℕ, zero, suc, ◌+◌, ◌-◌, ◌≤◌, ◌<◌}
use native.Mathlib.Omega.{arith}
use mathlib.Core.List.{List, [], ◌∷◌, ◌++◌, append-nil, append_assoc}
use Rattle.std.proofs.Math.ListN.{get_or, take}
use Rattle.std.proofs.Math.Seq.{append_snoc}
use Rattle.std.proofs.lemmas.List.{take-set-le}
use Rattle.base.specs.Lists.{All}
use Rattle.base.specs.ListLaws.{all_all, all_append, all_take, all_get_d}
use Rattle.renaming.specs.Order.{order_in, Sorted, order_same, order_greatest}

-- The entry before place i; before the first, 0.
unfoldable pub last_of : List ℕ → ℕ → ℕ
last_of t zero = 0
last_of t (suc d) = get_or t d 0

pub last_none : (t : List ℕ) (i : ℕ) → i ≡ 0 → 0 ≡ last_of t i
unfolding last_of
last_none t zero e = refl
last_none t (suc d) e = absurd (omega arith)

pub last_some : (t : List ℕ) (i : ℕ) → (i ≡ 0 → ⊥) → get_or t (i - 1) 0 ≡ last_of t i
unfolding last_of
last_some t zero n = absurd (n refl)
last_some t (suc d) n = let e : suc d - 1 ≡ d = omega arith in ap (λ j. get_or t j 0) e

-- What is above another is some entry.
pub last_above : (t : List ℕ) (i x y : ℕ) → y ≡ last_of t i → x < y → 0 < i
unfolding last_of
last_above t zero x y e h = absurd (omega arith)
last_above t (suc d) x y e h = omega arith

-- ---- in order

-- No entry is above a later one.
pub up_to_lem : (xs : List ℕ) → Sorted xs → (i : ℕ) → i < length xs → All (λ y. y ≤ get_or xs i 0) (take (suc i) xs)
unfolding Sorted
up_to_lem [] s i h = absurd (omega arith)
up_to_lem (x ∷ xs) s zero h = (le_refl x, tt)
up_to_lem (x ∷ xs) s (suc i) h = (all_get_d (λ y. x ≤ y) xs i 0 (omega arith) s.0, up_to_lem xs s.1 i (omega arith))

pub sorted_take : (i : ℕ) (xs : List ℕ) → Sorted xs → Sorted (take i xs)
unfolding Sorted
sorted_take zero xs s = tt
sorted_take (suc i) [] s = tt
sorted_take (suc i) (x ∷ xs) s = (all_take (λ y. x ≤ y) i xs s.0, sorted_take i xs s.1)

before_at : (xs : List ℕ) → Sorted xs → (i : ℕ) → i < length xs → All (λ y. y ≤ get_or xs i 0) (take i xs)
before_at xs s i h = subst (All (λ y. y ≤ get_or xs i 0)) (take-take i (suc i) xs (omega arith)) (all_take (λ y. y ≤ get_or xs i 0) i (take (suc i) xs) (up_to_lem xs s i h))

-- ---- the loop

-- Those that stayed where some went.
abbrev pub Stayed : List ℕ → ℕ → List ℕ
Stayed t gone = take (length t - gone) t

-- i of those that stayed and j of those that went are left.
pub record Bringing (t₀ c : List ℕ) (i j : ℕ) (t : List ℕ) : Type 0 where
  pub stay : i + length c ≤ length t₀
  pub fewer : j ≤ length c
  pub size : length t ≡ length t₀
  pub front : take i t ≡ take i (Stayed t₀ (length c))
  pub rest : order_in (take i (Stayed t₀ (length c)) ++ take j c) ++ drop (i + j) t ≡ order_in (Stayed t₀ (length c) ++ c)

drop_set_same : (t : List ℕ) (k v : ℕ) → k < length t → drop k (set t k v) ≡ v ∷ drop (suc k) t
drop_set_same t k v h =
    drop-cons (set t k v) k 0 (lt-length-set t k v h)
    ∙ ap₂ (λ (y : ℕ) (l : List ℕ). y ∷ l) (get_or-set_same t k v 0 h) (drop-set-lt (suc k) t k v (omega arith))

module _ (t₀ c : List ℕ) (few : length c ≤ length t₀) (su : Sorted (Stayed t₀ (length c))) (sc : Sorted c) where
  abbrev U : List ℕ
  U = Stayed t₀ (length c)

  many : length U ≡ length t₀ - length c
  many = length-take-le (length t₀ - length c) t₀ (omega arith)

  pub bringing_start : Bringing t₀ c (length t₀ - length c) (length c) t₀
  bringing_start =
      let e : length t₀ - length c + length c ≡ length t₀ = omega arith in
      record {
        stay = omega arith;
        fewer = omega arith;
        size = refl;
        front = sym (take-take (length t₀ - length c) (length t₀ - length c) t₀ (omega arith));
        rest =
            ap₂ (λ (u v : List ℕ). order_in (u ++ v) ++ drop (length t₀ - length c + length c) t₀) (take-take (length t₀ - length c) (length t₀ - length c) t₀ (omega arith)) (take_all (length c) c (omega arith))
            ∙ ap (λ (l : List ℕ). order_in (U ++ c) ++ l) (drop_of_length-le t₀ {i = length t₀ - length c + length c} (omega arith)) ∙ append-nil (order_in (U ++ c));
      }

  -- One more entry in its place, of which all that are left are no greater.
  placed : (i j : ℕ) (t : List ℕ) → Bringing t₀ c i j t → (i' j' y : ℕ) → i' ≤ i → j' ≤ j → suc (i' + j') ≡ i + j
      → order_in (take i U ++ take j c) ≡ order_in (take i' U ++ take j' c) ++ (y ∷ []) → Bringing t₀ c i' j' (set t (i' + j') y)
  placed i j t p i' j' y hi hj e o =
      let k = i' + j' in
      let within : k < length t = omega (arith, p.stay, p.fewer, p.size) in
      record {
        stay = omega (arith, p.stay);
        fewer = omega (arith, p.fewer);
        size = simp length-set p.size;
        front = take-set-le i' t k y (omega arith) ∙ sym (take-take i' i t hi) ∙ ap (take i') p.front ∙ take-take i' i U hi;
        rest =
            ap (λ (l : List ℕ). order_in (take i' U ++ take j' c) ++ l) (drop_set_same t k y within ∙ ap (λ m. y ∷ drop m t) e)
            ∙ sym (append_snoc (order_in (take i' U ++ take j' c)) y (drop (i + j) t))
            ∙ ap (λ (l : List ℕ). l ++ drop (i + j) t) (sym o) ∙ p.rest;
      }

  stayed_at : (d j : ℕ) (t : List ℕ) → Bringing t₀ c (suc d) j t → get_or t d 0 ≡ get_or U d 0
  stayed_at d j t p =
      sym (get_or-take (suc d) t d 0 (omega arith)) ∙ ap (λ (l : List ℕ). get_or l d 0) p.front ∙ get_or-take (suc d) U d 0 (omega arith)

  -- The last that stayed is above the last that went: it moves up.
  up : (d m : ℕ) (t : List ℕ) → Bringing t₀ c (suc d) (suc m) t → get_or c m 0 < get_or t d 0 → Bringing t₀ c d (suc m) (set t (d + suc m) (get_or t d 0))
  up d m t p h =
      let y = get_or t d 0 in
      let ey = stayed_at d (suc m) t p in
      let lows : All (λ z. z ≤ y) (take d U) = subst (λ e. All (λ z. z ≤ e) (take d U)) (sym ey) (before_at U su d (omega (arith, many, p.stay))) in
      let lower : All (λ z. z ≤ y) (take (suc m) c) = all_all (λ z. z ≤ get_or c m 0) (λ z. z ≤ y) (λ z q. omega arith) (take (suc m) c) (up_to_lem c sc m (omega (arith, p.fewer))) in
      placed (suc d) (suc m) t p d (suc m) y (omega arith) (omega arith) (omega arith)
      (ap (λ (l : List ℕ). order_in (l ++ take (suc m) c)) (take-suc U d 0 (omega (arith, many, p.stay)) ∙ ap (λ e. take d U ++ (e ∷ [])) (sym ey))
      ∙ ap order_in (append_snoc (take d U) y (take (suc m) c)) ∙ order_greatest (take d U) y (take (suc m) c) lows lower)

  -- It is not, or none is left that stayed: the last that went comes back.
  back : (i m : ℕ) (t : List ℕ) → Bringing t₀ c i (suc m) t → last_of t i ≤ get_or c m 0 → Bringing t₀ c i m (set t (i + m) (get_or c m 0))
  unfolding last_of
  back i m t p h =
      let x = get_or c m 0 in
      let lower : All (λ z. z ≤ x) (take m c) = before_at c sc m (omega (arith, p.fewer)) in
      placed i (suc m) t p i m x (omega arith) (omega arith) (omega arith)
      (ap (λ (l : List ℕ). order_in (take i U ++ l)) (take-suc c m 0 (omega (arith, p.fewer)))
      ∙ ap order_in (sym (append_assoc (take i U) (take m c) (x ∷ [])))
      ∙ order_greatest (take i U ++ take m c) x [] (all_append (λ z. z ≤ x) (take i U) (take m c) (lows i p h) lower) tt
      ∙ ap (λ (l : List ℕ). order_in l ++ (x ∷ [])) (append-nil (take i U ++ take m c)))
    where
      lows : (i : ℕ) → Bringing t₀ c i (suc m) t → last_of t i ≤ get_or c m 0 → All (λ z. z ≤ get_or c m 0) (take i U)
      lows zero p h = tt
      lows (suc d) p h =
          let ey = stayed_at d (suc m) t p in
          all_all (λ z. z ≤ get_or U d 0) (λ z. z ≤ get_or c m 0) (λ z q. omega arith) (take (suc d) U) (up_to_lem U su d (omega (arith, many, p.stay)))

  -- Both, as the loop has them: x went last, and y stayed last.
  module _ (i j x y : ℕ) (t : List ℕ) (p : Bringing t₀ c i j t) (some : 0 < j) (ex : x ≡ get_or c (j - 1) 0) (ey : y ≡ last_of t i) where
    pub bringing_up : x < y → Bringing t₀ c (i - 1) j (set t (i - 1 + j) y)
    unfolding last_of
    bringing_up h = go i j p some ex ey
      where
        go : (i j : ℕ) → Bringing t₀ c i j t → 0 < j → x ≡ get_or c (j - 1) 0 → y ≡ last_of t i → Bringing t₀ c (i - 1) j (set t (i - 1 + j) y)
        go i zero q s u v = absurd (omega arith)
        go zero (suc m) q s u v = absurd (omega arith)
        go (suc d) (suc m) q s u v =
            let ed : d ≡ suc d - 1 = omega arith in
            let em : suc m - 1 ≡ m = omega arith in
            subst (λ z. Bringing t₀ c (suc d - 1) (suc m) (set t (suc d - 1 + suc m) z)) (sym v)
            (subst (λ k. Bringing t₀ c k (suc m) (set t (k + suc m) (get_or t d 0))) ed
            (up d m t q (subst₂ (λ g k. g < k) (u ∙ ap (λ k. get_or c k 0) em) v h)))

    pub bringing_back : y ≤ x → Bringing t₀ c i (j - 1) (set t (i + (j - 1)) x)
    bringing_back h = go j p some ex
      where
        go : (j : ℕ) → Bringing t₀ c i j t → 0 < j → x ≡ get_or c (j - 1) 0 → Bringing t₀ c i (j - 1) (set t (i + (j - 1)) x)
        go zero q s u = absurd (omega arith)
        go (suc m) q s u =
            let em : m ≡ suc m - 1 = omega arith in
            let e : x ≡ get_or c m 0 = u ∙ ap (λ k. get_or c k 0) (sym em) in
            subst (λ z. Bringing t₀ c i (suc m - 1) (set t (i + (suc m - 1)) z)) (sym e)
            (subst (λ k. Bringing t₀ c i k (set t (i + k) (get_or c m 0))) em (back i m t q (subst₂ (λ g k. g ≤ k) ey e h)))

  pub bringing_end : (i j : ℕ) (t : List ℕ) → Bringing t₀ c i j t → j ≡ 0 → t ≡ order_in (U ++ c)
  bringing_end i j t p e =
      let z : i + j ≡ i = omega arith in
      sym (take-append-drop i t)
      ∙ ap (λ (l : List ℕ). l ++ drop i t) (p.front ∙ sym (order_same (take i U) (sorted_take i U su)) ∙ ap order_in (sym (append-nil (take i U))))
      ∙ ap₂ (λ (m k : ℕ). order_in (take i U ++ take m c) ++ drop k t) (sym e) (sym z)
      ∙ p.rest
