-- The arguments of a packed key, each through a table: the depth over them, and the key at what they are now.
-- A key q is taken as the entry q * 256, whose digits `packing` reads.
use Rattle.std.specs.Prelude.{◌≡◌, refl, ℕ, zero, suc, ◌+◌, ◌*◌, ◌/◌, ◌%◌, ◌^◌, ◌≤◌, ◌<◌, max, min, List, [], ◌∷◌, map, length, T, ltb, not, ◌⊎◌}
use Rattle.std.proofs.Math.Path.{sym, ap}
use Rattle.std.proofs.Common.{◌∙◌, lt→ltb, ltb→lt, nltb→le, inl, inr}
use native.Mathlib.Omega.{arith}
use Rattle.std.proofs.Math.ListN.{get_or, length-map, get_or-eq_default}
use Rattle.std.proofs.Math.Dec.{not_T}
use Rattle.base.specs.Branch.{if}
use Rattle.base.specs.Lists.{All}
use Rattle.base.specs.BranchLaws.{if_elim, if_true, if_false, decided}
use Rattle.base.specs.ListLaws.{all_get_d, all_get_d_or}
use Rattle.rules.specs.Sheet.{Key, key}
use Rattle.rules.specs.Bound.{depth_over}
use Rattle.images.specs.Storable.{Octet}
use Rattle.packing.specs.Pack.{pack_key, pack_entry}
use Rattle.packing.specs.Replace.{count_of, arg_of, Eight, pack_eight, eight, count_of_lem, arg_of_lem}

-- ---- what the code computes, whatever the number

-- Depths stay far below this: an element's is less than the number of elements.
unfoldable pub one_more : ℕ → ℕ
one_more d = if (ltb d 65536) (λ _. d + 1) (λ _. 65536)

pub one_more_is : (d : ℕ) → one_more d ≡ min (d + 1) 65536
unfolding one_more
one_more_is d = if_elim (λ r. r ≡ min (d + 1) 65536) (ltb d 65536) _ _ (λ t. omega (arith, ltb→lt d 65536 t)) (λ t. omega (arith, nltb→le d 65536 t))

-- One more than the depth of the i-th argument, or 0 if there is none.
unfoldable pub above : List ℕ → ℕ → ℕ → ℕ
above ds x i = if (ltb i (count_of x)) (λ _. one_more (get_or ds (arg_of x i) 0)) (λ _. 0)

unfoldable pub depth_of : List ℕ → ℕ → ℕ
depth_of ds x = max (above ds x 0) (max (above ds x 1) (max (above ds x 2) (above ds x 3)))

-- What the i-th argument is now, or 0 if there is none.
unfoldable pub now_at : List ℕ → ℕ → ℕ → ℕ
now_at hs x i = if (ltb i (count_of x)) (λ _. get_or hs (arg_of x i) 0 % 256) (λ _. 0)

unfoldable pub resolved : List ℕ → ℕ → ℕ
resolved hs x = x / 256 ^ 5 * 256 ^ 4 + now_at hs x 0 * 256 ^ 3 + now_at hs x 1 * 256 ^ 2 + now_at hs x 2 * 256 + now_at hs x 3

above_bound : (ds : List ℕ) (x i : ℕ) → above ds x i ≤ 65536
unfolding above one_more
above_bound ds x i = if_elim (λ r. r ≤ 65536) (ltb i (count_of x)) _ _
    (λ _. if_elim (λ r. r ≤ 65536) (ltb (get_or ds (arg_of x i) 0) 65536) _ _ (λ t. let l = ltb→lt (get_or ds (arg_of x i) 0) 65536 t in omega arith) (λ _. omega arith)) (λ _. omega arith)

pub depth_bound : (ds : List ℕ) (x : ℕ) → depth_of ds x ≤ 65536
unfolding depth_of
depth_bound ds x = omega (arith, above_bound ds x 0, above_bound ds x 1, above_bound ds x 2, above_bound ds x 3)

-- ---- lists of at most four

not_below : (i n : ℕ) → n ≤ i → T (not (ltb i n))
not_below i n h = not_T (ltb i n) (λ t. let l = ltb→lt i n t in omega arith)

get_d_map : (f : ℕ → ℕ) (xs : List ℕ) (i : ℕ) → i < length xs → get_or (map f xs) i 0 ≡ f (get_or xs i 0)
get_d_map f [] i h = absurd (omega arith)
get_d_map f (x ∷ xs) zero h = refl
get_d_map f (x ∷ xs) (suc i) h = get_d_map f xs i (omega arith)

alone : (n : ℕ) → n ≡ max n 0
alone n = omega arith

over_four : (f o : ℕ → ℕ) (xs : List ℕ) → length xs ≤ 4 → ((i : ℕ) → i < 4 → i < length xs → o i ≡ suc (f (get_or xs i 0))) → ((i : ℕ) → i < 4 → length xs ≤ i → o i ≡ 0)
    → max (o 0) (max (o 1) (max (o 2) (o 3))) ≡ depth_over (map f xs)
unfolding depth_over
over_four f o [] l s n = let a = n 0 (omega arith) (omega arith) in let b = n 1 (omega arith) (omega arith) in let c = n 2 (omega arith) (omega arith) in let d = n 3 (omega arith) (omega arith) in rw (a, b, c, d)
over_four f o (x ∷ []) l s n = let a = s 0 (omega arith) (omega arith) in let b = n 1 (omega arith) (omega arith) in let c = n 2 (omega arith) (omega arith) in let d = n 3 (omega arith) (omega arith) in rw (a, b, c, d)
over_four f o (x ∷ y ∷ []) l s n = let a = s 0 (omega arith) (omega arith) in let b = s 1 (omega arith) (omega arith) in let c = n 2 (omega arith) (omega arith) in let d = n 3 (omega arith) (omega arith) in rw (a, b, c, d)
over_four f o (x ∷ y ∷ z ∷ []) l s n = let a = s 0 (omega arith) (omega arith) in let b = s 1 (omega arith) (omega arith) in let c = s 2 (omega arith) (omega arith) in let d = n 3 (omega arith) (omega arith) in rw (a, b, c, d)
over_four f o (x ∷ y ∷ z ∷ u ∷ []) l s n = let a = s 0 (omega arith) (omega arith) in let b = s 1 (omega arith) (omega arith) in let c = s 2 (omega arith) (omega arith) in let d = s 3 (omega arith) (omega arith) in rw (a, b, c, d) (ap (λ m. max (suc (f x)) (max (suc (f y)) (max (suc (f z)) m))) (alone (suc (f u))))
over_four f o (x ∷ y ∷ z ∷ u ∷ v ∷ xs) l s n = absurd (omega arith)

-- ---- a packed key

top : (a b c d e f g : ℕ) → b < 256 → c < 256 → d < 256 → e < 256 → f < 256 → g < 256 → eight a b c d e f g 0 / 256 ^ 5 ≡ (a * 256 + b) * 256 + c
top a b c d e f g pb pc pd pe pf pg = omega arith

module _ (k : Key) (p : Eight (k, 0)) where
  pub as_entry : pack_key k * 256 ≡ pack_entry (k, 0)
  unfolding pack_entry
  as_entry = omega arith

  counted : count_of (pack_key k * 256) ≡ length k.args
  counted = ap count_of as_entry ∙ count_of_lem (k, 0) p

  argued : (i : ℕ) → i < 4 → arg_of (pack_key k * 256) i ≡ get_or k.args i 0
  argued i h = ap (λ x. arg_of x i) as_entry ∙ arg_of_lem (k, 0) p i h

  octet : (i : ℕ) → get_or k.args i 0 < 256
  octet i = all_get_d_or Octet k.args i 0 p.bytes.args (omega arith)

  module _ (ds : List ℕ) (low : All (λ e. get_or ds e 0 < 65536) k.args) where
    above_some : (i : ℕ) → i < 4 → i < length k.args → above ds (pack_key k * 256) i ≡ suc (get_or ds (get_or k.args i 0) 0)
    unfolding above one_more
    above_some i h l =
        if_true (ltb i (count_of (pack_key k * 256))) _ _ (lt→ltb i (count_of (pack_key k * 256)) (omega (arith, counted)))
        ∙ ap (λ a. one_more (get_or ds a 0)) (argued i h)
        ∙ if_true (ltb (get_or ds (get_or k.args i 0) 0) 65536) _ _ (lt→ltb (get_or ds (get_or k.args i 0) 0) 65536 (all_get_d (λ e. get_or ds e 0 < 65536) k.args i 0 l low))
        ∙ (omega arith)

    above_none : (i : ℕ) → i < 4 → length k.args ≤ i → above ds (pack_key k * 256) i ≡ 0
    unfolding above
    above_none i h l = if_false (ltb i (count_of (pack_key k * 256))) _ _ (not_below i (count_of (pack_key k * 256)) (omega (arith, counted)))

    pub depth_is : depth_of ds (pack_key k * 256) ≡ depth_over (map (λ e. get_or ds e 0) k.args)
    unfolding depth_of
    depth_is = over_four (λ e. get_or ds e 0) (above ds (pack_key k * 256)) k.args p.few above_some above_none

  module _ (now : ℕ → ℕ) (hs : List ℕ) (known : All (λ e. (get_or hs e 0 ≡ now e) × (now e < 256)) k.args) where
    now_some : (i : ℕ) → i < 4 → i < length k.args → now_at hs (pack_key k * 256) i ≡ get_or (map now k.args) i 0
    unfolding now_at
    now_some i h l =
        let q = all_get_d (λ e. (get_or hs e 0 ≡ now e) × (now e < 256)) k.args i 0 l known in
        if_true (ltb i (count_of (pack_key k * 256))) _ _ (lt→ltb i (count_of (pack_key k * 256)) (omega (arith, counted)))
        ∙ ap (λ a. get_or hs a 0 % 256) (argued i h) ∙ (omega (arith, q.0, q.1, get_d_map now k.args i l))

    now_none : (i : ℕ) → i < 4 → length k.args ≤ i → now_at hs (pack_key k * 256) i ≡ get_or (map now k.args) i 0
    unfolding now_at
    now_none i h l =
        if_false (ltb i (count_of (pack_key k * 256))) _ _ (not_below i (count_of (pack_key k * 256)) (omega (arith, counted)))
        ∙ sym (get_or-eq_default (map now k.args) 0 (omega (arith, length-map k.args now)))

    now_at_lem : (i : ℕ) → i < 4 → now_at hs (pack_key k * 256) i ≡ get_or (map now k.args) i 0
    now_at_lem i h = go (decided (ltb i (length k.args)))
      where
        go : T (ltb i (length k.args)) ⊎ T (not (ltb i (length k.args))) → now_at hs (pack_key k * 256) i ≡ get_or (map now k.args) i 0
        go (inl t) = now_some i h (ltb→lt i (length k.args) t)
        go (inr t) = now_none i h (nltb→le i (length k.args) t)

    pub resolved_is : resolved hs (pack_key k * 256) ≡ pack_key (key k.kind k.symbol (map now k.args))
    unfolding resolved pack_entry
    resolved_is =
        let e = pack_eight (k, 0) in
        let f = pack_eight (key k.kind k.symbol (map now k.args), 0) in
        let n = length-map k.args now in
        let t = ap (λ x. x / 256 ^ 5) (as_entry ∙ e)
        ∙ top k.kind k.symbol (length k.args) _ _ _ _ p.bytes.symbol (omega (arith, p.few)) (octet 0) (octet 1) (octet 2) (octet 3) in
        let a = now_at_lem 0 (omega arith) in
        let b = now_at_lem 1 (omega arith) in
        let c = now_at_lem 2 (omega arith) in
        let d = now_at_lem 3 (omega arith) in
        omega arith
