-- Facts may be filed in any order: an entry whose value is 0 is told by its key, and it does not matter which goes in first.
use Rattle.std.specs.Prelude.{◌≡◌, refl, ℕ, ◌<◌, List, [], ◌∷◌}
use Rattle.std.proofs.Common.{sym, ap, ap₂, ◌∙◌, arith}
use Rattle.std.proofs.Math.Decide.{dec_lt}
use Rattle.base.specs.Lists.{All}
use Rattle.packing.specs.Compare.{three_ways}
use Rattle.packing.specs.Replace.{key_of, value_of}
use Rattle.tables.specs.Table.{put_in}
use Rattle.renaming.specs.Order.{insert_in, order_in, insert_cases, order_all}
use Rattle.filing.specs.File.{refact_in}

-- Before the first entry, over it, or behind it.
put_low : (e x : ℕ) (xs : List ℕ) → key_of e < key_of x → put_in e (x ∷ xs) ≡ e ∷ x ∷ xs
unfolding put_in
put_low e x xs h = three_ways (λ (l : List ℕ). l ≡ e ∷ x ∷ xs) (key_of e) (key_of x) _ _ _ (λ _. refl) (λ g. absurd (omega arith)) (λ g. absurd (omega arith))

put_same : (e x : ℕ) (xs : List ℕ) → key_of e ≡ key_of x → put_in e (x ∷ xs) ≡ e ∷ xs
unfolding put_in
put_same e x xs h = three_ways (λ (l : List ℕ). l ≡ e ∷ xs) (key_of e) (key_of x) _ _ _ (λ g. absurd (omega arith)) (λ _. refl) (λ g. absurd (omega arith))

put_high : (e x : ℕ) (xs : List ℕ) → key_of x < key_of e → put_in e (x ∷ xs) ≡ x ∷ put_in e xs
unfolding put_in
put_high e x xs h = three_ways (λ (l : List ℕ). l ≡ x ∷ put_in e xs) (key_of e) (key_of x) _ _ _ (λ g. absurd (omega arith)) (λ g. absurd (omega arith)) (λ _. refl)

-- Of two entries with different keys it does not matter which goes in first.
lower_first : (a b : ℕ) (t : List ℕ) → key_of a < key_of b → put_in a (put_in b t) ≡ put_in b (put_in a t)
unfolding put_in
lower_first a b [] h = put_low a b [] h ∙ sym (put_high b a [] h)
lower_first a b (z ∷ t) h = three_ways (λ (l : List ℕ). put_in a l ≡ put_in b (put_in a (z ∷ t))) (key_of b) (key_of z) _ _ _
    (λ g. put_low a b (z ∷ t) h ∙ sym (ap (put_in b) (put_low a z t (omega arith)) ∙ put_high b a (z ∷ t) h ∙ ap (λ (l : List ℕ). a ∷ l) (put_low b z t g)))
    (λ g. put_low a b t h ∙ sym (ap (put_in b) (put_low a z t (omega arith)) ∙ put_high b a (z ∷ t) h ∙ ap (λ (l : List ℕ). a ∷ l) (put_same b z t g)))
    (λ g. three_ways (λ (l : List ℕ). l ≡ put_in b (put_in a (z ∷ t))) (key_of a) (key_of z) _ _ _
    (λ k. sym (ap (put_in b) (put_low a z t k) ∙ put_high b a (z ∷ t) h ∙ ap (λ (l : List ℕ). a ∷ l) (put_high b z t g)))
    (λ k. sym (ap (put_in b) (put_same a z t k) ∙ put_high b a t h))
    (λ k. ap (λ (l : List ℕ). z ∷ l) (lower_first a b t h) ∙ sym (ap (put_in b) (put_high a z t k) ∙ put_high b z (put_in a t) g)))

-- Its value is 0, as a fact's is.
abbrev pub Plain : ℕ → Type 0
Plain x = value_of x ≡ 0

either_first : (a b : ℕ) (t : List ℕ) → Plain a → Plain b → put_in a (put_in b t) ≡ put_in b (put_in a t)
either_first a b t p q = elim (dec_lt (key_of a) (key_of b)) [
  | yes h ↦ lower_first a b t h
  | no h ↦ elim (dec_lt (key_of b) (key_of a)) [
    | yes k ↦ sym (lower_first b a t k)
    | no k ↦ (let e : a ≡ b = omega arith in ap₂ (λ (x y : ℕ). put_in x (put_in y t)) e (sym e))
  ]
]

refact_insert : (x : ℕ) (ys done : List ℕ) → Plain x → All Plain ys → refact_in (insert_in x ys) done ≡ refact_in ys (put_in x done)
unfolding insert_in refact_in
refact_insert x [] done p a = refl
refact_insert x (y ∷ ys) done p a = insert_cases (λ (l : List ℕ). refact_in l done ≡ refact_in ys (put_in y (put_in x done))) x y ys (λ _. refl)
    (λ _. refact_insert x ys (put_in y done) p a.1 ∙ ap (refact_in ys) (either_first x y done p a.0))

pub refact_order : (xs done : List ℕ) → All Plain xs → refact_in (order_in xs) done ≡ refact_in xs done
unfolding order_in refact_in
refact_order [] done a = refl
refact_order (x ∷ xs) done a = refact_insert x (order_in xs) done a.0 (order_all Plain xs a.1) ∙ refact_order xs (put_in x done) a.1
