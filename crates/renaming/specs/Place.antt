-- One element renamed at one place of an entry. A place is told by its weight: the value's is 1, the arguments' are 256 and its
-- powers. An entry that is changed gets lower, and of two that are changed the lower stays the lower.
use Rattle.std.specs.Prelude.{◌≡◌, refl, ℕ, ◌+◌, ◌-◌, ◌*◌, ◌/◌, ◌%◌, ◌^◌, ◌≤◌, ◌<◌, not, ◌⊎◌, T, eqb}
use Rattle.std.proofs.Common.{sym, ap, ◌∙◌, arith, le_trans, mul-le-mul_right, div-mul-le_self, inl, inr, eqb→eq}
use Rattle.std.proofs.Math.Dec.{not_T}
use Rattle.base.specs.Branch.{if}
use Rattle.base.specs.BranchLaws.{if_elim, if_true, if_false, decided, eq→eqb}
use Rattle.rules.specs.Merge.{rename}
use Rattle.packing.specs.Replace.{arg_of, value_of, replaced, rename_octet}

unfoldable pub replaced_at : (p s l x : ℕ) → ℕ
replaced_at p s l x = if (eqb (x / p % 256) l) (λ _. x - (l - s) * p) (λ _. x)

pub at_there : (p s l x : ℕ) → x / p % 256 ≡ l → x - (l - s) * p ≡ replaced_at p s l x
unfolding replaced_at
at_there p s l x e = sym (if_true (eqb (x / p % 256) l) _ _ (eq→eqb (x / p % 256) l e))

pub at_other : (p s l x : ℕ) → (x / p % 256 ≡ l → ⊥) → x ≡ replaced_at p s l x
unfolding replaced_at
at_other p s l x n = sym (if_false (eqb (x / p % 256) l) _ _ (not_T (eqb (x / p % 256) l) (λ t. n (eqb→eq (x / p % 256) l t))))

-- Where it is changed there is enough to take away.
pub place_fits : (p s l x : ℕ) → x / p % 256 ≡ l → (l - s) * p ≤ x
place_fits p s l x e = le_trans (mul-le-mul_right p (digit (x / p) e)) (div-mul-le_self x p)
  where
    digit : (q : ℕ) → q % 256 ≡ l → l - s ≤ q
    digit q e = omega arith

-- ---- lower, and in the same order

abbrev pub Lowers : (ℕ → ℕ) → Type 0
Lowers f = (x : ℕ) → f x ≤ x

abbrev pub Keeps : (ℕ → ℕ) → Type 0
Keeps f = (x y : ℕ) → x ≤ y → f x < x → f y < y → f x ≤ f y

less : (x k : ℕ) → x - k ≤ x
less x k = omega arith

same_less : (x y k : ℕ) → x ≤ y → x - k ≤ y - k
same_less x y k h = omega arith

pub at_lowers : (p s l : ℕ) → Lowers (replaced_at p s l)
unfolding replaced_at
at_lowers p s l x = if_elim (λ r. r ≤ x) (eqb (x / p % 256) l) _ _ (λ _. less x ((l - s) * p)) (λ _. omega arith)

at_changed : (p s l x : ℕ) → replaced_at p s l x < x → replaced_at p s l x ≡ x - (l - s) * p
unfolding replaced_at
at_changed p s l x = if_elim (λ r. r < x → r ≡ x - (l - s) * p) (eqb (x / p % 256) l) _ _ (λ _ _. refl) (λ _ n. absurd (omega arith))

pub at_keeps : (p s l : ℕ) → Keeps (replaced_at p s l)
at_keeps p s l x y h i j = rw (at_changed p s l x i, at_changed p s l y j) (same_less x y ((l - s) * p) h)

-- ---- all places, one after another

-- What stands before the places, and what stands at each.
abbrev five : (t a b c d v : ℕ) → ℕ
five t a b c d v = t * 256 ^ 5 + a * 256 ^ 4 + b * 256 ^ 3 + c * 256 ^ 2 + d * 256 + v

-- A number as a function of what stands at the place.
at_is : (p s l x a : ℕ) (f : ℕ → ℕ) → x / p % 256 ≡ a → x ≡ f a → (a ≡ l → x - (l - s) * p ≡ f s) → replaced_at p s l x ≡ f (rename s l a)
unfolding replaced_at rename
at_is p s l x a f e own other = ap (λ (d : ℕ). if (eqb d l) (λ _. x - (l - s) * p) (λ _. x)) e ∙ go (decided (eqb a l))
  where
    go : T (eqb a l) ⊎ T (not (eqb a l)) → if (eqb a l) (λ _. x - (l - s) * p) (λ _. x) ≡ f (if (eqb a l) (λ _. s) (λ _. a))
    go (inl t) = if_true (eqb a l) _ _ t ∙ other (eqb→eq a l t) ∙ ap f (sym (if_true (eqb a l) (λ _. s) (λ _. a) t))
    go (inr t) = if_false (eqb a l) _ _ t ∙ own ∙ ap f (sym (if_false (eqb a l) (λ _. s) (λ _. a) t))

module _ (s l t a b c d v : ℕ) (h : s < l) (pa : a < 256) (pb : b < 256) (pc : c < 256) (pd : d < 256) (pv : v < 256) where
  at_0 : replaced_at 4294967296 s l (five t a b c d v) ≡ five t (rename s l a) b c d v
  at_0 = at_is 4294967296 s l (five t a b c d v) a (λ e. five t e b c d v) (omega arith) refl (λ e. omega arith)

  at_1 : replaced_at 16777216 s l (five t a b c d v) ≡ five t a (rename s l b) c d v
  at_1 = at_is 16777216 s l (five t a b c d v) b (λ e. five t a e c d v) (omega arith) refl (λ e. omega arith)

  at_2 : replaced_at 65536 s l (five t a b c d v) ≡ five t a b (rename s l c) d v
  at_2 = at_is 65536 s l (five t a b c d v) c (λ e. five t a b e d v) (omega arith) refl (λ e. omega arith)

  at_3 : replaced_at 256 s l (five t a b c d v) ≡ five t a b c (rename s l d) v
  at_3 = at_is 256 s l (five t a b c d v) d (λ e. five t a b c e v) (omega arith) refl (λ e. omega arith)

  at_4 : replaced_at 1 s l (five t a b c d v) ≡ five t a b c d (rename s l v)
  at_4 = at_is 1 s l (five t a b c d v) v (λ e. five t a b c d e) (omega arith) refl (λ e. omega arith)

-- A number by its digits, told one after another.
sums : (x x₁ x₂ x₃ x₄ x₅ v d c b a : ℕ) → x ≡ x₁ * 256 + v → x₁ ≡ x₂ * 256 + d → x₂ ≡ x₃ * 256 + c → x₃ ≡ x₄ * 256 + b → x₄ ≡ x₅ * 256 + a → x ≡ five x₅ a b c d v
sums x x₁ x₂ x₃ x₄ x₅ v d c b a e₀ e₁ e₂ e₃ e₄ = omega arith

pub all_places : (s l x : ℕ) → s < l → s < 256
    → replaced_at 1 s l (replaced_at 256 s l (replaced_at 65536 s l (replaced_at 16777216 s l (replaced_at 4294967296 s l x)))) ≡ replaced s l x
unfolding replaced arg_of
all_places s l x h o = digits (x / 256 ^ 5) (arg_of x 0) (arg_of x 1) (arg_of x 2) (arg_of x 3) (value_of x) whole (low 0) (low 1) (low 2) (low 3) (omega arith)
  where
    low : (i : ℕ) → arg_of x i < 256
    low i = omega arith

    whole : x ≡ five (x / 256 ^ 5) (arg_of x 0) (arg_of x 1) (arg_of x 2) (arg_of x 3) (value_of x)
    whole =
        let e4 : x / 256 ^ 4 ≡ x / 256 ^ 5 * 256 + x / 256 ^ 4 % 256 = omega arith in
        let e3 : x / 256 ^ 3 ≡ x / 256 ^ 4 * 256 + x / 256 ^ 3 % 256 = omega arith in
        let e2 : x / 256 ^ 2 ≡ x / 256 ^ 3 * 256 + x / 256 ^ 2 % 256 = omega arith in
        let e1 : x / 256 ≡ x / 256 ^ 2 * 256 + x / 256 % 256 = omega arith in
        let e0 : x ≡ x / 256 * 256 + x % 256 = omega arith in
        sums x (x / 256) (x / 256 ^ 2) (x / 256 ^ 3) (x / 256 ^ 4) (x / 256 ^ 5) _ _ _ _ _ e0 e1 e2 e3 e4

    digits : (t a b c d v : ℕ) → x ≡ five t a b c d v → a < 256 → b < 256 → c < 256 → d < 256 → v < 256
        → replaced_at 1 s l (replaced_at 256 s l (replaced_at 65536 s l (replaced_at 16777216 s l (replaced_at 4294967296 s l x))))
        ≡ five t (rename s l a) (rename s l b) (rename s l c) (rename s l d) (rename s l v)
    digits t a b c d v e pa pb pc pd pv =
        let ra = rename_octet s l a o pa in
        let rb = rename_octet s l b o pb in
        let rc = rename_octet s l c o pc in
        let rd = rename_octet s l d o pd in
        ap (λ y. replaced_at 1 s l (replaced_at 256 s l (replaced_at 65536 s l (replaced_at 16777216 s l y)))) (ap (replaced_at 4294967296 s l) e ∙ at_0 s l t a b c d v h pa pb pc pd pv)
        ∙ ap (λ y. replaced_at 1 s l (replaced_at 256 s l (replaced_at 65536 s l y))) (at_1 s l t (rename s l a) b c d v h ra pb pc pd pv)
        ∙ ap (λ y. replaced_at 1 s l (replaced_at 256 s l y)) (at_2 s l t (rename s l a) (rename s l b) c d v h ra rb pc pd pv)
        ∙ ap (replaced_at 1 s l) (at_3 s l t (rename s l a) (rename s l b) (rename s l c) d v h ra rb rc pd pv)
        ∙ at_4 s l t (rename s l a) (rename s l b) (rename s l c) (rename s l d) v h ra rb rc rd pv
