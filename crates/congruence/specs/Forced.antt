-- Which elements must become one when two do: those that every congruence of the keys relates that relates the two.
-- A survivor function takes each element to the smallest that must become one with it. There is one such function: of two, each
-- takes an element no higher than the other does, for it does not tell the element from what the other makes of it (proofs/Forced).
use Rattle.std.specs.Prelude.{◌≡◌, refl, ℕ, ◌≤◌}
use Rattle.std.proofs.Common.{sym, ap₂, subst, arith}
use mathlib.Core.List.{List, [], ◌∷◌, map, head-eq_of_cons-eq, tail-eq_of_cons-eq}
use Rattle.base.specs.ListLaws.{In}
use Rattle.rules.specs.Sheet.{Entry}

-- ---- congruences

-- Two lists of elements, related one by one.
abbrev pub Related : (ℕ → ℕ → Type 0) → List ℕ → List ℕ → Type 0
Related E [] [] = Unit
Related E [] (y ∷ ys) = ⊥
Related E (x ∷ xs) [] = ⊥
Related E (x ∷ xs) (y ∷ ys) = E x y × Related E xs ys

-- An equivalence that relates a and b, and values of keys that name one symbol over related elements.
pub record Congruence (a b : ℕ) (ks : List Entry) (E : ℕ → ℕ → Type 0) : Type 0 where
  pub self : (x : ℕ) → E x x
  pub back : (x y : ℕ) → E x y → E y x
  pub chain : (x y z : ℕ) → E x y → E y z → E x z
  pub joins : E a b
  pub closed : (x y : Entry) → In x ks → In y ks → x.0.kind ≡ y.0.kind → x.0.symbol ≡ y.0.symbol → Related E x.0.args y.0.args → E x.1 y.1

-- Where a and b are one, x and y must be.
abbrev pub Forced : ℕ → ℕ → List Entry → ℕ → ℕ → Type 1
Forced a b ks x y = (E : ℕ → ℕ → Type 0) → Congruence a b ks E → E x y

-- The order of the two does not matter.
pub congruence_swap : (a b : ℕ) (ks : List Entry) (E : ℕ → ℕ → Type 0) → Congruence a b ks E → Congruence b a ks E
congruence_swap a b ks E c = record { self = c.self; back = c.back; chain = c.chain; joins = c.back a b c.joins; closed = c.closed }

-- Elements that a function does not tell apart.
abbrev pub Alike : (ℕ → ℕ) → ℕ → ℕ → Type 0
Alike h x y = h x ≡ h y

pub alike_args : (h : ℕ → ℕ) (xs ys : List ℕ) → Related (Alike h) xs ys → map h xs ≡ map h ys
alike_args h [] [] r = refl
alike_args h [] (y ∷ ys) r = absurd r
alike_args h (x ∷ xs) [] r = absurd r
alike_args h (x ∷ xs) (y ∷ ys) r = ap₂ (λ (e : ℕ) es. e ∷ es) r.0 (alike_args h xs ys r.1)

-- Where each element is related to what a function makes of it, what becomes one is related: elements, and lists of them.
module _ (a b : ℕ) (ks : List Entry) (E : ℕ → ℕ → Type 0) (c : Congruence a b ks E) (h : ℕ → ℕ) (r : (e : ℕ) → E e (h e)) where
  pub alike_related : (x y : ℕ) → h x ≡ h y → E x y
  alike_related x y e = c.chain x (h x) y (r x) (subst (λ z. E z y) (sym e) (c.back y (h y) (r y)))

  pub args_related : (xs ys : List ℕ) → map h xs ≡ map h ys → Related E xs ys
  args_related [] [] e = tt
  args_related [] (y ∷ ys) e = let z : ◌≡◌ {A = ℕ} 0 1 = cc in absurd (omega arith)
  args_related (x ∷ xs) [] e = let z : ◌≡◌ {A = ℕ} 0 1 = cc in absurd (omega arith)
  args_related (x ∷ xs) (y ∷ ys) e = (alike_related x y (head-eq_of_cons-eq e), args_related xs ys (tail-eq_of_cons-eq e))

-- ---- survivors

-- h tells nothing apart that must be one, takes no element higher, and takes each to one that must be one with it.
pub record Survives (a b : ℕ) (ks : List Entry) (h : ℕ → ℕ) : Type 1 where
  pub congruence : Congruence a b ks (Alike h)
  pub below : (e : ℕ) → h e ≤ e
  pub forced : (e : ℕ) → Forced a b ks e (h e)
