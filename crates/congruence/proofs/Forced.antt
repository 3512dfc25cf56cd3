-- Elements have one survivor exactly when they must become one, and one function alone says what survives.
use Rattle.std.specs.Prelude.{◌≡◌, ℕ, ◌≤◌, ◌↔◌}
use Rattle.std.proofs.Common.{sym, arith}
use mathlib.Core.List.{List}
use Rattle.rules.specs.Sheet.{Entry}
use Rattle.congruence.specs.Forced.{Alike, Forced, Survives, alike_related, congruence_swap}

module _ (a b : ℕ) (ks : List Entry) (h : ℕ → ℕ) (g : Survives a b ks h) where
  -- Elements have one survivor exactly when they must become one.
  pub one_survivor : (x y : ℕ) → (h x ≡ h y) ↔ Forced a b ks x y
  one_survivor x y = (λ e E c. alike_related a b ks E c h (λ z. g.forced z E c) x y e, λ f. f (Alike h) g.congruence)

  -- The survivor of survivors is the same.
  pub survivor_stays : (x : ℕ) → h (h x) ≡ h x
  survivor_stays x = sym (g.forced x (Alike h) g.congruence)

  pub survivor_least : (x y : ℕ) → Forced a b ks x y → h x ≤ y
  survivor_least x y f = let p = g.below y in let q = (one_survivor x y).1 f in omega arith

-- Congruences alone say what survives.
pub survivors_unique : (a b : ℕ) (ks : List Entry) (f g : ℕ → ℕ) → Survives a b ks f → Survives a b ks g → f ≡ g
survivors_unique a b ks f g u v = λ i e. same e i
  where
    same : (e : ℕ) → f e ≡ g e
    same e = let p = survivor_least a b ks f u e (g e) (v.forced e) in let q = survivor_least a b ks g v e (f e) (u.forced e) in omega arith

pub survives_swap : (a b : ℕ) (ks : List Entry) (h : ℕ → ℕ) → Survives a b ks h → Survives b a ks h
survives_swap a b ks h g = record {
  congruence = congruence_swap a b ks (Alike h) g.congruence;
  below = g.below;
  forced = λ e E c. g.forced e E (congruence_swap b a ks E c);
}
