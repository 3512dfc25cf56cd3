-- Relations on a sheet's elements alone: what must become one by the equivalences on all numbers (Forced) is what must by those on the
-- elements that the sheet has. For each of these goes on to all numbers, where another number is related to itself alone.
use Rattle.std.specs.Prelude.{◌≡◌, refl, ℕ, ◌⊎◌, ◌↔◌, List, [], ◌∷◌, T}
use Rattle.std.proofs.Common.{sym, subst, inl, inr}
use Rattle.base.specs.Lists.{All}
use Rattle.base.specs.ListLaws.{In}
use Rattle.rules.specs.Book.{Names}
use Rattle.rules.specs.Sheet.{Entry, Model, known, Limits}
use Rattle.soundness.specs.Tools.{KeyOver, Yields, Yielded, all_yielded, yielded_known, in_has}
use Rattle.soundness.specs.Neat.{Neat}
use Rattle.congruence.specs.Forced.{Related, Congruence, Forced}

-- An equivalence on the elements of m that has the pair and is closed under the keys.
pub record CongruenceOn (a b : ℕ) (m : Model) (E : ℕ → ℕ → Type 0) : Type 0 where
  pub self : (x : ℕ) → T (known m x) → E x x
  pub back : (x y : ℕ) → T (known m x) → T (known m y) → E x y → E y x
  pub chain : (x y z : ℕ) → T (known m x) → T (known m y) → T (known m z) → E x y → E y z → E x z
  pub joins : E a b
  pub closed : (x y : Entry) → In x m.keys → In y m.keys → x.0.kind ≡ y.0.kind → x.0.symbol ≡ y.0.symbol → Related E x.0.args y.0.args → E x.1 y.1

module _ (lim : Limits) (d : Names) (m : Model) (g : Neat lim d m) (a b : ℕ) (ka : T (known m a)) (kb : T (known m b)) where
  module _ (E : ℕ → ℕ → Type 0) (c : CongruenceOn a b m E) where
    -- On all numbers.
    abbrev Whole : ℕ → ℕ → Type 0
    Whole x y = (x ≡ y) ⊎ (T (known m x) × T (known m y) × E x y)

    -- Between elements of the sheet it says no more.
    within : (x y : ℕ) → T (known m x) → Whole x y → E x y
    within x y k (inl e) = subst (E x) e (c.self x k)
    within x y k (inr q) = q.2

    turned : (x y : ℕ) → Whole x y → Whole y x
    turned x y (inl e) = inl (sym e)
    turned x y (inr q) = inr (q.1, q.0, c.back x y q.0 q.1 q.2)

    chained : (x y z : ℕ) → Whole x y → Whole y z → Whole x z
    chained x y z (inl e) w = subst (λ u. Whole u z) (sym e) w
    chained x y z (inr q) (inl e) = subst (Whole x) e (inr q)
    chained x y z (inr q) (inr r) = inr (q.0, r.1, c.chain x y z q.0 q.1 r.1 q.2 r.2)

    args_within : (xs ys : List ℕ) → All (Yielded m.keys) xs → Related Whole xs ys → Related E xs ys
    args_within [] [] o r = tt
    args_within [] (y ∷ ys) o r = absurd r
    args_within (x ∷ xs) [] o r = absurd r
    args_within (x ∷ xs) (y ∷ ys) o r = (within x y (yielded_known m x o.0) r.0, args_within xs ys o.1 r.1)

    value_known : (x : Entry) → In x m.keys → T (known m x.1)
    value_known x i = yielded_known m x.1 (in_has (Yields (Yielded m.keys)) x m.keys i (all_yielded m.keys))

    whole : Congruence a b m.keys Whole
    whole = record {
      self = λ x. inl refl;
      back = turned;
      chain = chained;
      joins = inr (ka, kb, c.joins);
      closed = λ x y i j p q r. inr (
        value_known x i,
        value_known y j,
        c.closed x y i j p q (args_within x.0.args y.0.args (in_has (KeyOver (Yielded m.keys)) x m.keys i g.linked.key_args) r),
      );
    }

  pub forced_within : (x y : ℕ) → T (known m x) → Forced a b m.keys x y ↔ ((E : ℕ → ℕ → Type 0) → CongruenceOn a b m E → E x y)
  forced_within x y k = (
    λ f E c. within E c x y k (f (Whole E c) (whole E c)),
    λ f E c. f E (record { self = λ z _. c.self z; back = λ u v _ _. c.back u v; chain = λ u v w _ _ _. c.chain u v w; joins = c.joins; closed = c.closed }),
  )
