-- What an element is after a merge, and what it means that it is the smallest of those that must become one.
use Rattle.std.specs.Prelude.{◌≡◌, ℕ, ◌≤◌}
use Rattle.rules.specs.Sheet.{Model}
use Rattle.rules.specs.Merge.{merge}
use Rattle.congruence.specs.Forced.{Forced}

-- What an element of the sheet is after a merge of a and b.
unfoldable pub survivor : ℕ → ℕ → Model → ℕ → ℕ
survivor a b m = (merge a b m (λ e. e)).1

-- The survivor of x is no higher than x, survives itself, must be one with x, and is no higher than whatever else must.
pub record Smallest (a b : ℕ) (m : Model) (x : ℕ) : Type 1 where
  pub below : survivor a b m x ≤ x
  pub own : survivor a b m (survivor a b m x) ≡ survivor a b m x
  pub in_class : Forced a b m.keys x (survivor a b m x)
  pub least : (y : ℕ) → Forced a b m.keys x y → survivor a b m x ≤ y
