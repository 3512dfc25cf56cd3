-- The history of a child on its way takes each element of its sheet to itself, and what it makes of an element too; and so it does
-- with a number that no element has yet.
use Rattle.std.specs.Prelude.{◌≡◌, ℕ, ◌≤◌}
use Rattle.base.specs.Lists.{All}
use Rattle.rules.specs.Sheet.{Model}
use Rattle.rules.specs.Bound.{History}
use Rattle.soundness.specs.Tools.{Yields}

pub record Living (now : History) (m : Model) : Type 0 where
  pub twice : (e : ℕ) → now (now e) ≡ now e
  pub own : All (Yields (λ v. now v ≡ v)) m.keys
  pub new : (e : ℕ) → m.created ≤ e → now e ≡ e
