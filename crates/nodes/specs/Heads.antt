-- What stands first in a term, or in a fact: two numbers, its kind and its own, and the arity by the book's head.
use Rattle.std.specs.Prelude.{◌≡◌, ℕ, ◌+◌, ◌-◌, ◌≤◌, ◌<◌, length, get_or, Some, None}
use Rattle.std.specs.Prelude as std
use Rattle.rules.specs.Reading.{Bytes, num}
use Rattle.texts.specs.Names.{names_in}
use Rattle.nodes.specs.declared.Atom.{Atom}
use Rattle.nodes.specs.declared.Atom.TheVariants.{Variable, Constant}
use Rattle.nodes.specs.declared.Claim.{Claim}
use Rattle.nodes.specs.declared.Claim.TheVariants.{Fact, Same}
use Rattle.nodes.specs.declared.Head.{Head}
use Rattle.nodes.specs.declared.Head.TheVariants.{Leaf, Apply}

-- There are four bytes at a place, and the second number of two bytes is this one.
abbrev pub Second : Bytes → ℕ → ℕ → Type 0
Second text at k = (at + 4 ≤ length text) × ((k ≡ num text (at + 2)) × (k < 65536))

abbrev pub HeadAt : Bytes → Bytes → ℕ → std.Option (Head Atom) → Type 0
HeadAt book text at None = length text - at < 4
HeadAt book text at (Some (Leaf (Variable i))) = (num text at ≡ 0) × Second text at i
HeadAt book text at (Some (Leaf (Constant c))) = (num text at ≡ 1) × Second text at c
HeadAt book text at (Some (Apply f n)) =
    ((num text at ≡ 0 → ⊥) × (num text at ≡ 1 → ⊥)) × (Second text at f × ((n ≡ get_or (names_in book).functions f 0) × (n < 65536)))

-- An identity has no second number: its terms begin there.
abbrev pub ClaimAt : Bytes → Bytes → ℕ → std.Option Claim → Type 0
ClaimAt book text at None = length text - at < 4
ClaimAt book text at (Some (Fact r n)) = (num text at ≡ 0) × (Second text at r × ((n ≡ get_or (names_in book).relations r 0) × (n < 65536)))
ClaimAt book text at (Some Same) = (at + 4 ≤ length text) × (num text at ≡ 0 → ⊥)
