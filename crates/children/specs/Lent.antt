-- What a caller lends for children to be made in: what is asked of it, and that it is the same afterwards, as long as it was.
use Rattle.std.specs.Prelude.{◌≡◌, ℕ, ◌≤◌, ◌<◌, List, length, take}
use Rattle.std.specs.Borrow.{MutBor}
use Rattle.std.proofs.Common.{sym, subst, ◌∙◌, arith}
use Rattle.base.specs.Lists.{All}
use Rattle.firing.specs.Answers.{Elements}
use Rattle.children.specs.declared.Scratch.{Scratch}

-- The form is as long as the base's, and there is room for each element that lives.
abbrev pub HasRoom : ℕ → List ℕ → Scratch → Type 0
HasRoom keys base m = (keys ≤ length m.domain.now) × (length m.form.now ≡ length base)

-- The same slice stands behind the reference, as long as it was.
abbrev pub SameSlice : MutBor (List ℕ) → MutBor (List ℕ) → Type 0
SameSlice a b = (b.ghost_name ≡ a.ghost_name) × (length b.now ≡ length a.now)

abbrev pub SameLent : Scratch → Scratch → Type 0
SameLent a b = SameSlice a.form b.form × SameSlice a.env b.env × SameSlice a.domain b.domain

slice_next : (a b c : MutBor (List ℕ)) → SameSlice a b → SameSlice b c → SameSlice a c
slice_next a b c h k = (k.0 ∙ h.0, k.1 ∙ h.1)

-- One thing done behind another.
pub same_next : (a b c : Scratch) → SameLent a b → SameLent b c → SameLent a c
same_next a b c h k = (slice_next a.form b.form c.form h.0 k.0, slice_next a.env b.env c.env h.1 k.1, slice_next a.domain b.domain c.domain h.2 k.2)

-- The chosen elements stand where they stood.
pub elements_kept : (v : ℕ) (env env' : List ℕ) → length env' ≡ length env → take v env' ≡ take v env → Elements env v → Elements env' v
elements_kept v env env' l t e = (omega (arith, e.0), subst (All (λ x. x < 256)) (sym t) e.1)

-- What had room has room.
pub room_kept : (keys : ℕ) (base : List ℕ) (a b : Scratch) → SameLent a b → HasRoom keys base a → HasRoom keys base b
room_kept keys base a b h r = (omega (arith, h.2.1, r.0), h.0.1 ∙ r.1)
