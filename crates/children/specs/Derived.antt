-- What is made of the disjuncts of a sequent that fired: the definition's children of the base.
use Rattle.std.specs.Prelude.{◌≡◌, ℕ, ◌+◌, ◌≤◌, Bool, List, map, length, take, T, Result}
use Rattle.base.specs.Lists.{All, any}
use Rattle.rules.specs.Book.{Disjunct, completed_disjunct}
use Rattle.rules.specs.Reading.{Bytes}
use Rattle.rules.specs.Sheet.{Model, known, Limits}
use Rattle.rules.specs.Bound.{Bound}
use Rattle.rules.specs.Child.{Child, child}
use Rattle.soundness.specs.Neat.{Neat}
use Rattle.soundness.specs.Book.{SmallNames, WfDisjunct}
use Rattle.texts.specs.Reads.{Follow}
use Rattle.texts.specs.Names.{names_in}
use Rattle.texts.specs.Text.{DisjunctText}
use Rattle.enter.specs.Keep.{Carries}
use Rattle.telling.specs.declared.TooLarge.{TooLarge}
use Rattle.child.specs.Whole.{Made}

-- The form carries a neat model, each element itself, and known elements of it are chosen.
pub record Parent (book : Bytes) (lim : Limits) (base : List ℕ) (m : Model) (c : List ℕ) : Type 0 where
  pub small : SmallNames (names_in book)
  pub neat : Neat lim (names_in book) m
  pub carries : Carries lim base m (λ e. e)
  pub chosen : All (λ e. T (known m e)) c

-- The disjunct that stands at a place of the book, over v free variables; its variables have room in an environment.
pub record DisjunctHere (book : Bytes) (at room v : ℕ) (d : Disjunct) (e : ℕ) : Type 0 where
  pub wf : WfDisjunct (names_in book) v d
  pub few : v + length d.origins ≤ room
  pub stands : DisjunctText (names_in book) book at d e
  pub fits : e ≤ length book

abbrev pub IsDerived : Bytes → ℕ → ℕ → Bound → Limits → List ℕ → List ℕ → Result Bool TooLarge → List ℕ → Type 0
IsDerived book at v b lim env base r w' = (m : Model) → Parent book lim base m (take v env) → (d : Disjunct) (e : ℕ) → DisjunctHere book at (length env) v d e
    → Made lim (child lim b m (take v env) (completed_disjunct v d)) r w'

-- So many of them, one behind the other.
pub record DisjunctsHere (book : Bytes) (at n room v : ℕ) (ds : List Disjunct) (e : ℕ) : Type 0 where
  pub wf : All (WfDisjunct (names_in book) v) ds
  pub few : All (λ (d : Disjunct). v + length d.origins ≤ room) ds
  pub stand : Follow (DisjunctText (names_in book) book) at ds e
  pub counted : length ds ≡ n
  pub fits : e ≤ length book

abbrev pub AnyOver : Bytes → ℕ → ℕ → ℕ → Bound → Limits → List ℕ → List ℕ → Bool → Type 0
AnyOver book at n v b lim env base r = (m : Model) → Parent book lim base m (take v env) → (ds : List Disjunct) (e : ℕ) → DisjunctsHere book at n (length env) v ds e
    → r ≡ any (λ (k : Child). k.over) (map (child lim b m (take v env)) (map (completed_disjunct v) ds))
