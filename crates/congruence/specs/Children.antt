-- The merges that a step makes. A child on its way need not be within the limits: its size is tested (15), and the literals behind
-- are told all the same. But it is neat with its own sizes as limits, and what an identity merges are two of its elements; so each
-- merge of each child of a sound sheet is the same whatever the order of keys and pairs, and the Rust's is one (proofs/Children).
-- Said of the children: those made by another way of merging, in place of `merge`, are the step's.
use Rattle.std.specs.Prelude.{ℕ, true, false, ◌||◌, length}
use mathlib.Core.List.{List, [], ◌∷◌}
use Rattle.base.specs.Branch.{if}
use Rattle.rules.specs.Book.{Literal, fact, same, Disjunct}
use Rattle.rules.specs.Sheet.{Model, domain, Limits}
use Rattle.rules.specs.Look.{Meaning, head_meanings, observed}
use Rattle.rules.specs.Bound.{Bound, History, terms_of, admitted}
use Rattle.rules.specs.Child.{enter, Child, too_big, recorded}

-- ---- a child by another merge

abbrev pub Merging : Type 0
Merging = ℕ → ℕ → Model → History → Model × History

-- As rules.Child has them, with another merge in the one place where `merge` stands.
unfoldable pub recorded_by : Merging → Limits → List Meaning → Literal → Child → Child
recorded_by join lim env (fact r ts) k = recorded lim env (fact r ts) k
recorded_by join lim env (same s t) k =
    let q = enter s k.model k.now env in
    let p = enter t q.0 k.now env in
    let r = join q.1 p.1 p.0 k.now in
    record { model = r.0; now = r.1; cut = k.cut; over = k.over || too_big lim p.0 }

unfoldable pub tell_by : Merging → Limits → Bound → List Meaning → Literal → Child → Child
tell_by join lim b env l k =
    if (admitted b (length (domain k.model)) (terms_of l) k.model k.now env)
    (λ _. if (observed k.model env l) (λ _. k) (λ _. recorded_by join lim env l k))
    (λ _. record { model = k.model; now = k.now; cut = true; over = k.over })

unfoldable pub tells_by : Merging → Limits → Bound → List Meaning → List Literal → Child → Child
tells_by join lim b env [] k = k
tells_by join lim b env (l ∷ ls) k = tells_by join lim b env ls (tell_by join lim b env l k)

unfoldable pub child_by : Merging → Limits → Bound → Model → List ℕ → Disjunct → Child
child_by join lim b m c d = tells_by join lim b (head_meanings c d) d.literals (record { model = m; now = λ e. e; cut = false; over = false })
