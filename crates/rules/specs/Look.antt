-- Looking up a term, and what is observed (01, "How a step goes"; `element_ref` and `is_observed` in the Rust).
use Rattle.std.specs.Prelude.{ℕ, Bool, false, List, [], ◌∷◌, ◌++◌, map, get_or, eqb, ◌+◌}
use Rattle.std.proofs.Math.Option.{Option, none, some}
use Rattle.base.specs.Branch.{if, case_o}
use Rattle.base.specs.Lists.{all, entries}
use Rattle.rules.specs.Book.{Term, var, con, app, Terms, nil, cons, Literal, fact, same, Origin, Disjunct}
use Rattle.rules.specs.Sheet.{Key, key, rel, Model, find, holds, known}

-- What a variable stands for: a chosen element, or an existential, which is its witness at chosen elements.
pub data Meaning : Type 0 where
  elem : ℕ → Meaning
  witness : Key → Meaning

-- A variable beyond the declared ones, of which an accepted book has none.
abbrev pub nobody : Meaning
nobody = witness (key 0 0 [])

-- Constant witnesses have key kind 3, function witnesses 4.
unfoldable pub origin_meaning : List ℕ → Origin → Meaning
origin_meaning c o = witness (key (3 + o.kind) o.witness (entries c o.args))

-- The variables of a body, and of a disjunct, at a choice of elements.
unfoldable pub body_meanings : List ℕ → List Meaning
body_meanings c = map elem c

unfoldable pub head_meanings : List ℕ → Disjunct → List Meaning
head_meanings c d = map elem c ++ map (origin_meaning c) d.origins

unfoldable pub look_meaning : Model → Meaning → Option ℕ
look_meaning m (elem e) = if (known m e) (λ _. some e) (λ _. none)
look_meaning m (witness k) = if (all (known m) k.args) (λ _. find k m.keys) (λ _. none)

-- "An application needs its arguments' elements first, and each argument is again a term."
unfoldable mutual
  pub look : Term → Model → List Meaning → Option ℕ
  look (var i) m env = look_meaning m (get_or env i nobody)
  look (con c) m env = find (key 1 c []) m.keys
  look (app f ts) m env = case_o (looks ts m env) (λ _. none) (λ xs. find (key 2 f xs) m.keys)

  pub looks : Terms → Model → List Meaning → Option (List ℕ)
  looks nil m env = some []
  looks (cons t ts) m env = case_o (look t m env) (λ _. none) (λ a. case_o (looks ts m env) (λ _. none) (λ xs. some (a ∷ xs)))

-- "A fact is observed if all its terms have elements and the fact is held; an identity if both sides have the same element."
unfoldable pub observed : Model → List Meaning → Literal → Bool
observed m env (fact r ts) = case_o (looks ts m env) (λ _. false) (λ xs. holds (rel r xs) m.facts)
observed m env (same s t) = case_o (look s m env) (λ _. false) (λ a. case_o (look t m env) (λ _. false) (λ b. eqb a b))
