-- Arrangements, keeping a rule, fitting (01, "How a step goes", at its end).
use Rattle.std.specs.Prelude.{◌≡◌, ℕ, ◌+◌, Bool, List, [], ◌∷◌, ◌++◌, map, length, get_or, T, eqb}
use Rattle.base.specs.Lists.{All, all, any, entries}
use Rattle.rules.specs.Book.{Term, var, con, app, Terms, nil, cons, Literal, fact, same, Origin, Disjunct, Sequent}
use Rattle.rules.specs.Sheet.{Fact, Entry, Model, known}
use Rattle.rules.specs.Fire.{body_observed, head_observed}

-- "Some whole numbers as things, at least one; a thing for each constant, and for each function and witness at each argument
-- list; a truth for each relation." A symbol is a key kind (1 constant, 2 function, 3 and 4 witnesses) and a number.
pub record Arrangement : Type 1 where
  pub thing : ℕ → Type 0
  pub one : ℕ
  pub one_is : thing one
  pub value : ℕ → ℕ → List ℕ → ℕ
  pub closed : (kind symbol : ℕ) (xs : List ℕ) → All thing xs → thing (value kind symbol xs)
  pub truth : ℕ → List ℕ → Bool

unfoldable mutual
  pub eval : Term → Arrangement → List ℕ → ℕ
  eval (var i) A env = get_or env i (A.value 0 0 [])
  eval (con c) A env = A.value 1 c []
  eval (app f ts) A env = A.value 2 f (evals ts A env)

  pub evals : Terms → Arrangement → List ℕ → List ℕ
  evals nil A env = []
  evals (cons t ts) A env = eval t A env ∷ evals ts A env

unfoldable pub is_true : Arrangement → List ℕ → Literal → Bool
is_true A env (fact r ts) = A.truth r (evals ts A env)
is_true A env (same s t) = eqb (eval s A env) (eval t A env)

-- "Existentials valued by their witnesses."
unfoldable pub origin_value : Arrangement → List ℕ → Origin → ℕ
origin_value A c o = A.value (3 + o.kind) o.witness (entries c o.args)

unfoldable pub body_true : Arrangement → Sequent → List ℕ → Bool
body_true A s c = all (is_true A c) s.body

unfoldable pub disjunct_true : Arrangement → List ℕ → Disjunct → Bool
disjunct_true A c d = all (is_true A (c ++ map (origin_value A c) d.origins)) d.literals

unfoldable pub head_true : Arrangement → Sequent → List ℕ → Bool
head_true A s c = any (disjunct_true A c) s.head

-- "It keeps a rule if at every choice of the free variables that makes the body true some disjunct is true."
abbrev pub KeepsRule : Arrangement → Sequent → Type 0
KeepsRule A s = (c : List ℕ) → length c ≡ s.free → All A.thing c → T (body_true A s c) → T (head_true A s c)

abbrev pub Keeps : Arrangement → List Sequent → Type 0
Keeps A rs = All (KeepsRule A) rs

abbrev pub KeyHolds : Arrangement → (ℕ → ℕ) → Entry → Type 0
KeyHolds A h x = A.value x.0.kind x.0.symbol (map h x.0.args) ≡ h x.1

abbrev pub FactHolds : Arrangement → (ℕ → ℕ) → Fact → Type 0
FactHolds A h f = T (A.truth f.relation (map h f.args))

-- "A sheet fits if its elements can be given things so that all keys and facts hold."
pub record Fits (A : Arrangement) (m : Model) : Type 0 where
  pub give : ℕ → ℕ
  pub things : (e : ℕ) → T (known m e) → A.thing (give e)
  pub keys : All (KeyHolds A give) m.keys
  pub facts : All (FactHolds A give) m.facts

-- "A sheet keeps a rule at a choice if the body is not observed or some disjunct is."
abbrev pub KeepsAt : Model → Sequent → List ℕ → Type 0
KeepsAt m s c = T (body_observed m s c) → T (head_observed m s c)

-- Every rule, at every choice of its own elements: every list of as many living elements as the rule has free variables.
abbrev pub KeepsAll : Model → List Sequent → Type 0
KeepsAll m rs = All (λ (s : Sequent). (c : List ℕ) → length c ≡ s.free → All (λ e. T (known m e)) c → KeepsAt m s c) rs
