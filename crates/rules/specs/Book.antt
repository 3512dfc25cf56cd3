-- The rule book as data (01, "The rule book"): what is typed, in the order in which it is typed.
-- What the reader appends to a disjunct is a function of it (`completed`), so that a writer can give the bytes back.
use Rattle.std.specs.Prelude.{ℕ, suc, Bool, false, ◌||◌, List, [], ◌∷◌, ◌++◌, map, eqb}
use Rattle.base.specs.Branch.{if}
use Rattle.base.specs.Lists.{any}

-- A term: a variable, a constant, or a function and its terms.
mutual
  pub data Term : Type 0 where
    var : ℕ → Term
    con : ℕ → Term
    app : ℕ → Terms → Term

  pub data Terms : Type 0 where
    nil : Terms
    cons : Term → Terms → Terms

-- A literal: a relation and its terms, or two terms.
pub data Literal : Type 0 where
  fact : ℕ → Terms → Literal
  same : Term → Term → Literal

-- An origin: kind (0 constant, 1 function witness), witness number, and the free variables that are its arguments.
pub record Origin : Type 0 where
  pub kind : ℕ
  pub witness : ℕ
  pub args : List ℕ

pub record Disjunct : Type 0 where
  pub origins : List Origin
  pub literals : List Literal

-- A sequent: how many free variables, the body's literals, the head's disjuncts.
pub record Sequent : Type 0 where
  pub free : ℕ
  pub body : List Literal
  pub head : List Disjunct

-- What is declared: how many constants and constant witnesses, and an arity for each function, relation and function witness.
pub record Names : Type 0 where
  pub constants : ℕ
  pub functions : List ℕ
  pub relations : List ℕ
  pub constant_witnesses : ℕ
  pub function_witnesses : List ℕ

pub record Book : Type 0 where
  pub names : Names
  pub sequents : List Sequent

unfoldable pub terms : List Term → Terms
terms [] = nil
terms (t ∷ ts) = cons t (terms ts)

-- Is the variable in the term, nested ones included?
unfoldable mutual
  pub in_term : Term → ℕ → Bool
  in_term (var i) v = eqb i v
  in_term (con c) v = false
  in_term (app f ts) v = in_terms ts v

  pub in_terms : Terms → ℕ → Bool
  in_terms nil v = false
  in_terms (cons t ts) v = in_term t v || in_terms ts v

unfoldable pub in_literal : ℕ → Literal → Bool
in_literal v (fact r ts) = in_terms ts v
in_literal v (same s t) = in_term s v || in_term t v

-- "An origin whose existential is in no literal of its disjunct gets v = v appended after the others, in origin order."
-- The origins are those from existential v on.
unfoldable pub appended : ℕ → List Origin → List Literal → List Literal
appended v [] ls = []
appended v (o ∷ os) ls =
    if (any (in_literal v) ls) (λ _. appended (suc v) os ls) (λ _. same (var v) (var v) ∷ appended (suc v) os ls)

unfoldable pub completed_disjunct : ℕ → Disjunct → Disjunct
completed_disjunct v d = record { origins = d.origins; literals = d.literals ++ appended v d.origins d.literals }

unfoldable pub completed : Sequent → Sequent
completed s = record { free = s.free; body = s.body; head = map (completed_disjunct s.free) s.head }

-- The rules: the sequents as the chase takes them.
unfoldable pub rules : Book → List Sequent
rules b = map completed b.sequents
