-- Sheets (01, "The pool" and "How a step goes"): keys with values and facts in rising order, the domain, looking a key up.
use Prim.Native.Nat.{ℕ, Ordering}
use Rattle.std.specs.Prelude.{Bool, true, false, List, [], ◌∷◌, map}
use Rattle.std.proofs.Math.Option.{Option, none, some}
use Rattle.base.specs.Branch.{three, order}
use Rattle.base.specs.Lists.{mem, firsts}

-- Kinds in key order: 1 constant, 2 application, 3 constant witness, 4 function witness.
pub record Key : Type 0 where
  pub kind : ℕ
  pub symbol : ℕ
  pub args : List ℕ

pub record Fact : Type 0 where
  pub relation : ℕ
  pub args : List ℕ

-- A key with its value, the element that it yields.
abbrev pub Entry : Type 0
Entry = Key × ℕ

-- A model: how many elements were created, keys with values, facts, and a depth for each created element (0 for one that was merged
-- away).
pub record Model : Type 0 where
  pub created : ℕ
  pub keys : List Entry
  pub facts : List Fact
  pub depths : List ℕ

-- Model number and strategy place stay out of what theorems say of a model.
pub record Sheet : Type 0 where
  pub number : ℕ
  pub place : ℕ
  pub model : Model

abbrev pub key : ℕ → ℕ → List ℕ → Key
key k s xs = record { kind = k; symbol = s; args = xs }

abbrev pub rel : ℕ → List ℕ → Fact
rel r xs = record { relation = r; args = xs }

-- "Key order: kind; then symbol; then arguments left to right. Facts: relation, then arguments."
abbrev pub key_order : Key → Key → Ordering
key_order a b = order (a.kind ∷ a.symbol ∷ a.args) (b.kind ∷ b.symbol ∷ b.args)

abbrev pub fact_order : Fact → Fact → Ordering
fact_order a b = order (a.relation ∷ a.args) (b.relation ∷ b.args)

-- The value of a key.
unfoldable pub find : Key → List Entry → Option ℕ
find k [] = none
find k (x ∷ xs) = three (key_order k x.0) (λ _. none) (λ _. some x.1) (λ _. find k xs)

unfoldable pub holds : Fact → List Fact → Bool
holds f [] = false
holds f (x ∷ xs) = three (fact_order f x) (λ _. false) (λ _. true) (λ _. holds f xs)

-- Into its place; a key that is there gets the new value.
unfoldable pub insert_key : Entry → List Entry → List Entry
insert_key n [] = n ∷ []
insert_key n (x ∷ xs) = three (key_order n.0 x.0) (λ _. n ∷ x ∷ xs) (λ _. n ∷ xs) (λ _. x ∷ insert_key n xs)

unfoldable pub insert_fact : Fact → List Fact → List Fact
insert_fact n [] = n ∷ []
insert_fact n (x ∷ xs) = three (fact_order n x) (λ _. n ∷ x ∷ xs) (λ _. n ∷ xs) (λ _. x ∷ insert_fact n xs)

-- "Domain: values in order of first appearance over the keys."
unfoldable pub domain : Model → List ℕ
domain m = firsts (map (λ (x : Entry). x.1) m.keys)

-- An element that some key yields; one that was merged away is none.
unfoldable pub known : Model → ℕ → Bool
known m e = mem e (domain m)

-- The empty model, and a sheet that holds it as model 0: so reads a slot that is all zero.
unfoldable pub empty : Model
empty = record { created = 0; keys = []; facts = []; depths = [] }

unfoldable pub blank : Sheet
blank = record { number = 0; place = 0; model = empty }

-- The limits of a sheet: created elements, keys, facts. Version 1 has 64, 128 and 128.
pub record Limits : Type 0 where
  pub elements : ℕ
  pub keys : ℕ
  pub facts : ℕ

unfoldable pub limits : Limits
limits = record { elements = 64; keys = 128; facts = 128 }
