-- Indices into the domain, counted on with a carry, the first fastest: they visit just the choices, in order.
use Rattle.std.specs.Prelude.{◌≡◌, refl, ℕ, zero, suc, ◌≤◌, ◌<◌, Bool, true, false, List, [], ◌∷◌, ◌++◌, map, length, get_or, drop, replicate, ltb}
use Rattle.std.proofs.Common.{sym, ◌∙◌, arith, drop_of_length-le, drop-cons, nltb→le}
use Rattle.std.proofs.Math.Path.{ap}
use Rattle.std.proofs.Math.Option.{Option, none, some}
use Rattle.base.specs.Branch.{if, case_o, case_l}
use Rattle.base.specs.Lists.{All, flat, first_of}
use Rattle.base.specs.BranchLaws.{if_elim}
use Rattle.rules.specs.Fire.{choices}

-- The elements at some indices.
abbrev pub chosen : List ℕ → List ℕ → List ℕ
chosen d is = map (λ (j : ℕ). get_or d j 0) is

abbrev pub Below : ℕ → List ℕ → Type 0
Below n is = All (λ j. j < n) is

-- The indices after these among n elements.
unfoldable pub after : ℕ → List ℕ → Option (List ℕ)
after n [] = none
after n (i ∷ is) = if (ltb (suc i) n) (λ _. some (suc i ∷ is)) (λ _. case_o (after n is) (λ _. none) (λ js. some (0 ∷ js)))

-- A list, if there is one.
abbrev pub perhaps : Bool → List ℕ → Option (List ℕ)
perhaps true c = some c
perhaps false c = none

-- Every first element before the choices of the others.
unfoldable pub spread : List ℕ → List (List ℕ) → List (List ℕ)
spread d cs = flat (map (λ (c : List ℕ). map (λ (e : ℕ). e ∷ c) d) cs)

-- The choices from the indices on.
unfoldable pub onward : ℕ → List ℕ → List ℕ → List (List ℕ)
onward zero d is = [] ∷ []
onward (suc v) d [] = []
onward (suc v) d (i ∷ is) = case_l (onward v d is) (λ _. []) (λ c cs. map (λ (e : ℕ). e ∷ c) (drop i d) ++ spread d cs)

-- From index 0 on: all first elements.
whole : (d : List ℕ) (cs : List (List ℕ)) → case_l cs (λ _. []) (λ c cs. map (λ (e : ℕ). e ∷ c) d ++ spread d cs) ≡ spread d cs
unfolding case_l spread flat
whole d [] = refl
whole d (c ∷ cs) = refl

pub onward_all : (v : ℕ) (d : List ℕ) → onward v d (replicate v 0) ≡ choices v d
unfolding onward choices spread
onward_all zero d = refl
onward_all (suc v) d = ap (λ cs. case_l cs (λ _. []) (λ c cs. map (λ (e : ℕ). e ∷ c) d ++ spread d cs)) (onward_all v d) ∙ whole d (choices v d)

onward_none : (d : List ℕ) → onward zero d [] ≡ [] ∷ case_o none (λ _. []) (onward zero d)
unfolding onward case_o
onward_none d = refl

case_some : (js : List ℕ) (f : List ℕ → List (List ℕ)) → case_o (some js) (λ _. []) f ≡ f js
unfolding case_o
case_some js f = refl

-- What is visited from first index i on, behind a choice c of the others that is followed by cs.
turn : List ℕ → ℕ → List ℕ → List (List ℕ) → List (List ℕ)
turn d i c cs = map (λ (e : ℕ). e ∷ c) (drop i d) ++ spread d cs

onward_turn : (v : ℕ) (d : List ℕ) (i : ℕ) (is c : List ℕ) (cs : List (List ℕ)) → onward v d is ≡ c ∷ cs → onward (suc v) d (i ∷ is) ≡ turn d i c cs
unfolding onward case_l turn
onward_turn v d i is c cs e = ap (λ l. case_l l (λ _. []) (λ c cs. map (λ (e : ℕ). e ∷ c) (drop i d) ++ spread d cs)) e

turn_next : (d : List ℕ) (i : ℕ) (c : List ℕ) (cs : List (List ℕ)) → i < length d → turn d i c cs ≡ (get_or d i 0 ∷ c) ∷ turn d (suc i) c cs
unfolding turn
turn_next d i c cs h = ap (λ l. map (λ (e : ℕ). e ∷ c) l ++ spread d cs) (drop-cons d i 0 h)

turn_end : (d : List ℕ) (i : ℕ) (c : List ℕ) (cs : List (List ℕ)) → length d ≤ i → turn d i c cs ≡ spread d cs
unfolding turn
turn_end d i c cs h = ap (λ l. map (λ (e : ℕ). e ∷ c) l ++ spread d cs) (drop_of_length-le d h)

-- The others move on by one, and the first starts again.
carried : (v : ℕ) (d : List ℕ) (o : Option (List ℕ)) → spread d (case_o o (λ _. []) (onward v d)) ≡ case_o (case_o o (λ _. none) (λ js. some (0 ∷ js))) (λ _. []) (onward (suc v) d)
unfolding onward case_o spread flat
carried v d none = refl
carried v d (some js) = sym (whole d (onward v d js))

-- A choice and those after it.
pub onward_next : (v : ℕ) (d is : List ℕ) → length is ≡ v → Below (length d) is
    → onward v d is ≡ chosen d is ∷ case_o (after (length d) is) (λ _. []) (onward v d)
unfolding after
onward_next zero d [] l b = onward_none d
onward_next zero d (i ∷ is) l b = absurd (omega arith)
onward_next (suc v) d [] l b = absurd (omega arith)
onward_next (suc v) d (i ∷ is) l b =
    let cs = case_o (after (length d) is) (λ _. []) (onward v d) in
    let r : onward v d is ≡ chosen d is ∷ cs = onward_next v d is (omega arith) b.1 in
    onward_turn v d i is (chosen d is) cs r ∙ turn_next d i (chosen d is) cs b.0
    ∙ ap (λ (l : List (List ℕ)). chosen d (i ∷ is) ∷ l) (if_elim (λ o. turn d (suc i) (chosen d is) cs ≡ case_o o (λ _. []) (onward (suc v) d)) (ltb (suc i) (length d)) _ _
    (λ t. sym (onward_turn v d (suc i) is (chosen d is) cs r) ∙ sym (case_some (suc i ∷ is) (onward (suc v) d)))
    (λ t. turn_end d (suc i) (chosen d is) cs (nltb→le (suc i) (length d) t) ∙ carried v d (after (length d) is)))

-- ---- the first choice that passes a test

module _ (p : List ℕ → Bool) (v : ℕ) (d is : List ℕ) (l : length is ≡ v) (b : Below (length d) is) where
  -- It is this one,
  pub first_here : p (chosen d is) ≡ true → first_of p (onward v d is) ≡ some (chosen d is)
  unfolding first_of if
  first_here t = ap (first_of p) (onward_next v d is l b) ∙ ap (λ x. if x (λ _. some (chosen d is)) (λ _. first_of p (case_o (after (length d) is) (λ _. []) (onward v d)))) t

  -- or the first of those after it,
  pub first_later : p (chosen d is) ≡ false → (js : List ℕ) → after (length d) is ≡ some js → first_of p (onward v d is) ≡ first_of p (onward v d js)
  unfolding first_of if case_o
  first_later t js e =
      ap (first_of p) (onward_next v d is l b) ∙ ap (λ x. if x (λ _. some (chosen d is)) (λ _. first_of p (case_o (after (length d) is) (λ _. []) (onward v d)))) t
      ∙ ap (λ o. first_of p (case_o o (λ _. []) (onward v d))) e

  -- or there is none.
  pub first_never : p (chosen d is) ≡ false → after (length d) is ≡ none → first_of p (onward v d is) ≡ none
  unfolding first_of if case_o
  first_never t e =
      ap (first_of p) (onward_next v d is l b) ∙ ap (λ x. if x (λ _. some (chosen d is)) (λ _. first_of p (case_o (after (length d) is) (λ _. []) (onward v d)))) t
      ∙ ap (λ o. first_of p (case_o o (λ _. []) (onward v d))) e

-- Over an empty domain free variables have no choice.
pub none_chosen : (v : ℕ) → 0 < v → choices v [] ≡ []
unfolding choices flat
none_chosen zero h = absurd (omega arith)
none_chosen (suc v) h = go (choices v [])
  where
    go : (cs : List (List ℕ)) → flat (map (λ (c : List ℕ). map (λ (e : ℕ). e ∷ c) []) cs) ≡ []
    go [] = refl
    go (c ∷ cs) = go cs
