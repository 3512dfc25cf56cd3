-- One law for each way through counting on, and for listing the chosen elements.
use Rattle.std.specs.Prelude.{◌≡◌, ℕ, suc, ◌+◌, ◌≤◌, ◌<◌, length, get_or, take, set}
use Rattle.std.proofs.Math.Path.{refl, ap}
use Rattle.std.proofs.Common.{sym, ap₂, ◌∙◌, arith, drop_of_length-le, drop-cons, take-suc, take-suc-set, drop-set-lt, get_or-take, lt-ltb, le-ltb}
use Rattle.std.proofs.Math.Numerals.{add-one}
use Rattle.std.proofs.Math.Option.{Option, none, some}
use mathlib.Core.List.{List, [], ◌∷◌, ◌++◌}
use Rattle.std.proofs.Math.ListN.{drop}
use Rattle.std.proofs.lemmas.List.{set_split}
use Rattle.std.proofs.Math.Seq.{append_snoc}
use Rattle.base.specs.Branch.{if, case_o}
use Rattle.base.specs.ListLaws.{map_append}
use Rattle.choosing.specs.Choosing.{chosen, after}

-- The first i indices have started again: those after the first are behind them, if there are any.
abbrev pub Carries : ℕ → List ℕ → ℕ → List ℕ → Type 0
Carries n is₀ i is = after n is₀ ≡ case_o (after n (drop i is)) (λ _. none) (λ js. some (take i is ++ js))

pub carries_start : (n : ℕ) (is : List ℕ) → Carries n is 0 is
unfolding case_o
carries_start n is = go (after n is)
  where
    go : (o : Option (List ℕ)) → o ≡ case_o o (λ _. none) (λ js. some js)
    go none = refl
    go (some js) = refl

module _ (n : ℕ) (is₀ : List ℕ) (i : ℕ) (is : List ℕ) (c : Carries n is₀ i is) where
  pub carries_end : length is ≤ i → after n is₀ ≡ none
  unfolding case_o after
  carries_end h = c ∙ ap (λ (l : List ℕ). case_o (after n l) (λ _. none) (λ js. some (take i is ++ js))) (drop_of_length-le is h)

  module _ (h : i < length is) where
    here : after n is₀ ≡ case_o (after n (get_or is i 0 ∷ drop (suc i) is)) (λ _. none) (λ js. some (take i is ++ js))
    here = c ∙ ap (λ (l : List ℕ). case_o (after n l) (λ _. none) (λ js. some (take i is ++ js))) (drop-cons is i 0 h)

    pub carries_stop : get_or is i 0 + 1 < n → after n is₀ ≡ some (set is i (get_or is i 0 + 1))
    unfolding case_o after if
    carries_stop l =
        here ∙ ap (λ b. case_o (if b (λ _. some (suc (get_or is i 0) ∷ drop (suc i) is)) (λ _. case_o (after n (drop (suc i) is)) (λ _. none) (λ js. some (0 ∷ js)))) (λ _. none) (λ js. some (take i is ++ js))) (lt-ltb (suc (get_or is i 0)) n (omega arith))
        ∙ ap some (rw add-one (sym (set_split is i (suc (get_or is i 0)) h)))

    pub carries_on : n ≤ get_or is i 0 + 1 → Carries n is₀ (i + 1) (set is i 0)
    unfolding case_o after if
    carries_on l =
        here ∙ ap (λ b. case_o (if b (λ _. some (suc (get_or is i 0) ∷ drop (suc i) is)) (λ _. case_o (after n (drop (suc i) is)) (λ _. none) (λ js. some (0 ∷ js)))) (λ _. none) (λ js. some (take i is ++ js))) (le-ltb (suc (get_or is i 0)) n (omega arith))
        ∙ go (after n (drop (suc i) is))
        ∙ rw add-one (ap₂ (λ (a b : List ℕ). case_o (after n a) (λ _. none) (λ js. some (b ++ js))) (sym (drop-set-lt (suc i) is i 0 (omega arith))) (sym (take-suc-set is i 0 h)))
      where
        go : (o : Option (List ℕ)) → case_o (case_o o (λ _. none) (λ js. some (0 ∷ js))) (λ _. none) (λ js. some (take i is ++ js)) ≡ case_o o (λ _. none) (λ js. some (take i is ++ (0 ∷ []) ++ js))
        go none = refl
        go (some js) = ap some (sym (append_snoc (take i is) 0 js))

-- ---- the chosen elements

abbrev pub Chooses : List ℕ → List ℕ → ℕ → List ℕ → Type 0
Chooses d is i env = take i env ≡ chosen d (take i is)

pub chooses_next : (dom : List ℕ) (nd : ℕ) (is : List ℕ) (i : ℕ) (env : List ℕ) → i < length is → i < length env → get_or is i 0 < nd → Chooses (take nd dom) is i env
    → Chooses (take nd dom) is (i + 1) (set env i (get_or dom (get_or is i 0) 0))
chooses_next dom nd is i env h l b c =
    rw add-one (take-suc-set env i (get_or dom (get_or is i 0) 0) l)
    ∙ ap₂ (λ (a : List ℕ) (x : ℕ). a ++ (x ∷ [])) c (sym (get_or-take nd dom (get_or is i 0) 0 b))
    ∙ sym (ap (chosen (take nd dom)) (rw add-one (take-suc is i 0 h)) ∙ map_append (λ (j : ℕ). get_or (take nd dom) j 0) (take i is) (get_or is i 0 ∷ []))
