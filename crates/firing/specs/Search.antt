-- The search for the first choice that fires: the choices from the indices on have the whole's answer.
use Rattle.std.specs.Prelude.{◌≡◌, refl, ℕ, zero, suc, ◌-◌, ◌≤◌, ◌<◌, Bool, true, false, length, get_or, take, replicate}
use Rattle.std.proofs.Math.Path.{sym, ap}
use Rattle.std.proofs.Common.{◌∙◌, subst, arith}
use Rattle.std.proofs.Math.Option.{Option, none, some}
use mathlib.Core.List.{List, [], ◌∷◌}
use Rattle.base.specs.Branch.{case_o}
use Rattle.base.specs.Lists.{All, first_of}
use Rattle.base.specs.ListLaws.{all_map, all_get_d}
use Rattle.rules.specs.Book.{Sequent, completed}
use Rattle.rules.specs.Reading.{Bytes, num}
use Rattle.rules.specs.Sheet.{Model, domain}
use Rattle.rules.specs.Fire.{fires, choices}
use Rattle.texts.specs.Names.{names_in}
use Rattle.texts.specs.Text.{LiteralText}
use Rattle.texts.specs.Parts.{sequent_grows}
use Rattle.skips.specs.Rest.{SkipsMany}
use Rattle.choosing.specs.Choosing.{chosen, Below, after, perhaps, onward, onward_all, onward_next, first_here, first_later, first_never, none_chosen}
use Rattle.firing.specs.Answers.{SequentAt, Fires, FirstChoice}

-- As FirstChoice, where the number of free variables and the place of the head are known.
abbrev pub FirstFrom : Bytes → Bytes → ℕ → ℕ → List ℕ → List ℕ → List ℕ → Bool → List ℕ → Type 0
FirstFrom book text at v keys facts dom r env =
    (m : Model) (q : Sequent) (s : SequentAt book text keys facts dom m q) → v ≡ q.free → at ≡ s.stands.middle
    → first_of (fires m (completed q)) (choices v (domain m)) ≡ perhaps r (take v env)

abbrev pub Searching : Bytes → Bytes → ℕ → ℕ → List ℕ → List ℕ → List ℕ → List ℕ → Type 0
Searching book text at v keys facts dom is =
    (m : Model) (q : Sequent) (s : SequentAt book text keys facts dom m q) → v ≡ q.free → at ≡ s.stands.middle
    → first_of (fires m (completed q)) (choices v (domain m)) ≡ first_of (fires m (completed q)) (onward v dom is)

module _ (book text : Bytes) (at v : ℕ) (keys facts dom : List ℕ) where
  pub search_start : Searching book text at v keys facts dom (replicate v 0)
  search_start m q s z w = ap (first_of (fires m (completed q))) (ap (choices v) (sym s.sees.shown.domain_is) ∙ sym (onward_all v dom))

  module _ (is env : List ℕ) (l : length is ≡ v) (b : Below (length dom) is) (e : take v env ≡ chosen dom is) (so : Searching book text at v keys facts dom is) where
    fired : (r : Bool) → Fires book text at env v keys facts dom r → (m : Model) (q : Sequent) (s : SequentAt book text keys facts dom m q) → v ≡ q.free → at ≡ s.stands.middle
        → fires m (completed q) (chosen dom is) ≡ r
    fired r f m q s z w = ap (fires m (completed q)) (sym e) ∙ sym (f m q s z w)

    pub search_found : Fires book text at env v keys facts dom true → (env' : List ℕ) → take v env' ≡ take v env → FirstFrom book text at v keys facts dom true env'
    search_found f env' k m q s z w = so m q s z w ∙ first_here (fires m (completed q)) v dom is l b (fired true f m q s z w) ∙ ap some (sym (k ∙ e))

    pub search_next : Fires book text at env v keys facts dom false → (js : List ℕ) → after (length dom) is ≡ some js → Searching book text at v keys facts dom js
    search_next f js a m q s z w = so m q s z w ∙ first_later (fires m (completed q)) v dom is l b (fired false f m q s z w) js a

    pub search_none : Fires book text at env v keys facts dom false → after (length dom) is ≡ none → (env' : List ℕ) → FirstFrom book text at v keys facts dom false env'
    search_none f a env' m q s z w = so m q s z w ∙ first_never (fires m (completed q)) v dom is l b (fired false f m q s z w) a

-- The indices 0, 0, .. are below the size of a domain, unless there is none and an index is wanted.
pub zeros_below : (v n : ℕ) → (0 < v → 0 < n) → Below n (replicate v 0)
zeros_below zero n h = tt
zeros_below (suc v) n h = (h (omega arith), zeros_below v n (λ _. h (omega arith)))

-- The choices left grow fewer.
pub choices_fall : (v : ℕ) (d is js : List ℕ) → length is ≡ v → Below (length d) is → after (length d) is ≡ some js → length (onward v d js) < length (onward v d is)
unfolding case_o
choices_fall v d is js l b e =
    let p : length (onward v d is) ≡ suc (length (onward v d js)) =
    ap (λ (cs : List (List ℕ)). length cs) (onward_next v d is l b) ∙ ap (λ (o : Option (List ℕ)). suc (length (case_o o (λ _. []) (onward v d)))) e in
    omega arith

-- ---- the indices that a search starts with

pub zeros_four : (v : ℕ) → v ≤ 4 → ◌≡◌ {A = List ℕ} (take v (replicate 4 0)) (replicate v 0)
zeros_four zero h = refl
zeros_four (suc zero) h = refl
zeros_four (suc (suc zero)) h = refl
zeros_four (suc (suc (suc zero))) h = refl
zeros_four (suc (suc (suc (suc zero)))) h = refl
zeros_four (suc (suc (suc (suc (suc v))))) h = absurd (omega arith)

-- Elements chosen from a domain of octets.
pub chosen_small : (d is : List ℕ) (n : ℕ) → length d ≡ n → All (λ e. e < 256) d → Below n is → All (λ e. e < 256) (chosen d is)
chosen_small d is n l a b = all_map (λ j. j < n) (λ e. e < 256) (λ (j : ℕ). get_or d j 0) (λ j h. all_get_d (λ e. e < 256) d j 0 (omega arith) a) is b

-- ---- one law for each way out of the search over a sequent's text

empty : (d : List ℕ) → length d ≡ 0 → d ≡ []
empty [] e = refl
empty (x ∷ xs) e = absurd (omega arith)

module _ (book text : Bytes) (keys facts dom : List ℕ) (env : List ℕ) where
  pub choice_short : (r : Bool) → length text < 4 → FirstChoice book text keys facts dom r env
  choice_short r h m q s = let g = sequent_grows (names_in book) text 0 q (length text) s.stands in absurd (omega arith)

  module _ (v : ℕ) (is : v ≡ num text 0) where
    pub choice_wide : (r : Bool) → 4 < v → FirstChoice book text keys facts dom r env
    choice_wide r h m q s = let f = s.stands.free in let w = s.rule.few in absurd (omega arith)

    pub choice_none : 0 < v → length dom ≡ 0 → FirstChoice book text keys facts dom false env
    unfolding first_of
    choice_none h z m q s =
        let f : v ≡ q.free = is ∙ s.stands.free in
        let d : domain m ≡ [] = sym s.sees.shown.domain_is ∙ empty dom z in
        ap (first_of (fires m (completed q))) (ap (choices q.free) d ∙ none_chosen q.free (omega arith))

    module _ (at : ℕ) (o : SkipsMany (LiteralText (names_in book) text) (length text) 4 (num text 2) at) where
      middle : (m : Model) (q : Sequent) (s : SequentAt book text keys facts dom m q) → at ≡ s.stands.middle
      middle m q s = let g = sequent_grows (names_in book) text 0 q (length text) s.stands in o q.body s.stands.middle s.stands.body (sym s.stands.count) (omega arith)

      pub choice_cut : (r : Bool) → length text - at < 2 → FirstChoice book text keys facts dom r env
      choice_cut r h m q s =
          let g = sequent_grows (names_in book) text 0 q (length text) s.stands in
          let z = middle m q s in
          absurd (omega arith)

      pub choice_from : (r : Bool) → FirstFrom book text at v keys facts dom r env → FirstChoice book text keys facts dom r env
      choice_from r f m q s =
          let z : v ≡ q.free = is ∙ s.stands.free in
          subst (λ n. first_of (fires m (completed q)) (choices n (domain m)) ≡ perhaps r (take n env)) z (f m q s z (middle m q s))
