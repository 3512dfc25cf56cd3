-- Refusals 1 to 13 of step and run, and the step behind them.
use Rattle.std.specs.Prelude.{◌≡◌, ℕ, ◌≤◌, ◌<◌, Bool, not, ◌&&◌, ◌||◌, List, length, Result, MatchResult}
use Rattle.std.proofs.Math.Path.{refl, sym, ap, subst}
use Rattle.std.proofs.Common.{◌∙◌, arith, lt-ltb, le-ltb, eq-eqb, ne_eqb, eqb-true}
use Rattle.std.proofs.Math.Bool.{true, false}
use Rattle.std.proofs.Math.Dec.{T, eqb}
use Rattle.std.proofs.lemmas.Bool.{eqb-false}
use Rattle.base.specs.Branch.{if}
use Rattle.rules.specs.Book.{Book, rules}
use Rattle.rules.specs.Reading.{Bytes, Read, got, refused, case_read, read_book}
use Rattle.rules.specs.Sheet.{limits}
use Rattle.rules.specs.Pool.{State}
use Rattle.rules.specs.Image.{pool_bytes, pool_in}
use Rattle.rules.specs.Sound.{sound}
use Rattle.rules.specs.Step.{Answer, refuse, done, Ran, run}
use Rattle.rules.specs.Bound.{Bound}
use Rattle.rules.specs.Calls.{right_length, bounds, bound_of, known_bound, checked, soundly, Outcome, outcome, step_call, RunOutcome, run_call, StepPromise}
use Rattle.pools.specs.Steps.{Did, refusing, completing, failing, branching, step_did}
use Rattle.demands.specs.Refusals.{book_refusal}
use Rattle.demands.specs.Kept.{fits_roomy, sound_tidy, sound_image}
use Rattle.texts.specs.Heads.{accepted}
use Rattle.sheetparts.specs.Ways.{on, off}
use Rattle.poolcheck.specs.Books.{PoolSound}
use Rattle.openings.specs.Open.{right_true}
use Rattle.refusals.specs.declared.Refusal.{Refusal}
use Rattle.refusals.specs.Numbers as refusals
use Rattle.bound.specs.declared.Bound as declared
use Rattle.bound.specs.Bounds.{bound_is}
use Rattle.stepping.specs.Standing.{L, Standing, step_of, Stepped}

-- What a step's outcome is of the definition's answer, and a run's.
abbrev pub after_step : Bytes → Answer → Outcome
after_step p r = if (eqb r.refusal 0) (λ _. outcome 0 (pool_bytes L r.state)) (λ _. outcome r.refusal p)

abbrev pub after_run : Ran → RunOutcome
after_run r = record { stop = r.stop; steps = r.steps; pool = pool_bytes L r.state }

abbrev pub run_of : (text p : Bytes) → Standing text p → Bound → ℕ → Ran
run_of text p z bd budget = run L budget bd (rules z.book) z.state

-- Where none holds the pool stands, and the calls do what the definition does.
pub record Entry (text p : Bytes) (bound number : ℕ) : Type 0 where
  pub standing : Standing text p
  pub steps : step_call text p bound number ≡ after_step p (step_of text p standing (bound_of bound number))
  pub runs : (budget : ℕ) → run_call text p bound number budget ≡ after_run (run_of text p standing (bound_of bound number) budget)

pub record Verdict (text p : Bytes) (bound number r : ℕ) : Type 0 where
  pub refuses : (r ≡ 0 → ⊥) → (step_call text p bound number ≡ outcome r p) × ((budget : ℕ) → run_call text p bound number budget ≡ record { stop = r; steps = 0; pool = p })
  pub passes : r ≡ 0 → Entry text p bound number

-- What the checks make of a call: the bound that it means, or its refusal.
abbrev pub CallChecked : Bytes → Bytes → ℕ → ℕ → Result declared.Bound Refusal → Type 0
CallChecked text p bound number r =
    MatchResult r (λ b. Verdict text p bound number 0 × (bound_is b ≡ bound_of bound number)) (λ e. Verdict text p bound number (refusals.number e))

-- ---- which bounds document 01 knows

module _ (bound number : ℕ) where
  pub bound_unknown : 4 ≤ bound → false ≡ known_bound bound number
  unfolding known_bound bounds
  bound_unknown h = sym (ap (λ b. b && (not (eqb bound 0) || eqb number 0)) (le-ltb bound 4 h))

  module _ (h : bound < 4) where
    within : known_bound bound number ≡ not (eqb bound 0) || eqb number 0
    unfolding known_bound bounds
    within = ap (λ b. b && (not (eqb bound 0) || eqb number 0)) (lt-ltb bound 4 h)

    -- No bound is known only with the number 0.
    pub bound_none : bound ≡ 0 → (r : Bool) → r ≡ eqb number 0 → r ≡ known_bound bound number
    bound_none e r q = q ∙ sym (within ∙ ap (λ b. not b || eqb number 0) (eq-eqb bound 0 e))

    pub bound_some : (bound ≡ 0 → ⊥) → true ≡ known_bound bound number
    bound_some n = sym (within ∙ ap (λ b. not b || eqb number 0) (ne_eqb bound 0 n))

-- ---- the ways out

module _ (text p : Bytes) (bound number : ℕ) where
  abbrev settings : Bool
  settings = known_bound bound number

  refused_by : (r : ℕ) → ((A : Type 0) (f : ℕ → A) (g : Book → State → A) → soundly text p settings f g ≡ f r) → (r ≡ 0 → ⊥) → Verdict text p bound number r
  unfolding step_call run_call
  refused_by r e n = record { refuses = λ _. (e Outcome (λ n. outcome n p) _, λ budget. e RunOutcome (λ n. record { stop = n; steps = 0; pool = p }) _); passes = λ z. absurd (n z) }

  pub verdict_book : (n at : ℕ) → read_book text ≡ refused n at → Verdict text p bound number n
  unfolding soundly checked case_read
  verdict_book n at q = refused_by n (λ A f g. ap (λ (r : Read Book). case_read r (λ k _. f k) (λ b _. if (right_length (length p)) (λ _. if settings (λ _. if (sound limits b p) (λ _. g b (pool_in limits p)) (λ _. f 13)) (λ _. f 12)) (λ _. f 11))) q)
      (λ e. let z = (book_refusal text n at q).some in omega arith)

  module _ (b : Book) (end : ℕ) (q : read_book text ≡ got b end) where
    abbrev rest : {A : Type 0} → (ℕ → A) → (Book → State → A) → A
    rest f g = if (right_length (length p)) (λ _. if settings (λ _. if (sound limits b p) (λ _. g b (pool_in limits p)) (λ _. f 13)) (λ _. f 12)) (λ _. f 11)

    through : {A : Type 0} (f : ℕ → A) (g : Book → State → A) → soundly text p settings f g ≡ rest f g
    unfolding soundly checked case_read
    through f g = ap (λ (r : Read Book). case_read r (λ k _. f k) (λ b _. if (right_length (length p)) (λ _. if settings (λ _. if (sound limits b p) (λ _. g b (pool_in limits p)) (λ _. f 13)) (λ _. f 12)) (λ _. f 11))) q

    pub verdict_eleven : right_length (length p) ≡ false → Verdict text p bound number 11
    verdict_eleven e = refused_by 11 (λ A f g. through f g ∙ off (right_length (length p)) _ _ e) (λ z. omega arith)

    module _ (e : right_length (length p) ≡ true) where
      pub verdict_twelve : settings ≡ false → Verdict text p bound number 12
      verdict_twelve u = refused_by 12 (λ A f g. through f g ∙ on (right_length (length p)) _ _ e ∙ off settings _ _ u) (λ z. omega arith)

      module _ (k : settings ≡ true) (r : Bool) (s : PoolSound text p r) where
        sound_is : r ≡ sound limits b p
        sound_is = s b (accepted text b end q)

        pub verdict_unsound : r ≡ false → Verdict text p bound number 13
        verdict_unsound u = refused_by 13 (λ A f g. through f g ∙ on (right_length (length p)) _ _ e ∙ on settings _ _ k ∙ off (sound limits b p) _ _ (sym sound_is ∙ u)) (λ z. omega arith)

        module _ (u : r ≡ true) where
          going : {A : Type 0} (f : ℕ → A) (g : Book → State → A) → soundly text p settings f g ≡ g b (pool_in limits p)
          going f g = through f g ∙ on (right_length (length p)) _ _ e ∙ on settings _ _ k ∙ on (sound limits b p) _ _ (sym sound_is ∙ u)

          stands : Standing text p
          unfolding limits
          stands =
              let t : T (sound limits b p) = subst T (sym u ∙ sound_is) tt in
              record { book = b; end = end; reads = q; state = pool_in limits p; tidy = sound_tidy b p t; roomy = fits_roomy p (right_true (length p) e); image = sym (sound_image b p t) }

          pub verdict_sound : Verdict text p bound number 0
          unfolding step_call run_call limits stands
          verdict_sound = record {
            refuses = λ z. absurd (z refl);
            passes = λ _. record { standing = stands; steps = going (λ n. outcome n p) _; runs = λ budget. going (λ n. record { stop = n; steps = 0; pool = p }) _ };
          }

-- ---- the step

-- A refused step leaves its state.
pub refused_same : {lim : Rattle.rules.specs.Sheet.Limits} {bd : Rattle.rules.specs.Bound.Bound} {rs : List Rattle.rules.specs.Book.Sequent} {s : State} (r : Answer) → Did lim bd rs s r → (r.refusal ≡ 0 → ⊥) → r.state ≡ s
unfolding refuse done Rattle.rules.specs.Step.with_placed
refused_same _ (refusing n z) h = refl
refused_same _ (completing i ws e q) h = absurd (h refl)
refused_same _ (failing i ws f e q t) h = absurd (h refl)
refused_same _ (branching i ws f e q t u v) h = absurd (h refl)

module _ (text p : Bytes) (bound number : ℕ) where
  pub step_refused : (r : ℕ) → Verdict text p bound number r → (r ≡ 0 → ⊥) → StepPromise text p bound number r p
  unfolding outcome
  step_refused r v n = let e = (v.refuses n).0 in record { answers = ap (λ (x : Outcome). x.answer) (sym e); leaves = ap (λ (x : Outcome). x.pool) (sym e) }

  pub step_went : Verdict text p bound number 0 → (bd : Bound) → bd ≡ bound_of bound number → (r : ℕ) (p' : Bytes) → Stepped text bd p r p' → StepPromise text p bound number r p'
  unfolding outcome if
  step_went v bd q r p' s =
      let w = subst (λ d. Stepped text d p r p') q s in
      let g = v.passes refl in
      let z = g.standing in
      let a = step_of text p z (bound_of bound number) in
      let y = go a (step_did L (bound_of bound number) (rules z.book) z.state) (eqb a.refusal 0) refl in
      record {
        answers = (w z).0 ∙ y.0 ∙ ap (λ (x : Outcome). x.answer) (sym g.steps);
        leaves = (w z).1 ∙ y.1 ∙ ap (λ (x : Outcome). x.pool) (sym g.steps);
      }
    where
      go : (a : Answer) → Did L (bound_of bound number) (rules (v.passes refl).standing.book) (v.passes refl).standing.state a → (b : Bool) → eqb a.refusal 0 ≡ b
          → (a.refusal ≡ (if (eqb a.refusal 0) (λ _. outcome 0 (pool_bytes L a.state)) (λ _. outcome a.refusal p)).answer)
          × (pool_bytes L a.state ≡ (if (eqb a.refusal 0) (λ _. outcome 0 (pool_bytes L a.state)) (λ _. outcome a.refusal p)).pool)
      go a d true e =
          let q = ap (λ (b : Bool). if b (λ _. outcome 0 (pool_bytes L a.state)) (λ _. outcome a.refusal p)) e in
          (eqb-true a.refusal 0 e ∙ ap (λ (x : Outcome). x.answer) (sym q), ap (λ (x : Outcome). x.pool) (sym q))
      go a d false e =
          let q = ap (λ (b : Bool). if b (λ _. outcome 0 (pool_bytes L a.state)) (λ _. outcome a.refusal p)) e in
          (ap (λ (x : Outcome). x.answer) (sym q), ap (pool_bytes L) (refused_same a d (eqb-false a.refusal 0 e)) ∙ sym (v.passes refl).standing.image ∙ ap (λ (x : Outcome). x.pool) (sym q))
