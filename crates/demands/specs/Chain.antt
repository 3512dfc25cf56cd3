-- Where the pool is sound for the book and the bound is known, a run is a chain of steps: it answers (stop, k) and leaves t exactly
-- when t comes from the pool by k unrefused steps, k is within the budget, and either the budget is spent and stop is 0, or it is not
-- and the next step from t is refused with stop.
use Rattle.std.specs.Prelude.{◌≡◌, refl, Bool, ◌⊎◌, length, T, eqb}
use Rattle.std.proofs.Math.Path.{sym, ap, subst}
use Rattle.std.proofs.Common.{◌∙◌}
use Prim.Native.Nat.{ℕ, zero, suc, ◌-◌, ◌≤◌, ◌<◌}
use Rattle.std.proofs.Math.Nat.{le_refl}
use native.Mathlib.Omega.{arith}
use Rattle.std.proofs.Math.Logic.{inl, inr}
use Rattle.base.specs.Branch.{if}
use Rattle.base.specs.BranchLaws.{if_elim, if_true, if_false, neqb→ne}
use Rattle.rules.specs.Book.{Book, rules}
use Rattle.rules.specs.Reading.{Bytes, read_book, got, case_read}
use Rattle.rules.specs.Sheet.{limits}
use Rattle.rules.specs.Bound.{Bound}
use Rattle.rules.specs.Pool.{State}
use Rattle.rules.specs.Step.{step, Ran, run}
use Rattle.rules.specs.Image.{pool_bytes, pool_in}
use Rattle.rules.specs.Sound.{sound}
use Rattle.rules.specs.Calls.{right_length, bound_of, known_bound, checked, soundly, Outcome, outcome, step_call, RunOutcome, run_call, StepPromise, RunPromise}
use Rattle.pools.specs.Tidy.{Tidy}
use Rattle.pools.specs.Steps.{step_tidy, step_size}
use Rattle.demands.specs.Kept.{Roomy, SoundFor, kids_sound, fits_roomy, back, image_fits, image_sound, sound_tidy, sound_image, same_roomy}
use Rattle.demands.specs.Outcomes.{step_one}

-- A call that nothing refuses goes on.
soundly_goes : {A : Type 0} (book pool : Bytes) (settings : Bool) (refusing : ℕ → A) (going : Book → State → A) (b : Book) (e : ℕ) → read_book book ≡ got b e
    → T (right_length (length pool)) → T settings → T (sound limits b pool) → soundly book pool settings refusing going ≡ going b (pool_in limits pool)
unfolding soundly checked case_read
soundly_goes book pool settings refusing going b e r l k t =
    ap (λ x. case_read x (λ n at. refusing n) (λ c end. if (right_length (length pool)) (λ _. if settings (λ _. if (sound limits c pool) (λ _. going c (pool_in limits pool)) (λ _. refusing 13)) (λ _. refusing 12)) (λ _. refusing 11))) r
    ∙ if_true (right_length (length pool)) _ _ l ∙ if_true settings _ _ k ∙ if_true (sound limits b pool) _ _ t

-- t comes from p by k unrefused steps.
pub data Chain (book : Bytes) (bound number : ℕ) : ℕ → Bytes → Bytes → Type 0 where
  none : (p : Bytes) → Chain book bound number 0 p p
  more : (k : ℕ) (p q t : Bytes) → StepPromise book p bound number 0 q → Chain book bound number k q t → Chain book bound number (suc k) p t

-- How a run with budget n from p ends.
pub record Ends (book : Bytes) (bound number n stop k : ℕ) (p t : Bytes) : Type 0 where
  pub chain : Chain book bound number k p t
  pub within : k ≤ n
  pub ended : ((stop ≡ 0) × (k ≡ n)) ⊎ ((k < n) × (1 ≤ stop) × StepPromise book t bound number stop t)

module _ (book : Bytes) (b : Book) (e : ℕ) (r : read_book book ≡ got b e) (bound number : ℕ) (known : T (known_bound bound number)) where
  abbrev bd : Bound
  bd = bound_of bound number

  -- A step call on the image of a tidy state is the step of that state.
  step_at : (s : State) → Tidy limits b s → Roomy s → step_call book (pool_bytes limits s) bound number
      ≡ if (eqb (step limits bd (rules b) s).refusal 0) (λ _. outcome 0 (pool_bytes limits (step limits bd (rules b) s).state)) (λ _. outcome (step limits bd (rules b) s).refusal (pool_bytes limits s))
  unfolding step_call
  step_at s g w =
      soundly_goes book (pool_bytes limits s) _ _ _ b e r (image_fits book b e r s g w) known (image_sound book b e r s g w)
      ∙ ap (λ x. if (eqb (step limits bd (rules b) x).refusal 0) (λ _. outcome 0 (pool_bytes limits (step limits bd (rules b) x).state)) (λ _. outcome (step limits bd (rules b) x).refusal (pool_bytes limits s))) (back book b e r s g w)

  abbrev Ended : ℕ → State → Ran → Type 0
  Ended n s q = Ends book bound number n q.stop q.steps (pool_bytes limits s) (pool_bytes limits q.state)

  -- One step more in front.
  longer : (n stop k : ℕ) (p q t : Bytes) → StepPromise book p bound number 0 q → Ends book bound number n stop k q t → Ends book bound number (suc n) stop (suc k) p t
  longer n stop k p q t c i = record {
    chain = more k p q t c i.chain;
    within = let w = i.within in omega arith;
    ended = elim i.ended [ inl u ↦ inl (u.0, ap suc u.1) | inr u ↦ inr (let l = u.0 in omega arith, u.1, u.2) ];
  }

  promised : (p q : Bytes) (n : ℕ) → step_call book p bound number ≡ outcome n q → StepPromise book p bound number n q
  unfolding outcome
  promised p q n c = record { answers = sym (ap (λ (o : Outcome). o.answer) c); leaves = sym (ap (λ (o : Outcome). o.pool) c) }

  run_ends : (n : ℕ) (s : State) → Tidy limits b s → Roomy s → Ended n s (run limits n bd (rules b) s)
  unfolding run
  run_ends zero s g w = record { chain = none (pool_bytes limits s); within = le_refl 0; ended = inl (refl, refl) }
  run_ends (suc n) s g w =
      let a = step limits bd (rules b) s in
      let p = pool_bytes limits s in
      if_elim (Ended (suc n) s) _ _ _
      (λ t. longer n _ _ p _ _ (promised p (pool_bytes limits a.state) 0 (step_at s g w ∙ if_true (eqb a.refusal 0) _ _ t))
      (run_ends n a.state (step_tidy limits b (kids_sound book b e r) bd s g) (same_roomy s _ (step_size limits bd (rules b) s) w)))
      (λ t. let z = neqb→ne a.refusal 0 t in record {
        chain = none p;
        within = omega arith;
        ended = inr (omega arith, omega arith, promised p p a.refusal (step_at s g w ∙ if_false (eqb a.refusal 0) _ _ t));
      })

  -- How a run stands after k steps, at t.
  abbrev Stopped : ℕ → ℕ → ℕ → Bytes → Type 0
  Stopped n stop k t = ((stop ≡ 0) × (k ≡ n)) ⊎ ((k < n) × (1 ≤ stop) × StepPromise book t bound number stop t)

  one_stop : (n stop stop' k : ℕ) (t : Bytes) → Stopped n stop k t → Stopped n stop' k t → stop ≡ stop'
  one_stop n stop stop' k t (inl u) (inl v) = u.0 ∙ sym v.0
  one_stop n stop stop' k t (inl u) (inr v) = let a = u.1 in let c = v.0 in absurd (omega arith)
  one_stop n stop stop' k t (inr u) (inl v) = let a = u.0 in let c = v.1 in absurd (omega arith)
  one_stop n stop stop' k t (inr u) (inr v) = (step_one book t bound number stop stop' t t u.2 v.2).0

  -- A run does not stop where a step goes on.
  goes_on : (n stop : ℕ) (p q : Bytes) → 1 ≤ n → Stopped n stop 0 p → StepPromise book p bound number 0 q → ⊥
  goes_on n stop p q l (inl u) c = let a = u.1 in omega arith
  goes_on n stop p q l (inr u) c = let a = (step_one book p bound number stop 0 p q u.2 c).0 in let d = u.1 in omega arith

  after_one : (n stop k : ℕ) (t : Bytes) → Stopped n stop (suc k) t → Stopped (n - 1) stop k t
  after_one n stop k t (inl u) = inl (u.0, let a = u.1 in omega arith)
  after_one n stop k t (inr u) = inr (let a = u.0 in omega arith, u.1, u.2)

  -- Two runs with one budget from one pool end alike.
  one_end : (k k' n stop stop' : ℕ) (p t t' : Bytes) → Chain book bound number k p t → Chain book bound number k' p t' → k ≤ n → k' ≤ n
      → Stopped n stop k t → Stopped n stop' k' t' → (stop ≡ stop') × (k ≡ k') × (t ≡ t')
  one_end _ _ n stop stop' _ _ _ (none p) (none _) l m u v = (one_stop n stop stop' 0 p u v, refl, refl)
  one_end _ _ n stop stop' _ _ _ (none p) (more k _ q t c d) l m u v = absurd (goes_on n stop p q (omega arith) u c)
  one_end _ _ n stop stop' _ _ _ (more k p q t c d) (none _) l m u v = absurd (goes_on n stop' p q (omega arith) v c)
  one_end _ _ n stop stop' _ _ _ (more k p q t c d) (more k' _ q' t' c' d') l m u v =
      let e = (step_one book p bound number 0 0 q q' c c').1 in
      let i = one_end k k' (n - 1) stop stop' q t t' d (subst (λ x. Chain book bound number k' x t') (sym e) d') (omega arith) (omega arith) (after_one n stop k t u) (after_one n stop' k' t' v) in
      (i.0, ap suc i.1, i.2)

  -- A run call on a sound pool is the run of its state.
  run_at : (p : Bytes) → T (right_length (length p)) → T (sound limits b p) → (n : ℕ) → Ends book bound number n (run_call book p bound number n).stop (run_call book p bound number n).steps p (run_call book p bound number n).pool
  unfolding run_call
  run_at p l t n =
      subst (λ (o : RunOutcome). Ends book bound number n o.stop o.steps p o.pool) (sym (soundly_goes book p _ _ _ b e r l known t))
      (subst (λ x. Ends book bound number n (run limits n bd (rules b) (pool_in limits p)).stop (run limits n bd (rules b) (pool_in limits p)).steps x (pool_bytes limits (run limits n bd (rules b) (pool_in limits p)).state))
      (sound_image b p t) (run_ends n (pool_in limits p) (sound_tidy b p t) (fits_roomy p l)))

-- A run that passes 1 to 13 answers (stop, k) and leaves t exactly when it ends so.
pub run_is_chain : (book pool : Bytes) → SoundFor book pool → (bound number : ℕ) → T (known_bound bound number) → (budget stop k : ℕ) (t : Bytes)
    → (RunPromise book pool bound number budget stop k t → Ends book bound number budget stop k pool t)
    × (Ends book bound number budget stop k pool t → RunPromise book pool bound number budget stop k t)
run_is_chain book pool g bound number known budget stop k t =
    let i = run_at book g.says g.end g.reads bound number known pool g.length_right g.is_sound budget in (
      (λ p. subst (λ (o : RunOutcome). Ends book bound number budget o.stop o.steps pool o.pool) (λ j. record { stop = sym p.stops j; steps = sym p.counts j; pool = sym p.leaves j }) i),
      (λ q. let z = one_end book g.says g.end g.reads bound number known k _ budget stop _ pool t _ q.chain i.chain q.within i.within q.ended i.ended in
          record { stops = z.0; counts = z.1; leaves = z.2 }),
    )
