-- Each promise has an outcome at every input, any two outcomes that have it are equal, and a refused call changes no byte and
-- answers one of its numbers.
use Rattle.std.specs.Prelude.{◌≡◌, refl, ℕ, ◌⊎◌, Bool, not, T, eqb}
use Rattle.std.proofs.Common.{sym, ◌∙◌, arith}
use Rattle.std.proofs.Math.Logic.{inl, inr}
use Rattle.base.specs.BranchLaws.{if_elim, case_l_elim, neqb→ne}
use Rattle.rules.specs.Book.{rules}
use Rattle.rules.specs.Reading.{Bytes}
use Rattle.rules.specs.Sheet.{limits}
use Rattle.rules.specs.Image.{pool_in}
use Rattle.rules.specs.Calls.{bound_of, known_bound, Outcome, outcome, open_call, step_call, RunOutcome, run_call, TakeOutcome, take_outcome, take_call, OpenPromise, StepPromise, RunPromise, TakePromise}
use Rattle.pools.specs.Stops.{Stops, step_stops, run_stops}
use Rattle.demands.specs.Refusals.{Refusal, checked_elim, soundly_elim}
use Rattle.demands.specs.Kept.{SoundFor}

-- ---- what each call may answer

-- A call is done, or it is refused by a number up to the last one that it checks, and no lent byte differs from before.
abbrev pub DoneOr : ℕ → Bytes → Outcome → Type 0
DoneOr last pool o = (o.answer ≡ 0) ⊎ (Refusal last o.answer × (o.pool ≡ pool))

-- A take: "1 to 13, then 18, 19".
abbrev pub TakenOr : Bytes → Bytes → TakeOutcome → Type 0
TakenOr pool out o = (o.answer ≡ 0) ⊎ ((Refusal 13 o.answer ⊎ ((o.answer ≡ 18) ⊎ (o.answer ≡ 19))) × ((o.pool ≡ pool) × (o.out ≡ out)))

-- "A run that passes 1 to 13 is no refusal": it found a book without fault, a pool that is sound for it and a known bound, and answers 0
-- or 14 to 17. Any other answers 1 to 13 and no steps, and no byte differs from before.
abbrev pub RanOr : Bytes → Bytes → Bool → RunOutcome → Type 0
RanOr book pool known o = (SoundFor book pool × (T known × Stops o.stop)) ⊎ (Refusal 13 o.stop × ((o.steps ≡ 0) × (o.pool ≡ pool)))

behind : (n : ℕ) → Stops n → T (not (eqb n 0)) → Refusal 17 n
behind n (inl e) z = absurd (neqb→ne n 0 z e)
behind n (inr s) z = record { some = omega (arith, s.0); most = s.1 }

module _ (book pool : Bytes) where
  -- ---- open

  pub open_has : (sc st : ℕ) → (answer : ℕ) × (after : Bytes) × OpenPromise book pool sc st answer after
  open_has sc st = ((open_call book pool sc st).answer, (open_call book pool sc st).pool, record { answers = refl; leaves = refl })

  pub open_one : (sc st a a' : ℕ) (p p' : Bytes) → OpenPromise book pool sc st a p → OpenPromise book pool sc st a' p' → (a ≡ a') × (p ≡ p')
  open_one sc st a a' p p' x y = (x.answers ∙ sym y.answers, x.leaves ∙ sym y.leaves)

  -- ---- step

  pub step_has : (bound number : ℕ) → (answer : ℕ) × (after : Bytes) × StepPromise book pool bound number answer after
  step_has bound number = ((step_call book pool bound number).answer, (step_call book pool bound number).pool, record { answers = refl; leaves = refl })

  pub step_one : (bound number a a' : ℕ) (p p' : Bytes) → StepPromise book pool bound number a p → StepPromise book pool bound number a' p' → (a ≡ a') × (p ≡ p')
  step_one bound number a a' p p' x y = (x.answers ∙ sym y.answers, x.leaves ∙ sym y.leaves)

  -- ---- run

  pub run_has : (bound number budget : ℕ) → (stop steps : ℕ) × (after : Bytes) × RunPromise book pool bound number budget stop steps after
  run_has bound number budget =
      ((run_call book pool bound number budget).stop, (run_call book pool bound number budget).steps, (run_call book pool bound number budget).pool, record { stops = refl; counts = refl; leaves = refl })

  pub run_one : (bound number budget s s' k k' : ℕ) (p p' : Bytes) → RunPromise book pool bound number budget s k p → RunPromise book pool bound number budget s' k' p'
      → (s ≡ s') × (k ≡ k') × (p ≡ p')
  run_one bound number budget s s' k k' p p' x y = (x.stops ∙ sym y.stops, x.counts ∙ sym y.counts, x.leaves ∙ sym y.leaves)

  -- ---- take

  pub take_has : (list : ℕ) (out : Bytes) → (answer : ℕ) × (after written : Bytes) × TakePromise book pool list out answer after written
  take_has list out =
      ((take_call book pool list out).answer, (take_call book pool list out).pool, (take_call book pool list out).out, record { answers = refl; leaves = refl; writes = refl })

  pub take_one : (list : ℕ) (out : Bytes) (a a' : ℕ) (p p' o o' : Bytes) → TakePromise book pool list out a p o → TakePromise book pool list out a' p' o'
      → (a ≡ a') × (p ≡ p') × (o ≡ o')
  take_one list out a a' p p' o o' x y = (x.answers ∙ sym y.answers, x.leaves ∙ sym y.leaves, x.writes ∙ sym y.writes)

  -- ---- and it answers so

  pub open_refused : (sc st : ℕ) → DoneOr 12 pool (open_call book pool sc st)
  unfolding open_call outcome
  open_refused sc st = checked_elim (DoneOr 12 pool) book pool _ _ _ (λ _ r. inr (r, refl)) (λ _ _. inl refl)

  pub step_refused : (bound number : ℕ) → DoneOr 17 pool (step_call book pool bound number)
  unfolding step_call outcome
  step_refused bound number =
      soundly_elim (DoneOr 17 pool) book pool _ _ _ (λ _ r. inr (record { some = r.some; most = omega (arith, r.most) }, refl)) (λ b _ _.
      if_elim (DoneOr 17 pool) _ _ _ (λ _. inl refl) (λ z. inr (behind _ (step_stops limits (bound_of bound number) (rules b) (pool_in limits pool)) z, refl)))

  pub take_refused : (list : ℕ) (out : Bytes) → TakenOr pool out (take_call book pool list out)
  unfolding take_call take_outcome
  take_refused list out =
      soundly_elim (TakenOr pool out) book pool _ _ _ (λ _ r. inr (inl r, (refl, refl))) (λ _ _ _.
      case_l_elim (TakenOr pool out) _ _ _ (λ _. inr (inr (inl refl), (refl, refl))) (λ _ _ _.
      if_elim (TakenOr pool out) _ _ _ (λ _. inr (inr (inr refl), (refl, refl))) (λ _. inl refl)))

  pub run_refused : (bound number budget : ℕ) → RanOr book pool (known_bound bound number) (run_call book pool bound number budget)
  unfolding run_call
  run_refused bound number budget = soundly_elim (RanOr book pool (known_bound bound number)) book pool _ _ _ (λ _ r. inr (r, (refl, refl))) (λ b p t. inl (
    record { says = b; end = p.end; reads = p.reads; length_right = p.length_right; is_sound = t },
    (p.known, run_stops limits budget (bound_of bound number) (rules b) (pool_in limits pool)),
  ))
