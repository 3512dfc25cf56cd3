-- Steps one after another: what is left of the definition's run after some of them.
use Rattle.std.specs.Prelude.{◌≡◌, Bool, eqb}
use Rattle.std.proofs.Math.Path.{refl, sym, ap, subst}
use Rattle.std.proofs.Common.{◌∙◌, eq-eqb, ne_eqb}
use Prim.Native.Nat.{ℕ, suc, ◌+◌, ◌-◌, ◌≤◌, ◌<◌}
use native.Mathlib.Omega.{arith}
use Rattle.base.specs.Branch.{if}
use Rattle.rules.specs.Book.{rules}
use Rattle.rules.specs.Reading.{Bytes}
use Rattle.rules.specs.Sheet.{limits}
use Rattle.rules.specs.Image.{pool_bytes}
use Rattle.rules.specs.Step.{Ran, run}
use Rattle.rules.specs.Bound.{Bound}
use Rattle.rules.specs.Calls.{bound_of, RunOutcome, RunPromise}
use Rattle.pools.specs.Steps.{step_did, step_tidy, step_size}
use Rattle.demands.specs.Kept.{same_roomy, kids_sound}
use Rattle.stepping.specs.Standing.{L, Standing, step_of, Stepped}
use Rattle.running.specs.Verdict.{Verdict, run_of, refused_same}

abbrev pub RanFrom : Bytes → Bound → ℕ → Bytes → ℕ → ℕ → Bytes → Type 0
RanFrom text bd budget p stop steps p' = (z : Standing text p)
    → (stop ≡ (run_of text p z bd budget).stop) × ((steps ≡ (run_of text p z bd budget).steps) × (p' ≡ pool_bytes L (run_of text p z bd budget).state))

abbrev ahead : ℕ → Ran → Ran
ahead k r = record { stop = r.stop; steps = k + r.steps; state = r.state }

-- After k steps: what the definition still runs.
pub record Rest (text p₀ : Bytes) (bd : Bound) (budget : ℕ) (z : Standing text p₀) (k : ℕ) (p : Bytes) : Type 0 where
  pub standing : Standing text p
  pub is : run L budget bd (rules z.book) z.state ≡ ahead k (run L (budget - k) bd (rules standing.book) standing.state)

abbrev pub RunLeft : Bytes → Bound → ℕ → Bytes → ℕ → Bytes → Type 0
RunLeft text bd budget p₀ k p = (z : Standing text p₀) → Rest text p₀ bd budget z k p

module _ (text p₀ : Bytes) (bd : Bound) (budget : ℕ) where
  pub run_start : RunLeft text bd budget p₀ 0 p₀
  run_start z = record { standing = z; is = go }
    where
      go : run L budget bd (rules z.book) z.state ≡ ahead 0 (run L (budget - 0) bd (rules z.book) z.state)
      go =
          let e : budget - 0 ≡ budget = omega arith in
          let r = run L budget bd (rules z.book) z.state in
          let f : r.steps ≡ 0 + r.steps = omega arith in
          (λ i. record { stop = r.stop; steps = f i; state = r.state }) ∙ ap (λ n. ahead 0 (run L n bd (rules z.book) z.state)) (sym e)

  module _ (k : ℕ) (p : Bytes) (left : RunLeft text bd budget p₀ k p) where
    pub run_spent : budget ≤ k → k ≤ budget → RanFrom text bd budget p₀ 0 budget p
    unfolding run
    run_spent h l z =
        let r = left z in
        let e : budget - k ≡ 0 = omega arith in
        let q = r.is ∙ ap (λ n. ahead k (run L n bd (rules r.standing.book) r.standing.state)) e in
        let f : k + 0 ≡ budget = omega arith in
        (ap (λ (x : Ran). x.stop) (sym q), (sym (ap (λ (x : Ran). x.steps) q ∙ f), r.standing.image ∙ ap (λ (x : Ran). pool_bytes L x.state) (sym q)))

    module _ (h : k < budget) (n : ℕ) (p' : Bytes) (w : Stepped text bd p n p') where
      -- One step of what is left.
      one : (s : Standing text p) → run L (budget - k) bd (rules s.book) s.state
          ≡ if (eqb (step_of text p s bd).refusal 0)
          (λ _. let q = run L (budget - (k + 1)) bd (rules s.book) (step_of text p s bd).state in record { stop = q.stop; steps = suc q.steps; state = q.state })
          (λ _. record { stop = (step_of text p s bd).refusal; steps = 0; state = s.state })
      unfolding run
      one s = let e : budget - k ≡ suc (budget - (k + 1)) = omega arith in ap (λ m. run L m bd (rules s.book) s.state) e

      pub run_stopped : (n ≡ 0 → ⊥) → RanFrom text bd budget p₀ n k p'
      unfolding if
      run_stopped ne₀ z =
          let r = left z in
          let s = r.standing in
          let a = step_of text p s bd in
          let ne : a.refusal ≡ 0 → ⊥ = λ e. ne₀ ((w s).0 ∙ e) in
          let q = r.is ∙ ap (ahead k) (one s ∙ ap (λ (b : Bool). if b
          (λ _. let q = run L (budget - (k + 1)) bd (rules s.book) a.state in record { stop = q.stop; steps = suc q.steps; state = q.state })
          (λ _. record { stop = a.refusal; steps = 0; state = s.state })) (ne_eqb a.refusal 0 ne)) in
          let f : k + 0 ≡ k = omega arith in (
            (w s).0 ∙ ap (λ (x : Ran). x.stop) (sym q),
            (
              sym (ap (λ (x : Ran). x.steps) q ∙ f),
              (w s).1 ∙ ap (pool_bytes L) (refused_same a (step_did L bd (rules s.book) s.state) ne) ∙ ap (λ (x : Ran). pool_bytes L x.state) (sym q),
            ),
          )

      -- A step that was made leaves a pool that stands.
      stands : (s : Standing text p) → Standing text p'
      unfolding limits
      stands s = record {
        book = s.book;
        end = s.end;
        reads = s.reads;
        state = (step_of text p s bd).state;
        tidy = step_tidy L s.book (kids_sound text s.book s.end s.reads) bd s.state s.tidy;
        roomy = same_roomy s.state _ (step_size L bd (rules s.book) s.state) s.roomy;
        image = (w s).1;
      }

      pub run_stands : Standing text p → Standing text p'
      run_stands = stands

      pub run_next : n ≡ 0 → RunLeft text bd budget p₀ (k + 1) p'
      unfolding if stands
      run_next z₀ z =
          let r = left z in
          let s = r.standing in
          let a = step_of text p s bd in
          let u = run L (budget - (k + 1)) bd (rules s.book) a.state in
          let f : k + suc u.steps ≡ k + 1 + u.steps = omega arith in
          record {
            standing = stands s;
            is = r.is ∙ ap (ahead k) (one s ∙ ap (λ (b : Bool). if b (λ _. record { stop = u.stop; steps = suc u.steps; state = u.state })
                (λ _. record { stop = a.refusal; steps = 0; state = s.state })) (eq-eqb a.refusal 0 (sym (w s).0 ∙ z₀)))
                ∙ (λ i. record { stop = u.stop; steps = f i; state = u.state });
          }

-- ---- the promise

module _ (text p : Bytes) (bound number budget : ℕ) where
  pub run_refused : (r : ℕ) → Verdict text p bound number r → (r ≡ 0 → ⊥) → RunPromise text p bound number budget r 0 p
  run_refused r v n =
      let e = (v.refuses n).1 budget in
      record { stops = ap (λ (x : RunOutcome). x.stop) (sym e); counts = ap (λ (x : RunOutcome). x.steps) (sym e); leaves = ap (λ (x : RunOutcome). x.pool) (sym e) }

  pub run_went : Verdict text p bound number 0 → (bd : Bound) → bd ≡ bound_of bound number → (stop steps : ℕ) (p' : Bytes) → RanFrom text bd budget p stop steps p' → RunPromise text p bound number budget stop steps p'
  run_went v bd q stop steps p' w =
      let g = v.passes refl in
      let e = g.runs budget in
      let x = subst (λ d. RanFrom text d budget p stop steps p') q w g.standing in
      record {
        stops = x.0 ∙ ap (λ (y : RunOutcome). y.stop) (sym e);
        counts = x.1.0 ∙ ap (λ (y : RunOutcome). y.steps) (sym e);
        leaves = x.1.1 ∙ ap (λ (y : RunOutcome). y.pool) (sym e);
      }
