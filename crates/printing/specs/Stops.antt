-- What a run's answer and pool print: a run stops by 0 or by a number from 14 on (pools.Stops), and a smaller stop is a refusal.
use Rattle.std.specs.Prelude.{◌≡◌, refl, ℕ, zero, suc, ◌≤◌, ◌<◌, ltb, eqb}
use Rattle.std.proofs.Math.Path.{sym}
use Rattle.std.proofs.Common.{◌∙◌, arith, inl, inr, lt-ltb, le-ltb, eq-eqb, ne_eqb}
use Rattle.base.specs.Branch.{if}
use Rattle.rules.specs.Reading.{Bytes}
use Rattle.rules.specs.Sheet.{limits}
use Rattle.rules.specs.Image.{pool_in}
use Rattle.pools.specs.Stops.{Stops}
use Rattle.sheetparts.specs.Ways.{on, off}
use Rattle.lines.specs.Text.{listing, refusal}

-- A run's answer and pool as text.
unfoldable pub ran_text : ℕ → ℕ → Bytes → Bytes
ran_text stop steps p =
    if (eqb stop 0) (λ _. listing stop steps (pool_in limits p)) (λ _.
    if (ltb stop 14) (λ _. refusal stop) (λ _. listing stop steps (pool_in limits p)))

module _ (stop steps : ℕ) (p : Bytes) where
  pub ran_zero : stop ≡ 0 → listing stop steps (pool_in limits p) ≡ ran_text stop steps p
  unfolding ran_text
  ran_zero z = sym (on (eqb stop 0) _ _ (eq-eqb stop 0 z))

  pub ran_refused : (stop ≡ 0 → ⊥) → stop < 14 → refusal stop ≡ ran_text stop steps p
  unfolding ran_text
  ran_refused z l = sym (off (eqb stop 0) _ _ (ne_eqb stop 0 z) ∙ on (ltb stop 14) _ _ (lt-ltb stop 14 l))

  pub ran_stopped : (stop ≡ 0 → ⊥) → 14 ≤ stop → listing stop steps (pool_in limits p) ≡ ran_text stop steps p
  unfolding ran_text
  ran_stopped z l = sym (off (eqb stop 0) _ _ (ne_eqb stop 0 z) ∙ off (ltb stop 14) _ _ (le-ltb stop 14 l))

pub ran_listing : (stop steps : ℕ) (p : Bytes) → Stops stop → ran_text stop steps p ≡ listing stop steps (pool_in limits p)
ran_listing stop steps p (inl z) = sym (ran_zero stop steps p z)
ran_listing stop steps p (inr l) = sym (ran_stopped stop steps p (λ z. omega (arith, l.0)) l.0)

-- What is no refusal is listed.
pub ran_listed : (stop steps : ℕ) (p : Bytes) → (1 ≤ stop → 14 ≤ stop) → listing stop steps (pool_in limits p) ≡ ran_text stop steps p
ran_listed zero steps p h = ran_zero zero steps p refl
ran_listed (suc n) steps p h = ran_stopped (suc n) steps p (λ z. absurd (omega arith)) (h (omega arith))
