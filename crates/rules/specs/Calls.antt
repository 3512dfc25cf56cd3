-- The four public calls (01, "Refusal numbers"): for all bytes and numbers, the answer and every lent byte afterwards.
-- Each promise is one relation between a call's inputs and its outcome: what the contract of the exported function says, by name.
use Rattle.std.specs.Prelude.{◌≡◌, ℕ, zero, suc, ◌+◌, ◌*◌, Bool, not, ◌&&◌, ◌||◌, ◌++◌, length, drop, leb, ltb, eqb}
use Rattle.base.specs.Branch.{if, case_l}
use Rattle.rules.specs.Book.{Book, rules}
use Rattle.rules.specs.Reading.{Bytes, case_read, read_book}
use Rattle.rules.specs.Sheet.{limits}
use Rattle.rules.specs.Bound.{Bound, unbounded, domain_size, depth_pure, depth_reuse}
use Rattle.rules.specs.Pool.{State, schedulers, strategies, opened, sheet_at}
use Rattle.rules.specs.Step.{step, run, lists, list_of, taken}
use Rattle.rules.specs.Image.{most_slots, head_size, sheet_size, slots_in, sheet_bytes, pool_bytes, pool_in}
use Rattle.rules.specs.Sound.{sound}

-- ---- the arguments

-- 11: "pool length not header plus 1 to 64 slots".
unfoldable pub right_length : ℕ → Bool
right_length len = eqb len (head_size + sheet_size limits * slots_in limits len) && (leb 1 (slots_in limits len) && leb (slots_in limits len) most_slots)

-- "Bound 0 Unbounded, 1 DomainSize, 2 Depth Pure, 3 Depth Reuse, with a 32-bit number": how many are known, and which is meant.
unfoldable pub bounds : ℕ
bounds = 4

unfoldable pub bound_of : ℕ → ℕ → Bound
bound_of zero n = unbounded
bound_of (suc zero) n = domain_size n
bound_of (suc (suc zero)) n = depth_pure n
bound_of (suc (suc (suc k))) n = depth_reuse n

-- 12: "unknown bound; Unbounded with a number other than 0".
unfoldable pub known_bound : ℕ → ℕ → Bool
known_bound bound number = ltb bound bounds && (not (eqb bound 0) || eqb number 0)

-- 1 to 12 in order: the book's first fault, the pool's length, the settings of the call.
unfoldable pub checked : {A : Type 0} → Bytes → Bytes → Bool → (ℕ → A) → (Book → A) → A
checked book pool settings refusing going = case_read (read_book book) (λ n at. refusing n) (λ b end.
    if (right_length (length pool)) (λ _. if settings (λ _. going b) (λ _. refusing 12)) (λ _. refusing 11))

-- And 13: "pool not sound for this book".
unfoldable pub soundly : {A : Type 0} → Bytes → Bytes → Bool → (ℕ → A) → (Book → State → A) → A
soundly book pool settings refusing going =
    checked book pool settings refusing (λ b. if (sound limits b pool) (λ _. going b (pool_in limits pool)) (λ _. refusing 13))

-- ---- open and step

-- An answer and the pool's bytes afterwards. "Each refusal returns its number, and no lent byte differs from before."
pub record Outcome : Type 0 where
  pub answer : ℕ
  pub pool : Bytes

unfoldable pub outcome : ℕ → Bytes → Outcome
outcome n p = record { answer = n; pool = p }

unfoldable pub open_call : Bytes → Bytes → ℕ → ℕ → Outcome
open_call book pool scheduler strategy =
    checked book pool (ltb scheduler schedulers && ltb strategy strategies) (λ n. outcome n pool)
    (λ _. outcome 0 (pool_bytes limits (opened scheduler strategy (slots_in limits (length pool)))))

unfoldable pub step_call : Bytes → Bytes → ℕ → ℕ → Outcome
step_call book pool bound number =
    soundly book pool (known_bound bound number) (λ n. outcome n pool) (λ b s.
    let r = step limits (bound_of bound number) (rules b) s in
    if (eqb r.refusal 0) (λ _. outcome 0 (pool_bytes limits r.state)) (λ _. outcome r.refusal pool))

-- ---- run

-- "Answers the stop and the number of steps made"; a refusal by 1 to 13 answers its number and 0 steps.
pub record RunOutcome : Type 0 where
  pub stop : ℕ
  pub steps : ℕ
  pub pool : Bytes

unfoldable pub run_call : Bytes → Bytes → ℕ → ℕ → ℕ → RunOutcome
run_call book pool bound number budget =
    soundly book pool (known_bound bound number) (λ n. record { stop = n; steps = 0; pool = pool }) (λ b s.
    let r = run limits budget (bound_of bound number) (rules b) s in
    record { stop = r.stop; steps = r.steps; pool = pool_bytes limits r.state })

-- ---- take

pub record TakeOutcome : Type 0 where
  pub answer : ℕ
  pub pool : Bytes
  pub out : Bytes

unfoldable pub take_outcome : ℕ → Bytes → Bytes → TakeOutcome
take_outcome n p o = record { answer = n; pool = p; out = o }

-- 18, then 19. "Take copies the first sheet, frees its slot and leaves later output bytes untouched."
unfoldable pub take_call : Bytes → Bytes → ℕ → Bytes → TakeOutcome
take_call book pool list out =
    soundly book pool (ltb list lists) (λ n. take_outcome n pool out) (λ b s. case_l (list_of list s)
    (λ _. take_outcome 18 pool out)
    (λ i is. if (ltb (length out) (sheet_size limits)) (λ _. take_outcome 19 pool out) (λ _.
    take_outcome 0 (pool_bytes limits (taken list s i is)) (sheet_bytes limits (sheet_at s i) ++ drop (sheet_size limits) out))))

-- ---- the promises

pub record OpenPromise (book pool : Bytes) (scheduler strategy answer : ℕ) (after : Bytes) : Type 0 where
  pub answers : answer ≡ (open_call book pool scheduler strategy).answer
  pub leaves : after ≡ (open_call book pool scheduler strategy).pool

pub record StepPromise (book pool : Bytes) (bound number answer : ℕ) (after : Bytes) : Type 0 where
  pub answers : answer ≡ (step_call book pool bound number).answer
  pub leaves : after ≡ (step_call book pool bound number).pool

pub record RunPromise (book pool : Bytes) (bound number budget stop steps : ℕ) (after : Bytes) : Type 0 where
  pub stops : stop ≡ (run_call book pool bound number budget).stop
  pub counts : steps ≡ (run_call book pool bound number budget).steps
  pub leaves : after ≡ (run_call book pool bound number budget).pool

pub record TakePromise (book pool : Bytes) (list : ℕ) (out : Bytes) (answer : ℕ) (after written : Bytes) : Type 0 where
  pub answers : answer ≡ (take_call book pool list out).answer
  pub leaves : after ≡ (take_call book pool list out).pool
  pub writes : written ≡ (take_call book pool list out).out
