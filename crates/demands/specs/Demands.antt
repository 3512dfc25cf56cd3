-- The three demands on one page, over the promises of the public calls (rules.Calls). The proofs stand in the files beside this one.
-- All here is a theorem about document 01's rules as `rules` defines them, and every exported call is proved to have its promise. That
-- these rules give the sheets, order and standing of the Rust, which demand 2 also asks for, is no theorem: it is shown by running both
-- (docs/JUDGE.md).
use Rattle.std.specs.Prelude.{◌≡◌, ℕ, List, T}
use Rattle.rules.specs.Book.{Book, rules}
use Rattle.rules.specs.Reading.{Bytes, read_book, got}
use Rattle.rules.specs.Calls.{known_bound, open_call, step_call, run_call, take_call, OpenPromise, StepPromise, RunPromise, TakePromise}
use Rattle.rules.specs.Arrangement.{Arrangement, Keeps}
use Rattle.demands.specs.Outcomes.{DoneOr, TakenOr, RanOr, open_has, step_has, run_has, take_has, open_refused, step_refused, take_refused, run_refused, open_one, step_one, run_one, take_one}
use Rattle.demands.specs.Kept.{SoundFor, open_sound, step_sound, run_sound, take_sound}
use Rattle.demands.specs.Chain.{Ends, run_is_chain}
use Rattle.demands.specs.Worlds.{Call, World, Played, begun, Empty}
use Rattle.demands.specs.Demand3.{Demand3, demand_3, nothing_keeps_them}

-- 1. Every public call accepts all bytes and numbers and has an outcome: a promise is the graph of a function. It is done and answers 0,
-- or it answers a number of those that document 01 has it check, and then no lent byte differs from before: open 1 to 12, step 1 to 17,
-- take 1 to 13, 18 and 19. A run is refused by 1 to 13 and then makes no step and changes no byte; any other answers 0 or 14 to 17.
pub record Demand1 (book pool : Bytes) : Type 0 where
  pub opening : (scheduler strategy : ℕ) → ((answer : ℕ) × (after : Bytes) × OpenPromise book pool scheduler strategy answer after)
      × DoneOr 12 pool (open_call book pool scheduler strategy)
  pub stepping : (bound number : ℕ) → ((answer : ℕ) × (after : Bytes) × StepPromise book pool bound number answer after)
      × DoneOr 17 pool (step_call book pool bound number)
  pub running : (bound number budget : ℕ) → ((stop steps : ℕ) × (after : Bytes) × RunPromise book pool bound number budget stop steps after)
      × RanOr book pool (known_bound bound number) (run_call book pool bound number budget)
  pub taking : (list : ℕ) (out : Bytes) → ((answer : ℕ) × (after written : Bytes) × TakePromise book pool list out answer after written)
      × TakenOr pool out (take_call book pool list out)

pub demand_1 : (book pool : Bytes) → Demand1 book pool
demand_1 book pool = record {
  opening = λ sc st. (open_has book pool sc st, open_refused book pool sc st);
  stepping = λ b n. (step_has book pool b n, step_refused book pool b n);
  running = λ b n k. (run_has book pool b n k, run_refused book pool b n k);
  taking = λ l o. (take_has book pool l o, take_refused book pool l o);
}

-- 2. Each promise fixes its outcome: any two outcomes that have it are equal. And where the pool is sound for the book and the bound is
-- known, a run is a chain of steps: it answers (stop, k) and leaves t exactly when t comes from the pool by k unrefused steps, k is
-- within the budget, and the budget is spent and stop is 0, or it is not and the next step from t is refused with stop.
pub record Demand2 (book pool : Bytes) : Type 0 where
  pub opening : (sc st a a' : ℕ) (p p' : Bytes) → OpenPromise book pool sc st a p → OpenPromise book pool sc st a' p' → (a ≡ a') × (p ≡ p')
  pub stepping : (bound number a a' : ℕ) (p p' : Bytes) → StepPromise book pool bound number a p → StepPromise book pool bound number a' p' → (a ≡ a') × (p ≡ p')
  pub running : (bound number budget s s' k k' : ℕ) (p p' : Bytes) → RunPromise book pool bound number budget s k p → RunPromise book pool bound number budget s' k' p'
      → (s ≡ s') × (k ≡ k') × (p ≡ p')
  pub taking : (list : ℕ) (out : Bytes) (a a' : ℕ) (p p' o o' : Bytes) → TakePromise book pool list out a p o → TakePromise book pool list out a' p' o'
      → (a ≡ a') × (p ≡ p') × (o ≡ o')
  pub chained : SoundFor book pool → (bound number : ℕ) → T (known_bound bound number) → (budget stop k : ℕ) (t : Bytes)
      → (RunPromise book pool bound number budget stop k t → Ends book bound number budget stop k pool t)
      × (Ends book bound number budget stop k pool t → RunPromise book pool bound number budget stop k t)

pub demand_2 : (book pool : Bytes) → Demand2 book pool
demand_2 book pool = record
    { opening = open_one book pool; stepping = step_one book pool; running = run_one book pool; taking = take_one book pool; chained = run_is_chain book pool }

-- Open's pool is sound for its book, and each unrefused step, run and take makes a sound pool of a sound one.
pub record StaysSound (book pool : Bytes) : Type 0 where
  pub opening : (scheduler strategy : ℕ) → (open_call book pool scheduler strategy).answer ≡ 0 → SoundFor book (open_call book pool scheduler strategy).pool
  pub stepping : (bound number : ℕ) → (step_call book pool bound number).answer ≡ 0 → SoundFor book (step_call book pool bound number).pool
  pub running : (bound number budget : ℕ) → SoundFor book pool → SoundFor book (run_call book pool bound number budget).pool
  pub taking : (list : ℕ) (out : Bytes) → (take_call book pool list out).answer ≡ 0 → SoundFor book (take_call book pool list out).pool

pub stays_sound : (book pool : Bytes) → StaysSound book pool
stays_sound book pool = record { opening = open_sound book pool; stepping = step_sound book pool; running = run_sound book pool; taking = take_sound book pool }

-- 3. From one opening, with one book throughout and the pool as the last call left it, after any steps, runs and takes, refused ones
-- included: every complete sheet, taken or not, keeps every rule at every choice of its own elements, and every arrangement that
-- keeps the rules still fits some sheet that is waiting, complete, bounded or taken (Demand3). So if nothing waits and no sheet was
-- ever complete or bounded, no arrangement keeps the rules.
pub demand_three : (book pool : Bytes) (scheduler strategy : ℕ) (opened : Bytes) → OpenPromise book pool scheduler strategy 0 opened
    → (b : Book) (end : ℕ) → read_book book ≡ got b end → (calls : List Call) (w : World) → Played book (begun opened) calls w
    → Demand3 (rules b) w × (Empty w → (A : Arrangement) → Keeps A (rules b) → ⊥)
demand_three book pool scheduler strategy opened p b end r calls w q =
    let d = demand_3 book pool scheduler strategy opened p b end r calls w q in
    (d, λ n A k. nothing_keeps_them (rules b) w d n A k)
