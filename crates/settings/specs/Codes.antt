-- The numbers of document 01's settings: what stands for what, what a call's number is read as, and the same as the definitions have it.
use Rattle.std.specs.Prelude.{◌≡◌, ℕ, zero, suc, ◌<◌, ◌≤◌, min, [], ◌∷◌, get_or, Result, MatchResult}
use Rattle.std.proofs.Common.{ap, ◌∙◌, arith}
use Rattle.rules.specs.Pool as pool
use Rattle.rules.specs.Fire as fire
use Rattle.refusals.specs.declared.Refusal.{Refusal}
use Rattle.refusals.specs.declared.Refusal.TheVariants.{UnknownSetting}
use Rattle.settings.specs.declared.Scheduler.{Scheduler}
use Rattle.settings.specs.declared.Scheduler.TheVariants.{Fifo, Lifo}
use Rattle.settings.specs.declared.Strategy.{Strategy}
use Rattle.settings.specs.declared.Strategy.TheVariants.{Linear, Fair}
use Rattle.settings.specs.declared.Source.{Source}
use Rattle.settings.specs.declared.Source.TheVariants.{Complete, Bounded}

-- ---- the numbers ("Settings: scheduler 0 FIFO, 1 LIFO; strategy 0 Linear, 1 Fair"; lists to take from: 0 complete, 1 bounded)

abbrev pub code_of_scheduler : Scheduler → ℕ
code_of_scheduler Fifo = 0
code_of_scheduler Lifo = 1

abbrev pub code_of_strategy : Strategy → ℕ
code_of_strategy Linear = 0
code_of_strategy Fair = 1

abbrev pub code_of_source : Source → ℕ
code_of_source Complete = 0
code_of_source Bounded = 1

-- A call's number is read as what it stands for; two numbers stand for something.
abbrev pub Reads : {S : Type 0} → (S → ℕ) → ℕ → Result S Refusal → Type 0
Reads code n r = MatchResult r (λ s. code s ≡ n) (λ e. (e ≡ UnknownSetting) × (2 ≤ n))

pub scheduler_low : (s : Scheduler) → code_of_scheduler s < 2
scheduler_low Fifo = omega arith
scheduler_low Lifo = omega arith

pub strategy_low : (s : Strategy) → code_of_strategy s < 2
strategy_low Linear = omega arith
strategy_low Fair = omega arith

pub source_low : (s : Source) → code_of_source s < 2
source_low Complete = omega arith
source_low Bounded = omega arith

-- ---- as the definitions have them

abbrev pub scheduler_is : Scheduler → pool.Scheduler
scheduler_is Fifo = pool.fifo
scheduler_is Lifo = pool.lifo

abbrev pub strategy_is : Strategy → fire.Strategy
strategy_is Linear = fire.linear
strategy_is Fair = fire.fair

-- Of two things, the first for 0 and the second for any other number.
pub first_else : {S M : Type 0} (is : S → M) (of : ℕ → M) (a b : S) → is a ≡ of 0 → ((n : ℕ) → is b ≡ of (suc n))
    → (n : ℕ) (s : S) → s ≡ get_or (a ∷ b ∷ []) (min n 1) s → is s ≡ of n
first_else is of a b f g zero s e = ap is e ∙ f
first_else is of a b f g (suc n) s e = let m : min (suc n) 1 ≡ 1 = omega arith in ap is (rw m at e) ∙ g n
