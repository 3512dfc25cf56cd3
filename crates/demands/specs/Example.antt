-- Demand 3 on the bytes of a book: no arrangement keeps its rules, for its run fails in every branch. It is opened in zeros for two
-- slots and run; that nothing is left is computed on the bytes, and the rest is the theorem (proofs/Example).
use Rattle.std.specs.Prelude.{ℕ, List, [], ◌∷◌, replicate}
use Rattle.rules.specs.Book.{var, same, Sequent, Book}
use Rattle.rules.specs.Reading.{Bytes}
use Rattle.rules.specs.Calls.{open_call, RunOutcome, run_call}
use Rattle.demands.specs.Worlds.{World, left, begun}
use Rattle.rules.specs.Cases.{a, b, f, P, R, S, plain, rule}
use Rattle.rules.specs.ByteCorners.{answered}

-- ---- the book

-- [] gives S(a), or P(f(a)) and R(f(b)); S(x) gives nothing; [] gives a = b; P(x), R(x) gives nothing.
-- The first branch fails at once, the other only because f(a) and f(b) become one when a and b do.
abbrev pub refuted : List Sequent
refuted =
    rule 0 [] (plain (S a ∷ []) ∷ plain (P (f a) ∷ R (f b) ∷ []) ∷ [])
    ∷ rule 1 (S (var 0) ∷ []) []
    ∷ rule 0 [] (plain (same a b ∷ []) ∷ [])
    ∷ rule 1 (P (var 0) ∷ R (var 0) ∷ []) []
    ∷ []

-- Two constants, one function and three relations, each of one argument.
abbrev pub book : Book
book = record { names = record { constants = 2; functions = 1 ∷ []; relations = 1 ∷ 1 ∷ 1 ∷ []; constant_witnesses = 0; function_witnesses = [] }; sequents = refuted }

-- Numbers below 256 in two bytes each.
abbrev pub numbers : List ℕ → Bytes
numbers [] = []
numbers (n ∷ ns) = n ∷ 0 ∷ numbers ns

-- The mark `RUL`; then version, counts and arities, the number of sequents, and the sequents, one in a line or two.
unfoldable pub text : Bytes
text = 82 ∷ 85 ∷ 76 ∷ numbers (1 ∷ 2 ∷ 1 ∷ 3 ∷ 0 ∷ 0 ∷ 1 ∷ 1 ∷ 1 ∷ 1 ∷ 4
    ∷ 0 ∷ 0 ∷ 2 ∷ 0 ∷ 1 ∷ 0 ∷ 2 ∷ 1 ∷ 0
    ∷ 0 ∷ 2 ∷ 0 ∷ 0 ∷ 2 ∷ 0 ∷ 1 ∷ 0 ∷ 0 ∷ 1 ∷ 2 ∷ 0 ∷ 1 ∷ 1
    ∷ 1 ∷ 1 ∷ 0 ∷ 2 ∷ 0 ∷ 0 ∷ 0
    ∷ 0 ∷ 0 ∷ 1 ∷ 0 ∷ 1 ∷ 1 ∷ 1 ∷ 0 ∷ 1 ∷ 1
    ∷ 1 ∷ 2 ∷ 0 ∷ 0 ∷ 0 ∷ 0 ∷ 0 ∷ 1 ∷ 0 ∷ 0 ∷ 0
    ∷ [])

-- ---- its calls

-- Room for two slots, opened with FIFO and Linear, and then run without a bound for at most 100 steps.
unfoldable pub opened : Bytes
opened = (open_call text (replicate 4464 0) 0 0).pool

-- Its `unfolding` line names every function of the calls, by `answered`: what says `unfolding ran_once` computes.
unfoldable pub ran_once : RunOutcome
unfolding opened text answered
ran_once = run_call text opened 0 0 100

abbrev pub world : World
world = left ran_once.pool (begun opened)
