-- What is computed of the example's bytes, and that no arrangement keeps its rules.
use Rattle.std.specs.Prelude.{◌≡◌, refl, [], ◌∷◌, length, replicate}
use Rattle.std.proofs.Common.{sym}
use Rattle.rules.specs.Book.{rules}
use Rattle.rules.specs.Reading.{got, read_book}
use Rattle.rules.specs.Calls.{open_call}
use Rattle.rules.specs.Arrangement.{Arrangement, Keeps}
use Rattle.demands.specs.Worlds.{running, left, ran, nothing, next, begun, Empty}
use Rattle.demands.specs.Demands.{demand_three}
use Rattle.demands.specs.Example.{world, refuted, book, text, opened, ran_once}

pub text_reads : read_book text ≡ got book (length text)
unfolding ran_once
text_reads = refl

-- The rules are the sequents: there are no existentials, so the reader appends nothing.
pub book_rules : rules book ≡ refuted
unfolding ran_once
book_rules = refl

pub text_opens : (open_call text (replicate 4464 0) 0 0).answer ≡ 0
unfolding ran_once
text_opens = refl

-- Four steps: one makes the two branches, one drops the first, one merges in the other, and one drops that.
pub run_stops : (ran_once.stop ≡ 14) × (ran_once.steps ≡ 4)
unfolding ran_once
run_stops = (refl, refl)

pub world_empty : Empty world
unfolding ran_once left begun
world_empty = record { waiting = refl; complete = refl; bounded = refl; took_complete = refl; took_bounded = refl }

-- ---- so no arrangement keeps the rules

pub none_keeps_them : (A : Arrangement) → Keeps A refuted → ⊥
unfolding begun ran_once
none_keeps_them A k =
    (demand_three text (replicate 4464 0) 0 0 opened (record { answers = sym text_opens; leaves = refl }) book (length text) text_reads
    (running 0 0 100 ∷ []) world
    (next (begun opened) world world (running 0 0 100) []
    (ran 0 0 100 ran_once.stop ran_once.steps ran_once.pool (record { stops = refl; counts = refl; leaves = refl })) (nothing world))
    ).1 world_empty A k
