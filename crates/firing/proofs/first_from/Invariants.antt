use mathlib.Core.Path.{◌≡◌}
use lib.ListN.{length}
use Rattle.choosing.specs.Choosing.{Below, onward}
use Rattle.firing.specs.Search.{Searching}
use Rattle.firing.proofs.first_from.Given as goal

abbrev pub invariant-loop-idx : goal.invariant-loop-idx
invariant-loop-idx l = record {
  env_length : length l.env ≡ length l.initial.env;
  width : length l.idx ≡ l.v;
  below : Below (length l.t.domain.now) l.idx;
  searching : Searching l.s.book.now l.s.bytes.now l.at l.v l.t.keys.now l.t.facts.now l.t.domain.now l.idx;
}

abbrev pub decreases-loop-idx : goal.decreases-loop-idx
decreases-loop-idx l = length (onward l.v l.t.domain.now l.idx)
