-- The first line, the sheets of both lists, and the last line, one behind the other.
use Rattle.std.proofs.Common.{[]}
use Rattle.lines.specs.Text.{complete_word, bounded_word}
use Rattle.lines.specs.Writes.{writes_next, writes_as}
use Rattle.pages.specs.Pools.{listing_parts}
use Rattle.pages.proofs.listing.Goals as goal

pub returns : goal.returns
unfolding complete_word bounded_word
returns c =
    let w = writes_next (writes_next (writes_next c.stop_line.ensures.text c.list_lines.ensures.text) c.list_lines-2.ensures.text) c.waiting_line.ensures.text in
    let named = rw (c.named-complete.ensures.value, c.named-bounded.ensures.value, c.named-waiting.ensures.few) at w in
    writes_as _ (listing_parts c.args.pool.now c.requires.0 [] c.args.stop c.args.steps) named
