-- The lines of the keys, elements and facts passed are written.
use Rattle.std.proofs.Common.{◌+◌, ◌*◌, ◌≤◌, min, map, take}
use Rattle.base.specs.Lists.{flat}
use Rattle.rules.specs.Reading.{num}
use Rattle.lines.specs.Writes.{Writes}
use Rattle.pages.specs.Tables.{key_text, fact_text, depths_text}
use Rattle.pages.proofs.model_lines.Given as goal

abbrev pub invariant-loop-key : goal.invariant-loop-key
invariant-loop-key l = Writes l.initial.page (flat (map key_text (take l.key-index l.keys))) l.page × (l.page.end ≤ l.initial.page.end + 34 * l.key-index)

abbrev pub invariant-loop-e : goal.invariant-loop-e
invariant-loop-e l = Writes l.initial.page (depths_text (min (num l.s 6) 128) l.e l.s) l.page × (l.page.end ≤ l.initial.page.end + 14 * l.e)

abbrev pub invariant-loop-fact : goal.invariant-loop-fact
invariant-loop-fact l = Writes l.initial.page (flat (map fact_text (take l.fact-index l.facts))) l.page × (l.page.end ≤ l.initial.page.end + 25 * l.fact-index)
