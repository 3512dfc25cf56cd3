-- The lines of the entries and elements passed are written, and the three tables stand one behind the other.
use Rattle.std.proofs.Common.{◌≡◌, ◌+◌, sym, ◌∙◌, ap, List, [], map, min, get_or, arith}
use Rattle.base.specs.Lists.{mem}
use Rattle.rules.specs.Reading.{Bytes, num}
use Rattle.lines.specs.Text.{depth_text}
use Rattle.lines.specs.declared.Page.{Page}
use Rattle.lines.specs.Writes.{writes_none, writes_next, writes_as}
use Rattle.pages.specs.Tables.{key_text, fact_text, depths_none, depths_line, depths_nothing, texts_none, texts_more, texts_all, values_in}
use Rattle.pages.specs.Sheets.{model_parts}
use Rattle.pages.proofs.model_lines.Goals.{then-yielded, else-yielded}
use Rattle.pages.proofs.model_lines.Goals as goal

pub loop-key-init : goal.loop-key-init
loop-key-init c = (writes_as _ (sym (texts_none [] key_text c.entries-keys.result.now)) (writes_none c.args.page.now c.args.page.now.within), omega arith)

pub loop-key-preserved : goal.loop-key-preserved
unfolding key_text
loop-key-preserved c =
    (writes_as _ (texts_more [] key_text c.entries-keys.result.now c.loop-key.key-index [] c.loop-key-test.true) (writes_next c.loop-key.invariant.0 c.key_line.ensures.text), omega arith)

pub loop-e-init : goal.loop-e-init
loop-e-init c = (writes_as _ (sym (depths_none [] _ c.args.s.now)) (writes_none c.loop-key.page c.loop-key.page.within), omega arith)

pub loop-e-preserved : goal.loop-e-preserved
unfolding values_in
loop-e-preserved c =
    let keys = rw c.counted.ensures at c.entries-keys.ensures.value in
    let told = c.yielded.ensures ∙ ap (λ (l : List Bytes). mem c.loop-e.e (map (λ (key : Bytes). get_or key 7 0) l)) keys in
    elim c.if-yielded.branch [
      | then-yielded w ↦
          let depth = writes_as (depth_text c.loop-e.e (get_or c.args.s.now (2064 + c.loop-e.e) 0)) (ap (λ i. depth_text c.loop-e.e (get_or c.args.s.now i 0)) (omega arith)) w.depth_line.ensures.text in
          let line = writes_as _ (depths_line [] _ c.loop-e.e c.args.s.now (sym told ∙ w.if-yielded.true)) (writes_next c.loop-e.invariant.0 depth) in
          (rw w.page-is line, omega (arith, ap (λ (p : Page). p.end) w.page-is, w.depth_line.ensures.short))
      | else-yielded w ↦
          let nothing = writes_as _ (depths_nothing [] _ c.loop-e.e c.args.s.now (sym told ∙ w.if-yielded.false)) c.loop-e.invariant.0 in
          (rw w.page-is nothing, omega (arith, ap (λ (p : Page). p.end) w.page-is))
    ]

pub loop-fact-init : goal.loop-fact-init
loop-fact-init c = (writes_as _ (sym (texts_none [] fact_text c.entries-facts.result.now)) (writes_none c.loop-e.page c.loop-e.page.within), omega arith)

pub loop-fact-preserved : goal.loop-fact-preserved
unfolding fact_text
loop-fact-preserved c =
    (writes_as _ (texts_more [] fact_text c.entries-facts.result.now c.loop-fact.fact-index [] c.loop-fact-test.true) (writes_next c.loop-fact.invariant.0 c.fact_line.ensures.text), omega arith)

pub returns-clause-text : goal.returns-clause-text
returns-clause-text c =
    let keys = rw c.counted.ensures at c.entries-keys.ensures.value in
    let facts = rw (c.counted-2.ensures, c.slot_facts_at.ensures) at c.entries-facts.ensures.value in
    let elements : c.loop-e.e ≡ min (num c.args.s.now 4) 64 = omega arith in
    let a = writes_as _ (texts_all key_text 16 _ _ c.args.s.now _ keys c.loop-key-test.false) c.loop-key.invariant.0 in
    let b = rw elements at c.loop-e.invariant.0 in
    let d = writes_as _ (texts_all fact_text 1040 _ _ c.args.s.now _ facts c.loop-fact-test.false) c.loop-fact.invariant.0 in
    writes_as _ (model_parts c.args.s.now c.requires.0 []) (writes_next (writes_next a b) d)
