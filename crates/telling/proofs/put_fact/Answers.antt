use native.Mathlib.Omega.{arith}
use Rattle.showing.specs.Tables.{facts_shown}
use mathlib.Core.Path.{refl, sym, ap, ◌∙◌, subst}
use Rattle.limits.specs.Limits.{limits_of}
use Rattle.sheets.specs.Form.{view_of, facts_at}
use Prim.Native.Nat.{ℕ, ◌+◌, ◌-◌}
use mathlib.Core.List.{List}
use lib.ListN.{get_or}
use borrow.Rule.Slice.PartMut.{mid_len}
use Rattle.tables.specs.Table.{look_in, is_some, Rising}
use Rattle.sheets.specs.Parts.{part_front, part_length}
use Rattle.telling.specs.Facts.{after, exit_put, exit_there, exit_full}
use Rattle.telling.proofs.put_fact.Goals as goal

pub contains-requires : goal.contains-requires
contains-requires c = subst Rising (sym (facts_shown (limits_of c.args.limits) c.args.w.now c.facts_at-b.result _ (omega arith) refl)) c.requires.0.held

pub put-more-requires : goal.put-more-requires
unfolding view_of
put-more-requires c =
    let b = c.facts_at-b.result in
    let k = b + c.args.limits.facts - b in
    let e = part_front b k (get_or c.args.w.now 4 0) c.args.w.now (omega arith) in
    (omega (arith, mid_len b (b + c.args.limits.facts) c.args.w.now (omega arith)), subst Rising (sym e) (rw c.facts_at-b.ensures c.requires.0.held))

pub returns-then-n-limits : goal.returns-then-n-limits
unfolding view_of after
returns-then-n-limits c =
    let b = c.facts_at-b.result in
    rw c.facts_at-b.ensures
    (exit_put c.requires.0 (omega arith)
    (rw c.facts_at-b.ensures at (c.put-more.auto.t ∙ mid_len b (b + c.args.limits.facts) c.args.w.now (omega arith))) (omega arith) (rw c.facts_at-b.ensures at c.put-more.ensures) _)

pub returns-then-contains : goal.returns-then-contains
returns-then-contains c =
    exit_there c.requires.0
    (c.contains.ensures ∙ ap (λ (t : List ℕ). is_some (look_in c.args.q t)) (facts_shown (limits_of c.args.limits) c.args.w.now c.facts_at-b.result _ (omega arith) refl)) c.if-contains.true _

pub returns : goal.returns
returns c =
    exit_full c.requires.0 (unfold view_of in omega (arith, part_length (facts_at (limits_of c.args.limits)) (get_or c.args.w.now 4 0) c.args.w.now (omega arith)))
    (c.contains.ensures ∙ ap (λ (t : List ℕ). is_some (look_in c.args.q t)) (facts_shown (limits_of c.args.limits) c.args.w.now c.facts_at-b.result _ (omega arith) refl)) c.if-contains.false _
