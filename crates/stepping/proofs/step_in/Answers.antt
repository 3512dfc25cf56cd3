-- The first waiting sheet loaded and evaluated, and each way out.
use native.Mathlib.Omega.{arith}
use Prim.Native.Nat.{◌+◌, ◌*◌, ◌≤◌}
use mathlib.Core.Path.{◌≡◌, sym, ◌∙◌, subst}
use borrow.Author.Rules.{rules}
use lib.ListN.{length, get_or}
use Rattle.rules.specs.Image.{part}
use Rattle.sheets.specs.Load.{Loaded}
use Rattle.evalforms.specs.Basis.{Evaluated}
use Rattle.bound.specs.Bounds.{bound_is}
use Rattle.refusals.specs.Numbers.{answer}
use Rattle.stepping.specs.Standing.{L, Stepped, basis}
use Rattle.stepping.specs.Branch.{has_fired}
use Rattle.children.specs.Lent.{room_kept}
use Rattle.stepping.specs.Outs.{out_none, first_inside, on_base, fires_at, out_done, out_branch}
use Rattle.stepping.proofs.step_in.Goals as goal

pub returns-then-counted-eq0-clause-stepped : goal.returns-then-counted-eq0-clause-stepped
returns-then-counted-eq0-clause-stepped c = out_none c.args.book.now c.args.pool.now (bound_is c.args.bound) (sym c.counted.ensures.0 ∙ c.if-counted-eq0.true)

pub get_sheet-requires : goal.get_sheet-requires
get_sheet-requires c =
    let some : get_or c.args.pool.now 12 0 ≡ 0 → ⊥ = λ e. c.if-counted-eq0.false (c.counted.ensures.0 ∙ e) in
    (subst (λ x. 208 + 2128 * x + 2128 ≤ length c.args.pool.now) (sym c.first_waiting.ensures) (first_inside c.args.book.now c.args.pool.now (bound_is c.args.bound) some c.requires.0), c.requires.1)

pub fired_on-requires : goal.fired_on-requires
fired_on-requires c =
    let some : get_or c.args.pool.now 12 0 ≡ 0 → ⊥ = λ e. c.if-counted-eq0.false (c.counted.ensures.0 ∙ e) in
    let l = subst (λ x. Loaded L (part (208 + 2128 * x) 2128 c.args.pool.now) c.get_sheet.new.w) c.first_waiting.ensures c.get_sheet.ensures in
    (basis c.args.book.now c.args.pool.now c.requires.0 _ _ _ _ (on_base c.args.book.now c.args.pool.now (bound_is c.args.bound) some _ l c.requires.0), c.requires.2, c.requires.3.0)

pub invariant_of-finish : goal.invariant_of-finish
invariant_of-finish c =
    let some : get_or c.args.pool.now 12 0 ≡ 0 → ⊥ = λ e. c.if-counted-eq0.false (c.counted.ensures.0 ∙ e) in
    record { headed = omega (arith, first_inside c.args.book.now c.args.pool.now (bound_is c.args.bound) some c.requires.0) }

pub branch-book-requires : goal.branch-book-requires
branch-book-requires c =
    let some : get_or c.args.pool.now 12 0 ≡ 0 → ⊥ = λ x. c.if-counted-eq0.false (c.counted.ensures.0 ∙ x) in
    let l = subst (λ x. Loaded L (part (208 + 2128 * x) 2128 c.args.pool.now) c.get_sheet.new.w) c.first_waiting.ensures c.get_sheet.ensures in
    let v = subst (λ x. Evaluated c.args.book.now x L c.get_sheet.new.w c.fired_on.result c.fired_on.new.m.env.now) c.strategy_in.ensures c.fired_on.ensures.evaluated in
    let f = fires_at c.args.book.now c.args.pool.now (bound_is c.args.bound) some _ l c.fired_on.new.m.env.now c.fired_on.result v c.in-Some.fired c.in-Some.is c.requires.0 in
    let lent = c.fired_on.ensures.lent in
    (has_fired c.args.book.now c.args.pool.now _ _ _ _ _ c.requires.0 f, omega (arith, lent.1.1, c.requires.2), room_kept _ _ c.args.m.now c.fired_on.new.m lent (c.requires.3.0, c.requires.3.1 ∙ sym c.get_sheet.auto.w))

pub returns-in-None-clause-stepped : goal.returns-in-None-clause-stepped
returns-in-None-clause-stepped c =
    let some : get_or c.args.pool.now 12 0 ≡ 0 → ⊥ = λ e. c.if-counted-eq0.false (c.counted.ensures.0 ∙ e) in
    let l = subst (λ x. Loaded L (part (208 + 2128 * x) 2128 c.args.pool.now) c.get_sheet.new.w) c.first_waiting.ensures c.get_sheet.ensures in
    let v = subst (λ x. Evaluated c.args.book.now x L c.get_sheet.new.w c.fired_on.result c.fired_on.new.m.env.now) c.strategy_in.ensures c.fired_on.ensures.evaluated in
    subst (Stepped c.args.book.now (bound_is c.args.bound) c.args.pool.now 0) (search rules)
    (out_done c.args.book.now c.args.pool.now (bound_is c.args.bound) some _ l c.fired_on.new.m.env.now c.fired_on.result v c.in-None.is _ c.finish.ensures.1)

pub returns-in-Some-clause-stepped : goal.returns-in-Some-clause-stepped
returns-in-Some-clause-stepped c =
    let some : get_or c.args.pool.now 12 0 ≡ 0 → ⊥ = λ x. c.if-counted-eq0.false (c.counted.ensures.0 ∙ x) in
    let l = subst (λ x. Loaded L (part (208 + 2128 * x) 2128 c.args.pool.now) c.get_sheet.new.w) c.first_waiting.ensures c.get_sheet.ensures in
    let v = subst (λ x. Evaluated c.args.book.now x L c.get_sheet.new.w c.fired_on.result c.fired_on.new.m.env.now) c.strategy_in.ensures c.fired_on.ensures.evaluated in
    out_branch c.args.book.now c.args.pool.now (bound_is c.args.bound) some _ l c.fired_on.new.m.env.now c.fired_on.result v c.in-Some.fired c.in-Some.is (answer c.branch-book.result) c.branch-book.new.pool
    c.branch-book.ensures.branched
