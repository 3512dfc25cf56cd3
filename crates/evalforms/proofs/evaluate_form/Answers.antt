-- The tables of the form are those of the sheet that it holds.
use mathlib.Core.Path.{sym, subst}
use Prim.Native.Nat.{◌≤◌}
use Rattle.rules.specs.Reading.{num}
use Rattle.texts.specs.Names.{count_at}
use Rattle.limits.specs.Limits.{limits_of}
use Rattle.showing.specs.Tables.{listed_octets}
use Rattle.evalforms.specs.Basis.{place_is, form_orderly, evaluated}
use Rattle.evalforms.proofs.evaluate_form.Goals as goal

pub tables_of-t-requires : goal.tables_of-t-requires
tables_of-t-requires c =
    let b = c.requires.0 in
    (form_orderly c.args.book.now (limits_of c.args.limits) c.args.base.now b.sheet b.holds b.small b.neat b.few, c.requires.1.1)

pub evaluate-requires : goal.evaluate-requires
evaluate-requires c =
    let b = c.requires.0 in
    record { fits = (subst (λ k. k ≤ num c.args.book.now (count_at c.args.book.now)) (sym (place_is (limits_of c.args.limits) c.args.base.now b.sheet b.holds)) b.low, c.requires.1.0); octets = listed_octets _ _ c.tables_of-t.ensures.domain_is }

pub returns : goal.returns
returns c =
    evaluated c.args.book.now (limits_of c.args.limits) c.args.base.now _ _ _ c.tables_of-t.ensures _ c.evaluate.result c.evaluate.new.env c.evaluate.ensures
