-- The regions are what the form shows, in order; the values of keys are elements.
use native.Mathlib.Omega.{arith}
use mathlib.Core.Path.{refl, sym, ap, ◌∙◌, subst}
use mathlib.Core.List.{List, map}
use Prim.Native.Nat.{ℕ}
use Rattle.base.specs.Lists.{firsts}
use Rattle.limits.specs.Limits.{limits_of}
use Rattle.packing.specs.Replace.{value_of}
use Rattle.tables.specs.Table.{Rising}
use Rattle.showing.specs.Tables.{keys_shown, facts_shown}
use Rattle.showing.proofs.tables_of.Goals as goal

pub invariant_of-result : goal.invariant_of-result
invariant_of-result c = record {
  keys_rise = subst Rising (sym (keys_shown (limits_of c.args.limits) c.args.w.now _ refl)) c.requires.0.keys_rise;
  facts_rise = subst Rising (sym (facts_shown (limits_of c.args.limits) c.args.w.now c.facts_at-at.result _ (omega arith) refl)) c.requires.0.facts_rise;
}

pub returns : goal.returns
returns c = record {
  keys_are = keys_shown (limits_of c.args.limits) c.args.w.now _ refl;
  facts_are = facts_shown (limits_of c.args.limits) c.args.w.now c.facts_at-at.result _ (omega arith) refl;
  domain_is = c.list_domain-nd.ensures.0 ∙ ap (λ (l : List ℕ). firsts (map value_of l)) (keys_shown (limits_of c.args.limits) c.args.w.now _ refl);
}
