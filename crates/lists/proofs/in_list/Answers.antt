-- The list is the front of its room, and one of its slots is i.
use mathlib.Core.Path.{◌≡◌, refl, ap, ap₂, ◌∙◌}
use Prim.Native.Nat.{ℕ}
use native.Mathlib.Omega.{arith}
use borrow.Author.Rules.{rules}
use lib.Dec.{eqb}
use lib.ListN.{get_or, take, drop}
use Rattle.std.specs.List.{list_any}
use Rattle.std.proofs.lemmas.List.{drop_min, take_all, length-drop}
use Rattle.std.proofs.lemmas.Iterator.{YieldsList-from_slice, YieldsList-from_take}
use Rattle.std.proofs.lemmas.Iterator.Search.{any_from_yields_List}
use Rattle.base.specs.Lists.{mem}
use Rattle.rules.specs.Image.{list_in}
use Rattle.lists.specs.Header.{list_front, any_mem}
use Rattle.lists.proofs.in_list.Goals as goal

pub returns : goal.returns
returns c =
    let at = c.min-at.result in
    let n = c.list_length-n.result in
    let e : c.any.result ≡ list_any (eqb c.args.i) (take n (drop at c.args.p.now)) =
    any_from_yields_List (eqb c.args.i) _ _ _ c.any.ensures.ran (YieldsList-from_take n (YieldsList-from_slice _ (ap (λ x. x.rest.now) c.take.ensures.source ∙ c.iter.ensures.rest ∙ take_all _ (drop at c.args.p.now) (omega (arith, length-drop at c.args.p.now)))) c.take.ensures.count) (λ x b q k. search rules) in
    e ∙ any_mem c.args.i _ ∙ ap (mem c.args.i)
    (ap₂ (λ (a k : ℕ). take k (drop a c.args.p.now)) c.min-at.ensures c.list_length-n.ensures ∙ ap (take _) (drop_min c.starts_at.result c.args.p.now) ∙ list_front _ _ c.args.p.now
    ∙ ap₂ (λ a k. list_in a (get_or c.args.p.now k 0) c.args.p.now) c.starts_at.ensures.0 refl)
