-- If the arrangement makes a disjunct true at the things of a choice, it fits that disjunct's child. Each literal is true under
-- the base's things, so recording it keeps the fit; whether the bound, the limits or the observed test let it be recorded is
-- no matter.
use Rattle.std.specs.Prelude.{◌≡◌, refl, ℕ, ◌<◌, ◌+◌}
use Rattle.std.proofs.Math.Path.{sym, ap, ap₂, subst}
use Rattle.std.proofs.Common.{◌∙◌}
use mathlib.Core.List.{List, [], ◌∷◌, ◌++◌, map}
use Rattle.std.proofs.Math.Dec.{T, eqb→eq}
use Rattle.base.specs.Lists.{All, all}
use Rattle.base.specs.BranchLaws.{if_elim}
use Rattle.base.specs.ListLaws.{map_map, map_append, all_map, all_append, all_of, entries_all}
use Rattle.rules.specs.Book.{Literal, fact, same, Origin, Disjunct}
use Rattle.rules.specs.Sheet.{rel, Model, Limits}
use Rattle.rules.specs.Look.{Meaning, elem, origin_meaning, head_meanings}
use Rattle.rules.specs.Bound.{Bound}
use Rattle.rules.specs.Child.{enter, enters, Child, recorded, tell, tells, child}
use Rattle.rules.specs.Arrangement.{Arrangement, is_true, origin_value, disjunct_true}
use Rattle.laws.specs.Tables.{insert_fact_all}
use Rattle.fitting.specs.Tools.{all_image, entries_map}
use Rattle.fitting.specs.Look.{thing_of, things_of}
use Rattle.fitting.specs.Enter.{Low, FactFits, FitsBy, has_still, Follows, MeaningLow, enter_fits, enters_fits}
use Rattle.fitting.specs.Merge.{merge_fits}

-- A child on its way fits, and what the base's elements are now have the things that h₀ gave them.
pub record ChildFits (A : Arrangement) (base : ℕ) (h₀ : ℕ → ℕ) (k : Child) : Type 0 where
  pub give : ℕ → ℕ
  pub fit : FitsBy A k.model give
  pub follows : Follows base h₀ k.now k.model.created give

module _ (A : Arrangement) (base : ℕ) (h₀ : ℕ → ℕ) where
  -- ---- literals

  module _ (lim : Limits) (b : Bound) (env : List Meaning) (low : All (MeaningLow base) env) where
    abbrev True : Literal → Type 0
    True l = T (is_true A (things_of A h₀ env) l)

    recorded_fits : (l : Literal) (k : Child) → ChildFits A base h₀ k → True l → ChildFits A base h₀ (recorded lim env l k)
    unfolding recorded is_true
    recorded_fits (fact r ts) k f t =
        let m = enters ts k.model k.now env in
        let q = enters_fits A base h₀ k.now env low ts k.model f.give f.fit f.follows in
        record {
          give = q.give;
          fit = record {
            things = q.fit.things;
            keys = q.fit.keys;
            facts = insert_fact_all (FactFits A m.0.created q.give) (rel r m.1) m.0.facts
                (record { stands = subst (λ v. T (A.truth r v)) (sym q.so.1) t; low = q.so.0 }) q.fit.facts;
          };
          follows = λ e l. has_still A q _ _ (f.follows e l);
        }
    recorded_fits (same s u) k f t =
        let m = enter s k.model k.now env in
        let n = enter u m.0 k.now env in
        let q = enter_fits A base h₀ k.now env low s k.model f.give f.fit f.follows in
        let w : Follows base h₀ k.now m.0.created q.give = λ e l. has_still A q _ _ (f.follows e l) in
        let p = enter_fits A base h₀ k.now env low u m.0 q.give q.fit w in
        let left = has_still A p _ _ q.so in
        let r = merge_fits A p.give base h₀ m.1 n.1 n.0 k.now p.fit (λ e l. has_still A p _ _ (w e l))
        left.0 p.so.0 (left.1 ∙ eqb→eq _ _ t ∙ sym p.so.1) in
        record { give = p.give; fit = r.0; follows = r.1 }

    tell_fits : (l : Literal) (k : Child) → ChildFits A base h₀ k → True l → ChildFits A base h₀ (tell lim b env l k)
    unfolding tell
    tell_fits l k f t =
        if_elim (ChildFits A base h₀) _ _ _
        (λ _. if_elim (ChildFits A base h₀) _ _ _ (λ _. f) (λ _. recorded_fits l k f t))
        (λ _. record { give = f.give; fit = f.fit; follows = f.follows })

    tells_fits : (ls : List Literal) (k : Child) → ChildFits A base h₀ k → All True ls → ChildFits A base h₀ (tells lim b env ls k)
    unfolding tells
    tells_fits [] k f t = f
    tells_fits (l ∷ ls) k f t = tells_fits ls (tell lim b env l k) (tell_fits l k f t.0) t.1

  -- ---- the variables of a disjunct

  origin_thing : (c : List ℕ) (o : Origin) → thing_of A h₀ (origin_meaning c o) ≡ origin_value A (map h₀ c) o
  unfolding origin_meaning origin_value thing_of
  origin_thing c o = ap (A.value (3 + o.kind) o.witness) (entries_map h₀ c o.args)

  head_things : (c : List ℕ) (d : Disjunct) → things_of A h₀ (head_meanings c d) ≡ map h₀ c ++ map (origin_value A (map h₀ c)) d.origins
  unfolding head_meanings thing_of
  head_things c d = map_append (thing_of A h₀) (map elem c) (map (origin_meaning c) d.origins)
      ∙ ap₂ (λ (a b : List ℕ). a ++ b) (map_map (thing_of A h₀) elem c)
      (map_map (thing_of A h₀) (origin_meaning c) d.origins ∙ (λ i. map (λ o. origin_thing c o i) d.origins))

  head_low : (c : List ℕ) (d : Disjunct) → Low base c → All (MeaningLow base) (head_meanings c d)
  unfolding head_meanings origin_meaning
  head_low c d a = all_append (MeaningLow base) (map elem c) (map (origin_meaning c) d.origins)
      (all_map (λ (e : ℕ). e < base) (MeaningLow base) elem (λ e l. l) c a)
      (all_image (MeaningLow base) (origin_meaning c) (λ o. entries_all (λ (e : ℕ). e < base) c o.args a) d.origins)

pub child_fits : (A : Arrangement) (h : ℕ → ℕ) (lim : Limits) (b : Bound) (m : Model) → FitsBy A m h → (c : List ℕ) → Low m.created c → (d : Disjunct)
    → T (disjunct_true A (map h c) d) → ChildFits A m.created h (child lim b m c d)
unfolding child disjunct_true
child_fits A h lim b m f c a d t =
    tells_fits A m.created h lim b (head_meanings c d) (head_low A m.created h c d a) d.literals _
    (record { give = h; fit = f; follows = λ e l. (l, refl) })
    (all_of _ d.literals (subst (λ v. T (all (is_true A v) d.literals)) (sym (head_things A m.created h c d)) t))
