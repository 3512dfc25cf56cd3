-- An arrangement that keeps the rules and fits a base fits a child of whatever fires there: the observed body is true at the
-- things of the choice, so some disjunct is, and its child fits. So an empty head never fires where such an arrangement fits.
use Rattle.std.specs.Prelude.{◌≡◌, not, List, [], ◌∷◌, map}
use Rattle.std.proofs.Common.{◌∙◌}
use Prim.Native.Nat.{ℕ, ◌<◌}
use Rattle.std.proofs.Math.Option.{some}
use Rattle.std.proofs.lemmas.List.{length-map}
use Rattle.std.proofs.Math.Dec.{T}
use Rattle.base.specs.Lists.{Some, is_nil}
use Rattle.base.specs.BranchLaws.{and_l}
use Rattle.base.specs.ListLaws.{all_all, all_map, firsts_all, any_some, some_map}
use Rattle.rules.specs.Book.{Disjunct, Sequent}
use Rattle.rules.specs.Sheet.{Entry, Model, domain, empty, Limits}
use Rattle.rules.specs.Fire.{body_observed, head_observed, fires, Firing, firing}
use Rattle.rules.specs.Bound.{Bound}
use Rattle.rules.specs.Child.{Child, child}
use Rattle.rules.specs.Arrangement.{Arrangement, disjunct_true, head_true, KeepsRule, Keeps, KeyHolds, FactHolds, Fits}
use Rattle.laws.specs.Firing.{Within, firing_is}
use Rattle.fitting.specs.Tools.{all_image}
use Rattle.fitting.specs.Look.{body_true_lem}
use Rattle.fitting.specs.Enter.{Low, FitsBy}
use Rattle.fitting.specs.Child.{child_fits}

-- The arrangement fits, and all elements are below the created count.
pub record Held (A : Arrangement) (m : Model) : Type 0 where
  pub give : ℕ → ℕ
  pub fit : FitsBy A m give

pub held_fits : (A : Arrangement) (m : Model) → Held A m → Fits A m
held_fits A m g = record {
  give = g.give;
  things = λ e _. g.fit.things e;
  keys = all_all _ (KeyHolds A g.give) (λ x k. k.stands) m.keys g.fit.keys;
  facts = all_all _ (FactHolds A g.give) (λ x f. f.stands) m.facts g.fit.facts;
}

pub held_empty : (A : Arrangement) → Held A empty
unfolding empty
held_empty A = record { give = λ _. A.one; fit = record { things = λ _. A.one_is; keys = tt; facts = tt } }

domain_low : (A : Arrangement) (m : Model) (h : ℕ → ℕ) → FitsBy A m h → Low m.created (domain m)
unfolding domain
domain_low A m h f =
    firsts_all (λ (e : ℕ). e < m.created) _ (all_map _ (λ (e : ℕ). e < m.created) (λ (x : Entry). x.1) (λ x k. k.value_low) m.keys f.keys)

module _ (A : Arrangement) (rs : List Sequent) (ks : Keeps A rs) (lim : Limits) (b : Bound) (m : Model) (vs : List (ℕ × Sequent))
    (within : Within rs vs) (g : Held A m) (f : Firing) (e : firing m vs ≡ some f) where
  pub fired_held : Some (λ (k : Child). Held A k.model) (map (child lim b m f.choice) f.sequent.head)
  unfolding fires head_true held_fits
  fired_held =
      let h = g.give in
      let s = f.sequent in
      let c = f.choice in
      let r = firing_is (λ x. x < m.created) (λ (x : ℕ × Sequent). KeepsRule A x.1) m (domain_low A m h g.fit) vs (within (KeepsRule A) ks) f e in
      let fit = held_fits A m g in
      let body = body_true_lem A h m fit.keys fit.facts s c (and_l (body_observed m s c) (not (head_observed m s c)) r.fired) in
      let head = r.visited (map h c) (length-map c h ∙ r.chosen.0) (all_image A.thing h g.fit.things c) body in
      some_map (λ (d : Disjunct). T (disjunct_true A (map h c) d)) (λ (k : Child). Held A k.model) (child lim b m c)
      (λ d t. let k = child_fits A h lim b m g.fit c r.chosen.1 d t in record { give = k.give; fit = k.fit })
      s.head (any_some (disjunct_true A (map h c)) s.head head)

  pub failed_none : T (is_nil f.sequent.head) → ⊥
  failed_none t = none f.sequent.head t fired_held
    where
      none : (ds : List Disjunct) → T (is_nil ds) → Some (λ (k : Child). Held A k.model) (map (child lim b m f.choice) ds) → ⊥
      none [] t s = s.lower
      none (d ∷ ds) t s = t
