-- The history of a child on its way takes each element of its sheet to itself, and what it makes of an element too; and so it does
-- with a number that no element has yet. Recording a term and merging two elements keep this.
use Rattle.std.specs.Prelude.{◌≡◌, refl, ℕ, ◌≤◌, ◌<◌, ◌⊎◌, ◌↔◌, List, get_or, T}
use Rattle.std.proofs.Common.{sym, ◌∙◌, le_refl, arith, inl, inr}
use Rattle.std.proofs.Math.Path.{ap, subst}
use Rattle.base.specs.BranchLaws.{case_o_elim}
use Rattle.base.specs.ListLaws.{all_all, all_in, In}
use Rattle.rules.specs.Book.{Term, var, con, app, Terms, nil, cons, Names}
use Rattle.rules.specs.Sheet.{Key, Entry, Model, known, Limits}
use Rattle.rules.specs.Look.{Meaning, elem, witness, nobody}
use Rattle.rules.specs.Bound.{History}
use Rattle.rules.specs.Merge.{merge}
use Rattle.rules.specs.Child.{add, put, put_meaning, enter, enters}
use Rattle.laws.specs.Tables.{insert_key_all}
use Rattle.soundness.specs.Tools.{Yields, yielded_has, known_yielded, in_has, some_meets}
use Rattle.soundness.specs.Join.{yielded_low}
use Rattle.soundness.specs.Neat.{Neat}
use Rattle.congruence.specs.Forced.{Congruence}
use Rattle.congruence.specs.Images.{entry_image}
use Rattle.congruence.specs.Rounds.{merge_after}
use Rattle.congruence.specs.Survivors.{survivor, Smallest}
use Rattle.congruence.specs.History.{Living}
use Rattle.congruence.proofs.Survivors.{survivor_smallest}
use Rattle.congruence.specs.Merged.{Merged}
use Rattle.congruence.proofs.Merged.{merge_merged}

-- ---- recording

module _ (now : History) where
  put_living : (m : Model) (k : Key) → Living now m → Living now (put m k).0
  unfolding put add
  put_living m k g = case_o_elim (λ (r : Model × ℕ). Living now r.0) _ _ _
      (λ _. record {
        twice = g.twice;
        own = insert_key_all (Yields (λ v. now v ≡ v)) (k, m.created) m.keys (g.new m.created (le_refl _)) g.own;
        new = λ e l. g.new e (omega arith);
      })
      (λ e _. g)

  meaning_living : (m : Model) (s : Meaning) → Living now m → Living now (put_meaning m now s).0
  unfolding put_meaning
  meaning_living m (elem e) g = g
  meaning_living m (witness k) g = put_living m _ g

  module _ (env : List Meaning) where
    mutual
      unfolding enter

      pub enter_living : (t : Term) (m : Model) → Living now m → Living now (enter t m now env).0
      enter_living (var i) m g = meaning_living m (get_or env i nobody) g
      enter_living (con c) m g = put_living m _ g
      enter_living (app f ts) m g = put_living _ _ (enters_living ts m g)

      pub enters_living : (ts : Terms) (m : Model) → Living now m → Living now (enters ts m now env).0
      enters_living nil m g = g
      enters_living (cons t ts) m g = enters_living ts _ (enter_living t m g)

-- ---- merging

module _ (lim : Limits) (d : Names) (m : Model) (n : Neat lim d m) (a b : ℕ) (ka : T (known m a)) (kb : T (known m b)) (now : History) (g : Living now m) where
  abbrev h : ℕ → ℕ
  h = survivor a b m

  small : (e : ℕ) → Smallest a b m e
  small = survivor_smallest a b m n.listed.keys_rise

  -- A congruence: both elements are taken to themselves or none is.
  abbrev Both : ℕ → ℕ → Type 0
  Both x y = (now x ≡ x) ↔ (now y ≡ y)

  both : Congruence a b m.keys Both
  both =
      let own : (e : ℕ) → T (known m e) → now e ≡ e = λ e k. yielded_has (λ v. now v ≡ v) m.keys g.own e (known_yielded m e k) in
      let at : (x : Entry) → In x m.keys → now x.1 ≡ x.1 = λ x i. in_has (Yields (λ v. now v ≡ v)) x m.keys i g.own in
      record {
        self = λ x. (λ e. e, λ e. e);
        back = λ x y p. (p.1, p.0);
        chain = λ x y z p q. (λ e. q.0 (p.0 e), λ e. p.1 (q.1 e));
        joins = (λ _. own b kb, λ _. own a ka);
        closed = λ x y i j _ _ _. (λ _. at y j, λ _. at x i);
      }

  -- Another: one number, or two that elements have had.
  abbrev Old : ℕ → ℕ → Type 0
  Old x y = (x ≡ y) ⊎ ((x < m.created) × (y < m.created))

  old : Congruence a b m.keys Old
  old =
      let low : (e : ℕ) → T (known m e) → e < m.created = λ e k. yielded_low m n.linked e (known_yielded m e k) in
      let at : (x : Entry) → In x m.keys → x.1 < m.created = λ x i. in_has (Yields (λ v. v < m.created)) x m.keys i n.linked.low in
      record { self = λ x. inl refl; back = turned; chain = chained; joins = inr (low a ka, low b kb); closed = λ x y i j _ _ _. inr (at x i, at y j) }
    where
      turned : (x y : ℕ) → Old x y → Old y x
      turned x y (inl e) = inl (sym e)
      turned x y (inr p) = inr (p.1, p.0)

      chained : (x y z : ℕ) → Old x y → Old y z → Old x z
      chained x y z (inl e) q = subst (λ u. Old u z) (sym e) q
      chained x y z (inr p) (inl e) = inr (p.0, subst (λ u. u < m.created) e p.1)
      chained x y z (inr p) (inr q) = inr (p.0, q.1)

  survivor_own : (e : ℕ) → now e ≡ e → h (now (h e)) ≡ h e
  survivor_own e p = ap h (((small e).in_class Both both).0 p) ∙ (small e).own

  survivor_new : (e : ℕ) → m.created ≤ e → h e ≡ e
  survivor_new e l = elim ((small e).in_class Old old) [ inl p ↦ sym p | inr q ↦ (let u = q.0 in absurd (omega arith)) ]

  pub merge_living : Living (merge a b m now).1 (merge a b m now).0
  unfolding survivor
  merge_living = subst (λ (r : Model × History). Living r.1 r.0) (sym (merge_after now a b m)) (record {
    twice = λ e. survivor_own (now e) (g.twice e);
    own = all_all (λ y. In y w.0.keys) (Yields (λ v. h (now v) ≡ v))
        (λ y i. some_meets (λ x. entry_image h x ≡ y) (Yields (λ v. now v ≡ v)) (h (now y.1) ≡ y.1)
        (λ x q o. subst (λ (z : Entry). h (now z.1) ≡ z.1) q (survivor_own x.1 o)) m.keys ((t.tables.keys y).0 i) g.own) w.0.keys (all_in w.0.keys);
    new = λ e l. let u : m.created ≤ e = subst (λ c. c ≤ e) t.created l in ap h (g.new e u) ∙ survivor_new e u;
  })
    where
      w : Model × History
      w = merge a b m (λ e. e)

      t : Merged a b m w.0 h
      t = merge_merged lim d m n a b ka kb (λ e. e)
