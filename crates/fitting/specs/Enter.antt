-- Recording a term keeps the fit. A new element gets the thing that its key names, and the elements that were there keep
-- theirs; so all keys and facts still hold, and the term's element has the thing that the term denotes.
use Rattle.std.specs.Prelude.{◌≡◌, refl, List, [], ◌∷◌, map, get_or, T, eqb}
use Rattle.std.proofs.Math.Path.{sym, ap, subst}
use Rattle.std.proofs.Common.{ap₂, ◌∙◌, le_trans, lt_of_lt_of_le}
use Prim.Native.Nat.{ℕ, suc, ◌≤◌, ◌<◌}
use Rattle.std.proofs.Math.Nat.{le_refl}
use native.Mathlib.Omega.{arith}
use Rattle.std.proofs.Math.ListN.{get_or-map}
use Rattle.std.proofs.Math.Dec.{eqb→eq, eqb_refl}
use Rattle.base.specs.Branch.{if}
use Rattle.base.specs.Lists.{All}
use Rattle.base.specs.BranchLaws.{if_elim, if_true, case_o_elim}
use Rattle.base.specs.ListLaws.{map_map, map_agree, all_all, all_map, all_get_d_or}
use Rattle.rules.specs.Book.{Term, var, con, app, Terms, nil, cons}
use Rattle.rules.specs.Sheet.{Key, key, Fact, Entry, Model}
use Rattle.rules.specs.Look.{Meaning, elem, witness, nobody}
use Rattle.rules.specs.Bound.{History}
use Rattle.rules.specs.Child.{add, put, put_meaning, enter, enters}
use Rattle.rules.specs.Arrangement.{Arrangement, eval, evals, KeyHolds, FactHolds}
use Rattle.laws.specs.Tables.{find_all, insert_key_all}
use Rattle.fitting.specs.Tools.{all_image}
use Rattle.fitting.specs.Look.{named, thing_of, things_of}

-- ---- the fit of a model under h, with all elements below the created count: without that, a new element may be an old one

abbrev pub Low : ℕ → List ℕ → Type 0
Low n xs = All (λ (e : ℕ). e < n) xs

pub record KeyFits (A : Arrangement) (n : ℕ) (h : ℕ → ℕ) (x : Entry) : Type 0 where
  pub stands : KeyHolds A h x
  pub low : Low n x.0.args
  pub value_low : x.1 < n

pub record FactFits (A : Arrangement) (n : ℕ) (h : ℕ → ℕ) (f : Fact) : Type 0 where
  pub stands : FactHolds A h f
  pub low : Low n f.args

pub record FitsBy (A : Arrangement) (m : Model) (h : ℕ → ℕ) : Type 0 where
  pub things : (e : ℕ) → A.thing (h e)
  pub keys : All (KeyFits A m.created h) m.keys
  pub facts : All (FactFits A m.created h) m.facts

-- ---- growing: more elements, the old ones with their things

-- The element is one of the n created, and its thing is v; the same of many.
abbrev pub Has : ℕ → (ℕ → ℕ) → ℕ → ℕ → Type 0
Has n h e v = (e < n) × (h e ≡ v)

abbrev pub Have : ℕ → (ℕ → ℕ) → List ℕ → List ℕ → Type 0
Have n h es vs = Low n es × (map h es ≡ vs)

-- A model m that h fits has grown to one that `give` fits, of which Q holds too.
pub record Grown (A : Arrangement) (m : Model) (h : ℕ → ℕ) (new : Model) (Q : (ℕ → ℕ) → Type 0) : Type 0 where
  pub give : ℕ → ℕ
  pub fit : FitsBy A new give
  pub grows : m.created ≤ new.created
  pub keeps : (e : ℕ) → e < m.created → give e ≡ h e
  pub so : Q give

abbrev pub Put : Arrangement → Model → (ℕ → ℕ) → Model × ℕ → ℕ → Type 0
Put A m h r v = Grown A m h r.0 (λ g. Has r.0.created g r.1 v)

abbrev pub Puts : Arrangement → Model → (ℕ → ℕ) → Model × List ℕ → List ℕ → Type 0
Puts A m h r vs = Grown A m h r.0 (λ g. Have r.0.created g r.1 vs)

module _ (A : Arrangement) where
  unchanged : {Q : (ℕ → ℕ) → Type 0} (m : Model) (h : ℕ → ℕ) → FitsBy A m h → Q h → Grown A m h m Q
  unchanged m h f q = record { give = h; fit = f; grows = le_refl m.created; keeps = λ e l. refl; so = q }

  then : {m n k : Model} {h : ℕ → ℕ} {P Q R : (ℕ → ℕ) → Type 0} (p : Grown A m h n P) (q : Grown A n p.give k Q) → R q.give → Grown A m h k R
  then p q r = record {
    give = q.give;
    fit = q.fit;
    grows = le_trans p.grows q.grows;
    keeps = λ e l. q.keeps e (lt_of_lt_of_le l p.grows) ∙ p.keeps e l;
    so = r;
  }

  pub has_still : {m n : Model} {h : ℕ → ℕ} {Q : (ℕ → ℕ) → Type 0} (p : Grown A m h n Q) (e v : ℕ) → Has m.created h e v → Has n.created p.give e v
  has_still p e v i = (lt_of_lt_of_le i.0 p.grows, p.keeps e i.0 ∙ i.1)

  -- What stands goes on standing when there are more elements and the old ones keep their things.
  module _ (n k : ℕ) (h g : ℕ → ℕ) (l : n ≤ k) (keeps : (e : ℕ) → e < n → g e ≡ h e) where
    low_still : (xs : List ℕ) → Low n xs → Low k xs
    low_still xs a = all_all (λ (e : ℕ). e < n) (λ (e : ℕ). e < k) (λ e p. lt_of_lt_of_le p l) xs a

    things_still : (xs : List ℕ) → Low n xs → map g xs ≡ map h xs
    things_still xs a = map_agree (λ (e : ℕ). e < n) g h keeps xs a

    key_still : (x : Entry) → KeyFits A n h x → KeyFits A k g x
    key_still x f = record {
      stands = ap (A.value x.0.kind x.0.symbol) (things_still x.0.args f.low) ∙ f.stands ∙ sym (keeps x.1 f.value_low);
      low = low_still x.0.args f.low;
      value_low = lt_of_lt_of_le f.value_low l;
    }

    fact_still : (x : Fact) → FactFits A n h x → FactFits A k g x
    fact_still x f = record {
      stands = subst (λ v. T (A.truth x.relation v)) (sym (things_still x.args f.low)) f.stands;
      low = low_still x.args f.low;
    }

-- ---- a new element

-- h, but n is given v.
also : (ℕ → ℕ) → ℕ → ℕ → ℕ → ℕ
also h n v e = if (eqb e n) (λ _. v) (λ _. h e)

module _ (A : Arrangement) (m : Model) (h : ℕ → ℕ) (f : FitsBy A m h) (k : Key) (low : Low m.created k.args) where
  add_fits : Put A m h (add m k, m.created) (named A h k)
  unfolding add also
  add_fits =
      let n = m.created in
      let v : ℕ = named A h k in
      let g : ℕ → ℕ = also h n v in
      let l : n ≤ suc n = omega arith in
      let old : (e : ℕ) → e < n → g e ≡ h e = λ e p. if_elim (λ x. x ≡ h e) _ _ _ (λ t. let q = eqb→eq e n t in absurd (omega arith)) (λ _. refl) in
      let new : g n ≡ v = if_true _ _ _ (eqb_refl n) in
      record {
        give = g;
        fit = record {
          things = λ e. if_elim A.thing _ _ _ (λ _. A.closed k.kind k.symbol _ (all_image A.thing h f.things k.args)) (λ _. f.things e);
          keys = insert_key_all (KeyFits A (suc n) g) (k, n) m.keys
              (record {
                stands = ap (A.value k.kind k.symbol) (things_still A n (suc n) h g l old k.args low) ∙ sym new;
                low = low_still A n (suc n) h g l old k.args low;
                value_low = le_refl (suc n);
              })
              (all_all _ _ (key_still A n (suc n) h g l old) m.keys f.keys);
          facts = all_all _ _ (fact_still A n (suc n) h g l old) m.facts f.facts;
        };
        grows = l;
        keeps = old;
        so = (le_refl (suc n), new);
      }

  put_fits : Put A m h (put m k) (named A h k)
  unfolding put
  put_fits = case_o_elim (λ r. Put A m h r (named A h k)) _ _ _
      (λ _. add_fits)
      (λ e p. let q = find_all (KeyFits A m.created h) k m.keys e f.keys p in unchanged A m h f (q.value_low, sym q.stands))

-- ---- a term

-- What an element of the base is now has the thing that the base's element has.
abbrev pub Follows : ℕ → (ℕ → ℕ) → History → ℕ → (ℕ → ℕ) → Type 0
Follows base h₀ now n h = (e : ℕ) → e < base → Has n h (now e) (h₀ e)

abbrev pub MeaningLow : ℕ → Meaning → Type 0
MeaningLow n (elem e) = e < n
MeaningLow n (witness k) = Low n k.args

-- A term is read under the base's own things, h₀, whatever was merged since.
module _ (A : Arrangement) (base : ℕ) (h₀ : ℕ → ℕ) (now : History) (env : List Meaning) (low : All (MeaningLow base) env) where
  meaning_fits : (s : Meaning) → MeaningLow base s → (m : Model) (h : ℕ → ℕ) → FitsBy A m h → Follows base h₀ now m.created h
      → Put A m h (put_meaning m now s) (thing_of A h₀ s)
  unfolding put_meaning thing_of
  meaning_fits (elem e) l m h f w = unchanged A m h f (w e l)
  meaning_fits (witness k) l m h f w =
      subst (λ v. Put A m h (put m (key k.kind k.symbol (map now k.args))) (A.value k.kind k.symbol v))
      (map_map h now k.args ∙ map_agree (λ (e : ℕ). e < base) (λ e. h (now e)) h₀ (λ e p. (w e p).1) k.args l)
      (put_fits A m h f (key k.kind k.symbol (map now k.args))
      (all_map (λ (e : ℕ). e < base) (λ (e : ℕ). e < m.created) now (λ e p. (w e p).0) k.args l))

  mutual
    unfolding enter eval thing_of

    pub enter_fits : (t : Term) (m : Model) (h : ℕ → ℕ) → FitsBy A m h → Follows base h₀ now m.created h
        → Put A m h (enter t m now env) (eval t A (things_of A h₀ env))
    enter_fits (var i) m h f w =
        subst (Put A m h (enter (var i) m now env)) (sym (get_or-map (thing_of A h₀) env i nobody))
        (meaning_fits (get_or env i nobody) (all_get_d_or (MeaningLow base) env i nobody low tt) m h f w)
    enter_fits (con c) m h f w = put_fits A m h f (key 1 c []) tt
    enter_fits (app s ts) m h f w =
        let r = enters_fits ts m h f w in
        let q = put_fits A (enters ts m now env).0 r.give r.fit (key 2 s (enters ts m now env).1) r.so.0 in
        then A r q (q.so.0, q.so.1 ∙ ap (A.value 2 s) r.so.1)

    pub enters_fits : (ts : Terms) (m : Model) (h : ℕ → ℕ) → FitsBy A m h → Follows base h₀ now m.created h
        → Puts A m h (enters ts m now env) (evals ts A (things_of A h₀ env))
    enters_fits nil m h f w = unchanged A m h f (tt, refl)
    enters_fits (cons t ts) m h f w =
        let r = enter_fits t m h f w in
        let q = enters_fits ts (enter t m now env).0 r.give r.fit (λ e l. has_still A r _ _ (w e l)) in
        let i = has_still A q _ _ r.so in
        then A r q ((i.0, q.so.0), ap₂ (λ (a : ℕ) (b : List ℕ). a ∷ b) i.1 q.so.1)
