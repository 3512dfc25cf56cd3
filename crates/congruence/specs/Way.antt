-- What each round of a merge keeps, by any order: each key is the image of one that was there at first; each that was there has its image, up to
-- one colour for the two elements of each waiting pair; and whatever is a congruence relates each element to its image, and the
-- elements of each waiting pair.
use Rattle.std.specs.Prelude.{◌≡◌}
use Rattle.std.proofs.Math.Path.{sym, ap}
use Rattle.std.proofs.Common.{◌∙◌, subst₂, arith, inl}
use Prim.Native.Nat.{ℕ, ◌≤◌, min, max}
use Rattle.std.proofs.Math.Nat.{le_refl, le_trans}
use Rattle.std.proofs.Math.Decide.{dec_le}
use mathlib.Core.List.{List, [], ◌∷◌, map}
use Rattle.base.specs.Lists.{All, Some}
use Rattle.base.specs.ListLaws.{all_all, all_map, all_unmap, all_in, some_some, some_map, In}
use Rattle.rules.specs.Sheet.{Key, Fact, Entry, Model}
use Rattle.rules.specs.Bound.{History}
use Rattle.rules.specs.Merge.{rename, rename_entry, rename_fact, Pair, rename_pair, refile, refact}
use Rattle.laws.specs.Tables.{KeysRise, refile_all, refile_rises, refact_all}
use Rattle.laws.specs.MergeBy.{Reorders, merge_into_by}
use Rattle.laws.proofs.MergeByLaws.{reorders_back}
use Rattle.soundness.specs.Tools.{some_meets}
use Rattle.congruence.specs.Forced.{Congruence, args_related}
use Rattle.congruence.specs.Images.{key_image, entry_image, fact_image, key_twice, entry_twice, fact_twice, entry_self, fact_self, From, from_on, self_from, self_there}
use Rattle.congruence.specs.Filing.{refile_makes, refile_kept, refile_has, refact_has}
use Rattle.congruence.specs.Rounds.{rename_has, rename_of, one_renamed, round_of}

-- One colour for the two elements of a pair.
abbrev pub OneColour : (ℕ → ℕ) → Pair → Type 0
OneColour c p = c p.0 ≡ c p.1

-- The entry y has the key of x's image, and its colour for a value.
abbrev pub There : (ℕ → ℕ) → (ℕ → ℕ) → Entry → Entry → Type 0
There c h x y = (y.0 ≡ key_image h x.0) × (c y.1 ≡ c (h x.1))

-- Keys and facts on the way from those of m, with what each element is now and the pairs that wait.
pub record Way (a b : ℕ) (m : Model) (ks : List Entry) (fs : List Fact) (h : History) (ps : List Pair) : Type 1 where
  pub keys_rise : KeysRise ks
  pub keys_from : All (From (entry_image h) m.keys) ks
  pub keys_there : (c : ℕ → ℕ) → All (OneColour c) ps → All (λ (x : Entry). Some (There c h x) ks) m.keys
  pub facts_from : All (From (fact_image h) m.facts) fs
  pub facts_there : All (λ (f : Fact). In (fact_image h f) fs) m.facts
  pub joins : (c : ℕ → ℕ) → All (OneColour c) ps → c (h a) ≡ c (h b)
  pub below : (e : ℕ) → h e ≤ e
  pub forced : (E : ℕ → ℕ → Type 0) → Congruence a b m.keys E → ((e : ℕ) → E e (h e)) × All (λ (p : Pair). E p.0 p.1) ps

abbrev pub WayTo : ℕ → ℕ → Model → Model → History → List Pair → Type 1
WayTo a b m n h ps = Way a b m n.keys n.facts h ps

pub way_skip : (a b : ℕ) (m n : Model) (h : History) (p : Pair) (ps : List Pair) → p.0 ≡ p.1 → WayTo a b m n h (p ∷ ps) → WayTo a b m n h ps
way_skip a b m n h p ps e w = record {
  keys_rise = w.keys_rise;
  keys_from = w.keys_from;
  keys_there = λ c o. w.keys_there c (ap c e, o);
  facts_from = w.facts_from;
  facts_there = w.facts_there;
  joins = λ c o. w.joins c (ap c e, o);
  below = w.below;
  forced = λ E c. let r = w.forced E c in (r.0, r.1.1);
}

module _ (a b : ℕ) (ks : List Entry) (E : ℕ → ℕ → Type 0) (c : Congruence a b ks E) where
  both_sides : (h : ℕ → ℕ) → ((e : ℕ) → E e (h e)) → {x y : ℕ} → E x y → E (h x) (h y)
  both_sides h r {x} {y} e = c.chain (h x) x (h y) (c.back x (h x) (r x)) (c.chain x y (h y) e (r y))

  -- A congruence that relates them relates each element to what it is renamed to.
  renamed_related : (p : Pair) → E p.0 p.1 → (e : ℕ) → E e (rename_of p e)
  renamed_related p e = rename_has E (min p.0 p.1) (max p.0 p.1)
      (elim (dec_le p.0 p.1) [
        | yes d ↦ (let u : p.1 ≡ max p.0 p.1 = omega arith in let v : p.0 ≡ min p.0 p.1 = omega arith in subst₂ E u v (c.back p.0 p.1 e))
        | no d ↦ (let u : p.0 ≡ max p.0 p.1 = omega arith in let v : p.1 ≡ min p.0 p.1 = omega arith in subst₂ E u v e)
      ]) (λ x _. c.self x)

  -- Two values of one key are related, if both are images of entries.
  values_related : (h : ℕ → ℕ) → ((e : ℕ) → E e (h e)) → (k : Key) (u v : ℕ) → From (entry_image h) ks (k, u) → From (entry_image h) ks (k, v) → E u v
  values_related h r k u v s t =
      some_meets (λ (x : Entry). entry_image h x ≡ (k, u)) (λ x. In x ks) (E u v) (λ x p i.
      some_meets (λ (y : Entry). entry_image h y ≡ (k, v)) (λ y. In y ks) (E u v) (λ y q j.
      let e : key_image h x.0 ≡ key_image h y.0 = ap (λ (z : Entry). z.0) p ∙ sym (ap (λ (z : Entry). z.0) q) in
      let w = c.closed x y i j (ap (λ (z : Key). z.kind) e) (ap (λ (z : Key). z.symbol) e)
      (args_related a b ks E c h r x.0.args y.0.args (ap (λ (z : Key). z.args) e)) in
      subst₂ E (ap (λ (z : Entry). z.1) p) (ap (λ (z : Entry). z.1) q) (both_sides h r w)) ks t (all_in ks)) ks s (all_in ks)

module _ (order : List Entry → List Entry) (next : List Pair → List Pair) (ro : Reorders order) (rn : Reorders next)
    (a b : ℕ) (m n : Model) (h : History) (p : Pair) (ps : List Pair) (w : WayTo a b m n h (p ∷ ps)) where
  pub way_round : WayTo a b m (round_of order next p n ps).0 (λ e. rename_of p (h e)) (round_of order next p n ps).1
  unfolding merge_into_by rename_entry rename_fact
  way_round = record {
    keys_rise = refile_rises xs ([], qs) tt;
    keys_from = refile_all (From (entry_image hr) m.keys) xs ([], qs) renamed tt;
    keys_there = λ c o. all_all (λ (x : Entry). Some (There (λ e. c (r e)) h x) n.keys) (λ (x : Entry). Some (There c hr x) (refile xs ([], qs)).0)
        (λ x u. refile_has (There c hr x) xs ([], qs)
        (all_all (OneColour c) (λ (q : Pair). (k : Key) → There c hr x (k, q.0) → There c hr x (k, q.1)) (λ q e k t. (t.0, sym e ∙ t.1)) (refile xs ([], qs)).1 (kept c o))
        (inl (ro.has (There c hr x) (map (rename_entry s l) n.keys)
        (some_map (There (λ e. c (r e)) h x) (There c hr x) (rename_entry s l) (λ y t. (ap (key_image r) t.0 ∙ key_twice r h x.0, t.1)) n.keys u))))
        m.keys (w.keys_there (λ e. c (r e)) (colours c o));
    facts_from = refact_all (From (fact_image hr) m.facts) fs []
        (all_map (From (fact_image h) m.facts) (From (fact_image hr) m.facts) (rename_fact s l)
        (from_on (fact_image h) (fact_image r) (fact_image hr) (fact_twice r h) m.facts) n.facts w.facts_from) tt;
    facts_there = all_all (λ (f : Fact). In (fact_image h f) n.facts) (λ (f : Fact). In (fact_image hr f) (refact fs []))
        (λ f i. refact_has (λ g. g ≡ fact_image hr f) fs []
        (inl (some_map (λ g. g ≡ fact_image h f) (λ g. g ≡ fact_image hr f) (rename_fact s l) (λ g t. ap (fact_image r) t ∙ fact_twice r h f) n.facts i))) m.facts w.facts_there;
    joins = λ c o. w.joins (λ e. c (r e)) (colours c o);
    below = λ e. le_trans (rename_has (λ x y. y ≤ x) s l (omega arith) (λ x _. le_refl x) (h e)) (w.below e);
    forced = λ E c.
        let old = w.forced E c in
        let step = renamed_related a b m.keys E c p old.1.0 in
        let to : (e : ℕ) → E e (hr e) = λ e. c.chain e (h e) (hr e) (old.0 e) (step (h e)) in (
          to,
          rn.each (λ (q : Pair). E q.0 q.1) _
              (refile_makes (From (entry_image hr) m.keys) (λ (q : Pair). E q.0 q.1) (values_related a b m.keys E c hr to) xs ([], qs) renamed tt
              (all_map (λ (q : Pair). E q.0 q.1) (λ (q : Pair). E q.0 q.1) (rename_pair s l) (λ q e. both_sides a b m.keys E c r step e) ps old.1.1)),
        );
  }
    where
      s : ℕ
      s = min p.0 p.1

      l : ℕ
      l = max p.0 p.1

      r : ℕ → ℕ
      r = rename s l

      hr : ℕ → ℕ
      hr e = r (h e)

      xs : List Entry
      xs = order (map (rename_entry s l) n.keys)

      fs : List Fact
      fs = map (rename_fact s l) n.facts

      qs : List Pair
      qs = map (rename_pair s l) ps

      renamed : All (From (entry_image hr) m.keys) xs
      renamed = ro.each (From (entry_image hr) m.keys) (map (rename_entry s l) n.keys)
          (all_map (From (entry_image h) m.keys) (From (entry_image hr) m.keys) (rename_entry s l)
          (from_on (entry_image h) (entry_image r) (entry_image hr) (entry_twice r h) m.keys) n.keys w.keys_from)

      kept : (c : ℕ → ℕ) → All (OneColour c) (next (refile xs ([], qs)).1) → All (OneColour c) (refile xs ([], qs)).1
      kept c o = reorders_back next rn (OneColour c) (refile xs ([], qs)).1 o

      colours : (c : ℕ → ℕ) → All (OneColour c) (next (refile xs ([], qs)).1) → All (OneColour (λ e. c (r e))) (p ∷ ps)
      colours c o = (ap c (one_renamed p), all_unmap (OneColour c) (rename_pair s l) ps (refile_kept (OneColour c) xs ([], qs) (kept c o)))

-- At first each entry is its own image.
pub way_start : (a b : ℕ) (m : Model) → KeysRise m.keys → WayTo a b m m (λ e. e) ((a, b) ∷ [])
way_start a b m g = record {
  keys_rise = g;
  keys_from = self_from (entry_image (λ e. e)) entry_self m.keys;
  keys_there = λ c o. all_all (λ (x : Entry). In (entry_image (λ e. e) x) m.keys) (λ (x : Entry). Some (There c (λ e. e) x) m.keys)
      (λ x i. some_some (λ y. y ≡ entry_image (λ e. e) x) (There c (λ e. e) x) (λ y q. (ap (λ (z : Entry). z.0) q, ap (λ (z : Entry). c z.1) q)) m.keys i)
      m.keys (self_there (entry_image (λ e. e)) entry_self m.keys);
  facts_from = self_from (fact_image (λ e. e)) fact_self m.facts;
  facts_there = self_there (fact_image (λ e. e)) fact_self m.facts;
  joins = λ c o. o.0;
  below = le_refl;
  forced = λ E c. (c.self, (c.joins, tt));
}
