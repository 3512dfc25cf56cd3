-- The test for a sound sheet and the record of a neat one say the same.
-- What the test takes as the least depth over an element's keys is reached by one of them, and none gives less.
use Rattle.std.specs.Prelude.{◌≡◌, refl, ℕ, ◌≤◌, ◌<◌, min, Bool, ◌&&◌, List, [], ◌∷◌, length, T, leb, ltb, eqb}
use Rattle.std.proofs.Common.{sym, subst, le_refl, le_trans, le_of_eq, arith, inl, inr, leb→le, le→leb, ltb→lt, lt→ltb, eqb→eq}
use Rattle.std.proofs.Math.Decide.{dec_le, dec_lt}
use Rattle.std.proofs.Math.Option.{Option, none, some}
use Rattle.std.proofs.Math.ListN.{get_or-eq_default}
use Rattle.base.specs.Branch.{case_o}
use Rattle.base.specs.Lists.{All, Some, all, from}
use Rattle.base.specs.BranchLaws.{if_elim, and_l, and_r, and_i, neqb→ne, eq→eqb}
use Rattle.base.specs.ListLaws.{all_all, all_any, all_both, some_some, all_of, of_all, all_in, In}
use Rattle.rules.specs.Book.{Names}
use Rattle.rules.specs.Sheet.{Fact, key_order, fact_order, Entry, Model, known, Limits}
use Rattle.rules.specs.Sound.{rising, key_declared, fact_declared, least, depth_right, sound_model}
use Rattle.laws.specs.Tables.{rising_keys, keys_rising, rising_facts, facts_rising}
use Rattle.soundness.specs.Tools.{all_pair, some_meets, Yields, Yielded, all_yielded, yielded_has, known_yielded, yielded_known, in_has, none_have, from_has}
use Rattle.soundness.specs.Settle.{depth_in, given, RestsAt, ReachedBy, Reached}
use Rattle.soundness.specs.Neat.{Neat}

-- ---- the least depth over the keys

-- The key yields the element and gives just n; or gives no less, if it yields it.
abbrev GivesJust : List ℕ → ℕ → ℕ → Entry → Type 0
GivesJust ds e n x = (x.1 ≡ e) × (given ds x.0.args ≡ n)

abbrev NoLess : List ℕ → ℕ → ℕ → Entry → Type 0
NoLess ds e n x = x.1 ≡ e → n ≤ given ds x.0.args

-- None if no key yields the element; else a depth that one of its keys gives, and none gives less.
abbrev LeastOf : List ℕ → List Entry → ℕ → Option ℕ → Type 0
LeastOf ds ks e none = Yielded ks e → ⊥
LeastOf ds ks e (some n) = Some (GivesJust ds e n) ks × All (NoLess ds e n) ks

-- A key of another element adds nothing.
least_other : (ds : List ℕ) (x : Entry) (xs : List Entry) (e : ℕ) → (x.1 ≡ e → ⊥) → (o : Option ℕ) → LeastOf ds xs e o → LeastOf ds (x ∷ xs) e o
least_other ds x xs e n none r = λ y. elim y [ inl p ↦ n p | inr z ↦ r z ]
least_other ds x xs e n (some d) r = (inr r.0, (λ p. absurd (n p), r.1))

least_own : (ds : List ℕ) (x : Entry) (xs : List Entry) (e : ℕ) → x.1 ≡ e → (o : Option ℕ) → LeastOf ds xs e o
    → LeastOf ds (x ∷ xs) e (some (case_o o (λ _. given ds x.0.args) (min (given ds x.0.args))))
unfolding case_o
least_own ds x xs e p none r =
    (inl (p, refl), (λ _. le_refl _, none_have (λ (y : Entry). y.1 ≡ e) (λ (y : Entry). given ds x.0.args ≤ given ds y.0.args) xs r))
least_own ds x xs e p (some n) r = go (dec_le d n)
  where
    d : ℕ
    d = given ds x.0.args

    rest : All (NoLess ds e (min d n)) (x ∷ xs)
    rest = (λ _. omega arith, all_all (NoLess ds e n) (NoLess ds e (min d n)) (λ y q z. let w = q z in omega arith) xs r.1)

    go : Dec (d ≤ n) → LeastOf ds (x ∷ xs) e (some (min d n))
    go (yes l) = (inl (p, let w : d ≡ min d n = omega arith in w), rest)
    go (no l) = (inr (some_some (GivesJust ds e n) (GivesJust ds e (min d n)) (λ y q. (q.0, let z = q.1 in omega arith)) xs r.0), rest)

least_is : (ds : List ℕ) (ks : List Entry) (e : ℕ) → LeastOf ds ks e (least ds ks e)
unfolding least
least_is ds [] e = λ s. s.lower
least_is ds (x ∷ xs) e =
    if_elim (LeastOf ds (x ∷ xs) e) _ _ _
    (λ t. least_own ds x xs e (eqb→eq x.1 e t) (least ds xs e) (least_is ds xs e))
    (λ t. least_other ds x xs e (neqb→ne x.1 e t) (least ds xs e) (least_is ds xs e))

-- ---- the test of one element

-- One that is yielded has a depth that is reached, and no key gives less; any other has depth 0.
abbrev Right : List ℕ → List Entry → ℕ → Type 0
Right ds ks e = (Yielded ks e → Reached ds ks e × All (NoLess ds e (depth_in ds e)) ks) × ((Yielded ks e → ⊥) → depth_in ds e ≡ 0)

just_yielded : (ds : List ℕ) (ks : List Entry) (e n : ℕ) → Some (GivesJust ds e n) ks → Yielded ks e
just_yielded ds ks e n s = some_some (GivesJust ds e n) (λ (x : Entry). x.1 ≡ e) (λ x p. p.0) ks s

right_is : (m : Model) (e : ℕ) → T (depth_right m e) → Right m.depths m.keys e
unfolding depth_right case_o
right_is m e t = go m.depths m.keys (least m.depths m.keys e) (least_is m.depths m.keys e) t
  where
    go : (ds : List ℕ) (ks : List Entry) (o : Option ℕ) → LeastOf ds ks e o → T (case_o o (λ _. eqb (depth_in ds e) 0) (eqb (depth_in ds e))) → Right ds ks e
    go ds ks none r u = (λ y. absurd (r y), λ _. eqb→eq (depth_in ds e) 0 u)
    go ds ks (some n) r u =
        let q = eqb→eq (depth_in ds e) n u in (
          λ _. (some_some (GivesJust ds e n) (ReachedBy ds e) (λ x p. (p.0, let z = p.1 in omega arith)) ks r.0, subst (λ z. All (NoLess ds e z) ks) (sym q) r.1),
          λ y. absurd (y (just_yielded ds ks e n r.0)),
        )

is_right : (m : Model) (e : ℕ) → Right m.depths m.keys e → T (depth_right m e)
unfolding depth_right case_o
is_right m e c = go m.depths m.keys (least m.depths m.keys e) (least_is m.depths m.keys e) c
  where
    go : (ds : List ℕ) (ks : List Entry) (o : Option ℕ) → LeastOf ds ks e o → Right ds ks e → T (case_o o (λ _. eqb (depth_in ds e) 0) (eqb (depth_in ds e)))
    go ds ks none r c = eq→eqb (depth_in ds e) 0 (c.1 r)
    go ds ks (some n) r c =
        let f = c.0 (just_yielded ds ks e n r.0) in
        let up : n ≤ depth_in ds e = some_meets (ReachedBy ds e) (NoLess ds e n) (n ≤ depth_in ds e) (λ x p q. le_trans (q p.0) p.1) ks f.0 r.1 in
        let down : depth_in ds e ≤ n = some_meets (GivesJust ds e n) (NoLess ds e (depth_in ds e)) (depth_in ds e ≤ n) (λ x p q. le_trans (q p.0) (le_of_eq p.1)) ks r.0 f.1 in
        eq→eqb (depth_in ds e) n (omega arith)

-- ---- the test of a sheet

both : (a b : Bool) → T (a && b) → T a × T b
both a b t = (and_l a b t, and_r a b t)

all_known : {A : Type 0} (m : Model) (args : A → List ℕ) (xs : List A) → T (all (λ x. all (known m) (args x)) xs) → All (λ x. All (Yielded m.keys) (args x)) xs
all_known m args xs t =
    all_all (λ x. T (all (known m) (args x))) (λ x. All (Yielded m.keys) (args x))
    (λ x u. all_all (λ e. T (known m e)) (Yielded m.keys) (known_yielded m) (args x) (all_of (known m) (args x) u)) xs (all_of (λ x. all (known m) (args x)) xs t)

known_all : {A : Type 0} (m : Model) (args : A → List ℕ) (xs : List A) → All (λ x. All (Yielded m.keys) (args x)) xs → T (all (λ x. all (known m) (args x)) xs)
known_all m args xs a =
    of_all (λ x. all (known m) (args x)) xs (all_all (λ x. All (Yielded m.keys) (args x)) (λ x. T (all (known m) (args x)))
    (λ x b. of_all (known m) (args x) (all_all (Yielded m.keys) (λ e. T (known m e)) (yielded_known m) (args x) b)) xs a)

-- The tests of a sheet, one by one.
abbrev limits_test : Limits → Model → Bool
limits_test lim m = leb m.created lim.elements && (leb (length m.keys) lim.keys && leb (length m.facts) lim.facts)

abbrev keys_rise_test : Model → Bool
keys_rise_test m = rising (λ (x y : Entry). key_order x.0 y.0) m.keys

abbrev facts_rise_test : Model → Bool
facts_rise_test m = rising fact_order m.facts

abbrev key_names_test : Names → Model → Bool
key_names_test d m = all (key_declared d) m.keys

abbrev fact_names_test : Names → Model → Bool
fact_names_test d m = all (fact_declared d) m.facts

abbrev key_args_test : Model → Bool
key_args_test m = all (λ (x : Entry). all (known m) x.0.args) m.keys

abbrev fact_args_test : Model → Bool
fact_args_test m = all (λ (f : Fact). all (known m) f.args) m.facts

abbrev low_test : Model → Bool
low_test m = all (λ (x : Entry). ltb x.1 m.created) m.keys

abbrev long_test : Model → Bool
long_test m = eqb (length m.depths) m.created

abbrev depths_test : Model → Bool
depths_test m = all (depth_right m) (from 0 m.created)

pub sound_neat : (lim : Limits) (d : Names) (m : Model) → T (sound_model lim d m) → Neat lim d m
unfolding sound_model
sound_neat lim d m t =
    let ks = m.keys in
    let ds = m.depths in
    let t1 = both (limits_test lim m) _ t in
    let t2 = both (keys_rise_test m && facts_rise_test m) _ t1.1 in
    let t3 = both (key_names_test d m && fact_names_test d m) _ t2.1 in
    let t4 = both (key_args_test m && fact_args_test m) _ t3.1 in
    let t5 = both (low_test m) _ t4.1 in
    let few = both (leb m.created lim.elements) _ t1.0 in
    let few2 = both (leb (length ks) lim.keys) (leb (length m.facts) lim.facts) few.1 in
    let rise = both (keys_rise_test m) (facts_rise_test m) t2.0 in
    let names = both (key_names_test d m) (fact_names_test d m) t3.0 in
    let args = both (key_args_test m) (fact_args_test m) t4.0 in
    let deep = both (long_test m) (depths_test m) t5.1 in
    let long = eqb→eq (length ds) m.created deep.0 in
    let low = all_all (λ (x : Entry). T (ltb x.1 m.created)) (λ (x : Entry). x.1 < m.created) (λ x v. ltb→lt x.1 m.created v) ks
    (all_of (λ (x : Entry). ltb x.1 m.created) ks t5.0) in
    let right : (e : ℕ) → e < m.created → Right ds ks e = λ e l.
    right_is m e (from_has (λ z. T (depth_right m z)) 0 m.created (all_of (depth_right m) (from 0 m.created) deep.1) e (omega arith) (omega arith)) in
    record {
      small = record {
        few_created = leb→le m.created lim.elements few.0;
        few_keys = leb→le (length ks) lim.keys few2.0;
        few_facts = leb→le (length m.facts) lim.facts few2.1;
      };
      listed = record {
        keys_rise = rising_keys ks rise.0;
        facts_rise = rising_facts m.facts rise.1;
        keys_declared = all_of (key_declared d) ks names.0;
        facts_declared = all_of (fact_declared d) m.facts names.1;
      };
      linked = record {
        key_args = all_known m (λ (x : Entry). x.0.args) ks args.0;
        fact_args = all_known m (λ (f : Fact). f.args) m.facts args.1;
        low = low;
        long = long;
        reached = λ e y. ((right e (yielded_has (λ z. z < m.created) ks low e y)).0 y).0;
        rests = all_both (λ x. In x ks) (λ (x : Entry). Yielded ks x.1 × (x.1 < m.created)) (RestsAt ds)
            (λ x i y. in_has (NoLess ds x.1 (depth_in ds x.1)) x ks i ((right x.1 y.1).0 y.0).1 refl) ks (all_in ks)
            (all_pair (Yields (Yielded ks)) (λ (x : Entry). x.1 < m.created) ks (all_yielded ks) low);
        gone = λ e n. elim (dec_lt e m.created) [ yes l ↦ (right e l).1 n | no l ↦ get_or-eq_default ds 0 (omega arith) ];
      };
    }

pub neat_sound : (lim : Limits) (d : Names) (m : Model) → Neat lim d m → T (sound_model lim d m)
unfolding sound_model
neat_sound lim d m g =
    let ks = m.keys in
    let ds = m.depths in
    let s = g.small in
    let i = g.listed in
    let l = g.linked in
    and_i (limits_test lim m) _
    (and_i (leb m.created lim.elements) _ (le→leb m.created lim.elements s.few_created)
    (and_i (leb (length ks) lim.keys) _ (le→leb (length ks) lim.keys s.few_keys) (le→leb (length m.facts) lim.facts s.few_facts)))
    (and_i (keys_rise_test m && facts_rise_test m) _ (and_i (keys_rise_test m) _ (keys_rising ks i.keys_rise) (facts_rising m.facts i.facts_rise))
    (and_i (key_names_test d m && fact_names_test d m) _ (and_i (key_names_test d m) _ (of_all (key_declared d) ks i.keys_declared) (of_all (fact_declared d) m.facts i.facts_declared))
    (and_i (key_args_test m && fact_args_test m) _
    (and_i (key_args_test m) _ (known_all m (λ (x : Entry). x.0.args) ks l.key_args) (known_all m (λ (f : Fact). f.args) m.facts l.fact_args))
    (and_i (low_test m) _
    (of_all (λ (x : Entry). ltb x.1 m.created) ks
    (all_all (λ (x : Entry). x.1 < m.created) (λ (x : Entry). T (ltb x.1 m.created)) (λ x p. lt→ltb x.1 m.created p) ks l.low))
    (and_i (long_test m) _ (eq→eqb (length ds) m.created l.long)
    (of_all (depth_right m) (from 0 m.created) (all_any (λ e. T (depth_right m e)) (λ e. is_right m e (
      λ y. (l.reached e y, all_all (RestsAt ds) (NoLess ds e (depth_in ds e)) (λ x r p. subst (λ z. depth_in ds z ≤ given ds x.0.args) p r) ks l.rests),
      l.gone e,
    )) (from 0 m.created))))))))
