-- What tables show: a model by its packed keys and its domain, and its facts; and what variables stand for, each as one number.
-- An element is itself, a witness its packed key, which is above every element.
use Rattle.std.specs.Prelude.{◌≡◌, refl, ℕ, ◌≤◌, ◌<◌, not, ◌&&◌, List, map, length, get_or, ltb, eqb}
use native.Mathlib.Omega.{arith}
use Rattle.std.proofs.Math.Option.{Option, none, some}
use Rattle.std.proofs.Math.Dec.{T, ltb→lt, eqb→eq}
use Rattle.std.proofs.Common.{T_not}
use Rattle.base.specs.Lists.{All, all}
use Rattle.base.specs.BranchLaws.{if_elim, and_l, and_r}
use Rattle.base.specs.ListLaws.{all_all, all_both, all_get_d_or, of_all}
use Rattle.rules.specs.Book.{Names}
use Rattle.rules.specs.Sheet.{Key, key, Fact, Entry, Model, find, domain, known, Limits}
use Rattle.rules.specs.Look.{Meaning, elem, witness, look_meaning}
use Rattle.rules.specs.Sound.{has_arity, declared_as, key_declared, fact_declared}
use Rattle.laws.specs.Tables.{find_all}
use Rattle.soundness.specs.Tools.{KeyOver, Yielded, keys_over, yielded_known}
use Rattle.soundness.specs.Join.{yielded_low}
use Rattle.soundness.specs.Neat.{Neat}
use Rattle.soundness.specs.Book.{SmallNames}
use Rattle.images.specs.Storable.{Octet}
use Rattle.packing.specs.Digits.{number_from}
use Rattle.packing.specs.Pack.{pack_key, pack_entry, pack_fact, Fits, FitsEntry, arity_of, declared_arity, relation_arity}
use Rattle.tables.specs.Carry.{FitsFact}

-- ---- a model

pub record Shown (d : Names) (m : Model) (keys dom : List ℕ) : Type 0 where
  pub small : SmallNames d
  pub keys_are : keys ≡ map pack_entry m.keys
  pub domain_is : dom ≡ domain m
  pub keys_fit : All (FitsEntry (arity_of d)) m.keys
  pub linked : All (KeyOver (λ e. T (known m e))) m.keys

pub record FactsShown (d : Names) (m : Model) (facts : List ℕ) : Type 0 where
  pub facts_are : facts ≡ map pack_fact m.facts
  pub facts_fit : All (FitsFact (arity_of d)) m.facts

-- ---- what variables stand for

unfoldable pub pack_meaning : Meaning → ℕ
pack_meaning (elem e) = e
pack_meaning (witness k) = pack_key k

unfoldable pub Plain : Names → Meaning → Type 0
Plain d (elem e) = e < 256
Plain d (witness k) = Fits (arity_of d) k × (0 < k.kind)

pub record Means (d : Names) (env : List ℕ) (ms : List Meaning) : Type 0 where
  pub are : env ≡ map pack_meaning ms
  pub plain : All (Plain d) ms

-- ---- declared symbols with small arguments fit

module _ (d : Names) (small : SmallNames d) where
  arity_small : (ars : List ℕ) (i n : ℕ) → length ars ≤ 64 → All (λ k. k ≤ 4) ars → T (has_arity ars i n) → (i < 256) × (n ≤ 4)
  unfolding has_arity
  arity_small ars i n l a t =
      let p = ltb→lt i (length ars) (and_l (ltb i (length ars)) (eqb (get_or ars i 0) n) t) in
      let q = eqb→eq (get_or ars i 0) n (and_r (ltb i (length ars)) (eqb (get_or ars i 0) n) t) in
      let r = all_get_d_or (λ k. k ≤ 4) ars i 0 a (omega arith) in
      (omega arith, omega arith)

  constant_small : (c i n : ℕ) → c ≤ 64 → T (ltb i c && eqb n 0) → (i < 256) × (n ≤ 4)
  constant_small c i n l t =
      let p = ltb→lt i c (and_l (ltb i c) (eqb n 0) t) in
      let q = eqb→eq n 0 (and_r (ltb i c) (eqb n 0) t) in
      (omega arith, omega arith)

  declared_small : (kind symbol n : ℕ) → T (declared_as d kind symbol n) → (kind < 256) × ((symbol < 256) × (n ≤ 4))
  unfolding declared_as
  declared_small kind symbol n =
      if_elim (λ b. T b → Small) (eqb kind 1) _ _ (λ e t. at 1 e (omega arith) (constant_small d.constants symbol n small.few_constants t)) (λ _.
      if_elim (λ b. T b → Small) (eqb kind 2) _ _ (λ e t. at 2 e (omega arith) (arity_small d.functions symbol n small.few_functions small.function_arities t)) (λ _.
      if_elim (λ b. T b → Small) (eqb kind 3) _ _ (λ e t. at 3 e (omega arith) (constant_small d.constant_witnesses symbol n small.few_constant_witnesses t)) (λ _.
      if_elim (λ b. T b → Small) (eqb kind 4) _ _ (λ e t. at 4 e (omega arith) (arity_small d.function_witnesses symbol n small.few_function_witnesses small.witness_arities t)) (λ _ t. absurd t))))
    where
      Small : Type 0
      Small = (kind < 256) × ((symbol < 256) × (n ≤ 4))

      at : (k : ℕ) → T (eqb kind k) → k < 256 → (symbol < 256) × (n ≤ 4) → Small
      at k e l p = let q = eqb→eq kind k e in (omega arith, p)

  pub declared_fits : (k : Key) → T (declared_as d k.kind k.symbol (length k.args)) → All Octet k.args → Fits (arity_of d) k
  declared_fits k t a =
      let s = declared_small k.kind k.symbol (length k.args) t in
      record { kind = s.0; symbol = s.1.0; args = a; few = s.1.1; count = declared_arity d k.kind k.symbol (length k.args) t }

  pub fact_fits : (r : ℕ) (xs : List ℕ) → T (has_arity d.relations r (length xs)) → All Octet xs → Fits (arity_of d) (key 0 r xs)
  fact_fits r xs t a =
      let s = arity_small d.relations r (length xs) small.few_relations small.relation_arities t in
      record { kind = omega arith; symbol = s.0; args = a; few = s.1; count = relation_arity d r (length xs) t }

  -- ---- a neat model is shown by its tables

  module _ (lim : Limits) (m : Model) (neat : Neat lim d m) (few : lim.elements ≤ 256) where
    yielded_octet : (e : ℕ) → Yielded m.keys e → e < 256
    yielded_octet e y = let p = yielded_low m neat.linked e y in let q = neat.small.few_created in omega arith

    pub neat_keys_fit : All (FitsEntry (arity_of d)) m.keys
    unfolding key_declared
    neat_keys_fit =
        all_both (λ (x : Entry). T (key_declared d x)) (λ (x : Entry). All Octet x.0.args × (x.1 < 256)) (FitsEntry (arity_of d))
        (λ x t p. record { key = declared_fits x.0 t p.0; value = p.1 }) m.keys neat.listed.keys_declared
        (all_both (KeyOver (λ e. e < 256)) (λ (x : Entry). x.1 < m.created) (λ (x : Entry). All Octet x.0.args × (x.1 < 256))
        (λ x a l. (a, let q = neat.small.few_created in omega arith)) m.keys
        (keys_over (Yielded m.keys) (λ e. e < 256) yielded_octet m.keys neat.linked.key_args) neat.linked.low)

    pub neat_shown : (keys dom : List ℕ) → keys ≡ map pack_entry m.keys → dom ≡ domain m → Shown d m keys dom
    neat_shown keys dom p q = record {
      small = small;
      keys_are = p;
      domain_is = q;
      keys_fit = neat_keys_fit;
      linked = keys_over (Yielded m.keys) (λ e. T (known m e)) (yielded_known m) m.keys neat.linked.key_args;
    }

    pub neat_facts_shown : (facts : List ℕ) → facts ≡ map pack_fact m.facts → FactsShown d m facts
    unfolding fact_declared
    neat_facts_shown facts p = record {
      facts_are = p;
      facts_fit = all_both (λ (f : Fact). T (fact_declared d f)) (λ (f : Fact). All (Yielded m.keys) f.args) (FitsFact (arity_of d))
          (λ f t a. record { key = fact_fits f.relation f.args t (all_all (Yielded m.keys) Octet yielded_octet f.args a); value = omega arith })
          m.facts neat.listed.facts_declared neat.linked.fact_args;
    }

-- ---- values are elements below 256, and a witness that has one is over living elements

pub find_octet : {d : Names} {m : Model} {keys dom : List ℕ} → Shown d m keys dom → (k : Key) (v : ℕ) → find k m.keys ≡ some v → v < 256
find_octet {d} {m} s k v e = (find_all (FitsEntry (arity_of d)) k m.keys v s.keys_fit e).value

pub witness_look : {d : Names} {m : Model} {keys dom : List ℕ} → Shown d m keys dom → (k : Key) → look_meaning m (witness k) ≡ find k m.keys
unfolding look_meaning
witness_look {d} {m} s k = if_elim (λ o. o ≡ find k m.keys) (all (known m) k.args) _ _ (λ _. refl) (λ t. go t (find k m.keys) refl)
  where
    go : T (not (all (known m) k.args)) → (o : Option ℕ) → find k m.keys ≡ o → none ≡ o
    go t none e = refl
    go t (some v) e = absurd (T_not (all (known m) k.args) t (of_all (known m) k.args (find_all (KeyOver (λ e. T (known m e))) k m.keys v s.linked e)))

-- A witness is packed above every element.
pub witness_above : (k : Key) → 0 < k.kind → 256 ≤ pack_key k
unfolding pack_key number_from
witness_above k h = omega arith
