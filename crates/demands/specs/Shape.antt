-- A sound state of at most 64 slots fits its image: every number in it is small enough to be written and read back.
use Rattle.std.specs.Prelude.{◌≡◌, refl, ℕ, zero, suc, ◌+◌, ◌≤◌, ◌<◌, not, ◌&&◌, ◌⊎◌, List, [], ◌∷◌, ◌++◌, length, get_or}
use Rattle.std.proofs.Common.{sym, le_refl, inl, inr}
use Rattle.std.proofs.Math.Path.{subst}
use Rattle.std.proofs.Math.Nat.{le_trans}
use Rattle.std.proofs.Math.Decide.{dec_le}
use native.Mathlib.Omega.{arith}
use Rattle.std.proofs.Math.ListN.{length-append}
use lib.Dec.{T, ltb, eqb, eqb→eq, ltb→lt}
use Rattle.base.specs.Lists.{All}
use Rattle.base.specs.BranchLaws.{if_elim, and_l, and_r, decided}
use Rattle.base.specs.ListLaws.{all_all, all_both, all_get_d, all_left, all_right}
use Rattle.rules.specs.Book.{Names, Book}
use Rattle.rules.specs.Sheet.{Fact, Entry, Model, blank, known, Limits}
use Rattle.rules.specs.Fire.{Strategy, linear, fair, places}
use Rattle.rules.specs.Pool.{State, schedulers, strategies, strategy_of, numbers, sheet_at, used}
use Rattle.rules.specs.Image.{most_slots}
use Rattle.rules.specs.Sound.{has_arity, declared_as, key_declared, fact_declared, sound_model, sound_sheet}
use Rattle.images.specs.Storable.{FewKey, FewFact, StorableModel, StorableSheet, StorableState, Octet, ByteKey, ByteFact, ByteModel, ByteSheet, ByteState, blank_storable, blank_bytes}
use Rattle.soundness.specs.Tools.{Yielded, yielded_has}
use Rattle.soundness.specs.Neat.{Neat}
use Rattle.soundness.specs.Model.{sound_neat}
use Rattle.soundness.specs.Book.{SmallNames}
use Rattle.soundness.specs.Depth.{depth_low}
use Rattle.pools.specs.Count.{hit, cnt, hit_elim, hit_other, cnt_all}
use Rattle.pools.specs.Tidy.{Listed, places_of, Tidy}

-- ---- a list of different numbers below n is no longer than n: count each number below n

total : ℕ → List ℕ → ℕ
total zero xs = 0
total (suc n) xs = cnt n xs + total n xs

hits : ℕ → ℕ → ℕ
hits zero x = 0
hits (suc n) x = hit n x + hits n x

total_nil : (n : ℕ) → total n [] ≡ 0
unfolding total cnt
total_nil zero = refl
total_nil (suc n) = let r = total_nil n in omega arith

total_cons : (n x : ℕ) (xs : List ℕ) → total n (x ∷ xs) ≡ hits n x + total n xs
unfolding total hits cnt
total_cons zero x xs = refl
total_cons (suc n) x xs = let r = total_cons n x xs in omega arith

hits_none : (n x : ℕ) → n ≤ x → hits n x ≡ 0
unfolding hits
hits_none zero x l = refl
hits_none (suc n) x l = let r = hits_none n x (omega arith) in let h = hit_other n x (λ e. omega arith) in omega arith

hits_one : (n x : ℕ) → x < n → hits n x ≡ 1
unfolding hits
hits_one zero x l = absurd (omega arith)
hits_one (suc n) x l = hit_elim (λ h. h + hits n x ≡ 1) n x (λ e. let r = hits_none n x (omega arith) in omega arith) (λ d. let r = hits_one n x (omega arith) in omega arith)

total_length : (n : ℕ) (xs : List ℕ) → All (λ x. x < n) xs → total n xs ≡ length xs
total_length n [] a = total_nil n
total_length n (x ∷ xs) a = let c = total_cons n x xs in let h = hits_one n x a.0 in let r = total_length n xs a.1 in omega arith

total_small : (n : ℕ) (xs : List ℕ) → ((j : ℕ) → cnt j xs ≤ 1) → total n xs ≤ n
unfolding total
total_small zero xs f = le_refl 0
total_small (suc n) xs f = let r = total_small n xs f in let o = f n in omega arith

short : (n : ℕ) (xs : List ℕ) → ((j : ℕ) → cnt j xs ≤ 1) → All (λ x. x < n) xs → length xs ≤ n
short n xs f a = let t = total_length n xs a in let r = total_small n xs f in omega arith

-- A statement about each place is one about all entries.
all_at {ℓ κ} : {A : Type ℓ} (P : A → Type κ) (d : A) (xs : List A) → ((j : ℕ) → j < length xs → P (get_or xs j d)) → All P xs
all_at P d [] f = tt
all_at P d (x ∷ xs) f = (f 0 (omega arith), all_at P d xs (λ j l. f (suc j) (omega arith)))

-- ---- symbols and arities of an accepted book are small

arity_small : (as' : List ℕ) (i n : ℕ) → length as' ≤ 64 → All (λ k. k ≤ 4) as' → T (has_arity as' i n) → (n ≤ 4) × (i < 64)
unfolding has_arity
arity_small as' i n l a t =
    let p = ltb→lt i (length as') (and_l (ltb i (length as')) _ t) in
    let e = eqb→eq (get_or as' i 0) n (and_r (ltb i (length as')) _ t) in
    let q = all_get_d (λ k. k ≤ 4) as' i 0 p a in
    (omega arith, omega arith)

record SmallSymbol (kind symbol n : ℕ) : Type 0 where
  few : n ≤ 4
  low : symbol < 64
  kinds : kind < 5

constant_small : (c kind symbol n : ℕ) → c ≤ 64 → kind < 5 → T (ltb symbol c && eqb n 0) → SmallSymbol kind symbol n
constant_small c kind symbol n l k t =
    let p = ltb→lt symbol c (and_l (ltb symbol c) _ t) in
    let e = eqb→eq n 0 (and_r (ltb symbol c) _ t) in
    record { few = omega arith; low = omega arith; kinds = k }

applied_small : (as' : List ℕ) (kind symbol n : ℕ) → length as' ≤ 64 → All (λ k. k ≤ 4) as' → kind < 5 → T (has_arity as' symbol n) → SmallSymbol kind symbol n
applied_small as' kind symbol n l a k t = let r = arity_small as' symbol n l a t in record { few = r.0; low = r.1; kinds = k }

symbol_small : (d : Names) → SmallNames d → (kind symbol n : ℕ) → T (declared_as d kind symbol n) → SmallSymbol kind symbol n
unfolding declared_as
symbol_small d g kind symbol n t =
    if_elim (λ b. T b → SmallSymbol kind symbol n) _ _ _ (λ k. constant_small d.constants kind symbol n g.few_constants (let e = eqb→eq kind 1 k in omega arith)) (λ _.
    if_elim (λ b. T b → SmallSymbol kind symbol n) _ _ _ (λ k. applied_small d.functions kind symbol n g.few_functions g.function_arities (let e = eqb→eq kind 2 k in omega arith)) (λ _.
    if_elim (λ b. T b → SmallSymbol kind symbol n) _ _ _ (λ k. constant_small d.constant_witnesses kind symbol n g.few_constant_witnesses (let e = eqb→eq kind 3 k in omega arith)) (λ _.
    if_elim (λ b. T b → SmallSymbol kind symbol n) _ _ _ (λ k. applied_small d.function_witnesses kind symbol n g.few_function_witnesses g.witness_arities (let e = eqb→eq kind 4 k in omega arith)) (λ _ f.
    absurd f)))) t

-- ---- a sound model

module _ (lim : Limits) (d : Names) (g : SmallNames d) (m : Model) (n : Neat lim d m) where
  key_small : All (λ (x : Entry). SmallSymbol x.0.kind x.0.symbol (length x.0.args)) m.keys
  unfolding key_declared
  key_small = all_all (λ (x : Entry). T (key_declared d x)) _ (λ x t. symbol_small d g _ _ _ t) m.keys n.listed.keys_declared

  fact_small : All (λ (f : Fact). (length f.args ≤ 4) × (f.relation < 64)) m.facts
  unfolding fact_declared
  fact_small = all_all (λ (f : Fact). T (fact_declared d f)) _ (λ f t. arity_small d.relations f.relation (length f.args) g.few_relations g.relation_arities t) m.facts n.listed.facts_declared

  pub storable_model : StorableModel lim m
  storable_model = record {
    created = n.small.few_created;
    keys = n.small.few_keys;
    facts = n.small.few_facts;
    depths = n.linked.long;
    key_args = all_all (λ (x : Entry). SmallSymbol x.0.kind x.0.symbol (length x.0.args)) FewKey (λ x s. s.few) m.keys key_small;
    fact_args = all_all (λ (f : Fact). (length f.args ≤ 4) × (f.relation < 64)) FewFact (λ f s. s.0) m.facts fact_small;
  }

  pub byte_model : lim.elements ≤ 256 → ByteModel m
  byte_model l = record {
    keys = all_both (λ (x : Entry). SmallSymbol x.0.kind x.0.symbol (length x.0.args)) (λ (x : Entry). All (Yielded m.keys) x.0.args × (x.1 < m.created)) ByteKey
        (λ x s q. let a = s.kinds in let b = s.low in let c = q.1 in let z = n.small.few_created in
        record { kind = omega arith; symbol = omega arith; args = all_all (Yielded m.keys) Octet low x.0.args q.0; value = omega arith }) m.keys key_small
        (all_both (λ (x : Entry). All (Yielded m.keys) x.0.args) (λ (x : Entry). x.1 < m.created) _ (λ x a b. (a, b)) m.keys n.linked.key_args n.linked.low);
    facts = all_both (λ (f : Fact). (length f.args ≤ 4) × (f.relation < 64)) (λ (f : Fact). All (Yielded m.keys) f.args) ByteFact
        (λ f s a. let b = s.1 in record { relation = omega arith; args = all_all (Yielded m.keys) Octet low f.args a }) m.facts fact_small n.linked.fact_args;
    depths = all_at Octet 0 m.depths (λ e _. depth e (decided (known m e)));
  }
    where
      low : (e : ℕ) → Yielded m.keys e → Octet e
      low e y = let z = yielded_has (λ k. k < m.created) m.keys n.linked.low e y in let c = n.small.few_created in omega arith

      depth : (e : ℕ) → T (known m e) ⊎ T (not (known m e)) → Octet (get_or m.depths e 0)
      depth e (inl t) = let z = depth_low lim d m n e t in let c = n.small.few_created in omega arith
      depth e (inr t) = let z = n.linked.gone e (λ y. lib.Dec.T_not (known m e) t (Rattle.soundness.specs.Tools.yielded_known m e y)) in omega arith

-- ---- a sound state

pub places_few : (st : Strategy) (n : ℕ) → n ≤ 128 → places st n ≤ 128
unfolding places
places_few linear n l = omega arith
places_few fair n l = omega arith

module _ (lim : Limits) (b : Book) (g : SmallNames b.names) (few : length b.sequents ≤ 128) (s : State) (t : Tidy lim b s) (room : length s.slots ≤ most_slots) where
  abbrev Low : ℕ → Type 0
  Low j = j < length s.slots

  all_low : All Low (used s)
  all_low = cnt_all Low (used s) t.there

  parts : (length s.waiting ≤ length s.slots) × ((length s.complete ≤ length s.slots) × (length s.bounded ≤ length s.slots))
  unfolding used
  parts =
      let a = short (length s.slots) (used s) t.once all_low in
      let p = length-append s.waiting (s.complete ++ s.bounded) in
      let q = length-append s.complete s.bounded in
      (omega arith, (omega arith, omega arith))

  neat_at : (j : ℕ) → Listed s j → Neat lim b.names (sheet_at s j).model
  unfolding sound_sheet
  neat_at j l = sound_neat lim b.names (sheet_at s j).model (and_l (sound_model lim b.names (sheet_at s j).model) _ (t.sheets j l))

  pub storable_at : (j : ℕ) → StorableSheet lim (sheet_at s j)
  unfolding sound_sheet numbers
  storable_at j = elim (dec_le 1 (cnt j (used s))) [
    | yes l ↦ (let n = t.low j l in let z = t.next in
        let p = ltb→lt (sheet_at s j).place (places_of b s) (and_r (sound_model lim b.names (sheet_at s j).model) _ (t.sheets j l)) in
        let q = places_few (strategy_of s.strategy) (length b.sequents) few in
        record { number = omega arith; place = omega arith; model = storable_model lim b.names g (sheet_at s j).model (neat_at j l) })
    | no l ↦ subst (StorableSheet lim) (sym (t.blanks j (omega arith))) (blank_storable lim)
  ]

  pub tidy_storable : StorableState lim s
  unfolding numbers sheet_at
  tidy_storable = record {
    next = let z = t.next in omega arith;
    waiting = le_trans parts.0 room;
    complete = le_trans parts.1.0 room;
    bounded = le_trans parts.1.1 room;
    slots = all_at (StorableSheet lim) blank s.slots (λ j _. storable_at j);
  }

  byte_at_lem : lim.elements ≤ 256 → (j : ℕ) → ByteSheet (sheet_at s j)
  byte_at_lem l j = elim (dec_le 1 (cnt j (used s))) [
    | yes k ↦ byte_model lim b.names g (sheet_at s j).model (neat_at j k) l
    | no k ↦ subst ByteSheet (sym (t.blanks j (omega arith))) blank_bytes
  ]

  pub tidy_bytes : lim.elements ≤ 256 → ByteState s
  unfolding schedulers strategies most_slots used sheet_at
  tidy_bytes l =
      let octets : All Octet (used s) = all_all Low Octet (λ j p. omega arith) (used s) all_low in
      let later = all_right Octet s.waiting (s.complete ++ s.bounded) octets in
      record {
        scheduler = let z = t.scheduler in omega arith;
        strategy = let z = t.strategy in omega arith;
        waiting = all_left Octet s.waiting (s.complete ++ s.bounded) octets;
        complete = all_left Octet s.complete s.bounded later;
        bounded = all_right Octet s.complete s.bounded later;
        slots = all_at ByteSheet blank s.slots (λ j _. byte_at_lem l j);
      }
