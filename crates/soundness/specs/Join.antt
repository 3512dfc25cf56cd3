-- Merging: as many rounds as there are pairs and keys are enough, and afterwards every element that is used is yielded by some
-- key, and its depth is the least over its keys. It is said of merging by any order, of which `merge` is one.
-- On the way a used element may be yielded by no key, until a pending pair is merged. So the loop's invariant speaks of every
-- colouring that gives one colour to the two elements of each pending pair: some key yields the colour of a used element and gives
-- no more than its depth. When no pair is left, the colouring is the identity.
use Rattle.std.specs.Prelude.{◌≡◌, refl, ◌⊎◌, ◌≢◌, set}
use Rattle.std.proofs.Math.Path.{sym, ap, subst}
use Rattle.std.proofs.Common.{◌∙◌, le_refl, le_of_eq, length-set, lt-length-set}
use Prim.Native.Nat.{ℕ, zero, suc, ◌+◌, ◌≤◌, ◌<◌, min, max}
use Rattle.std.proofs.Math.Nat.{le_trans}
use Rattle.std.proofs.Math.Decide.{dec_le, ℕ_discrete}
use native.Mathlib.Omega.{arith}
use Rattle.std.proofs.Math.Logic.{inl, inr}
use Rattle.std.proofs.Math.Option.{some, none-ne-some, some-injective}
use mathlib.Core.List.{List, [], ◌∷◌, map}
use Rattle.std.proofs.Math.ListN.{length}
use Rattle.std.proofs.lemmas.List.{length-map}
use Rattle.std.proofs.Math.Seq.{get_or-set_same, get_or-set_other}
use Rattle.std.proofs.Math.Dec.{eqb→eq}
use Rattle.base.specs.Lists.{All, Some}
use Rattle.base.specs.BranchLaws.{if_elim, case_o_elim, neqb→ne}
use Rattle.base.specs.ListLaws.{map_map, all_all, all_map, all_unmap, some_some, some_map}
use Rattle.rules.specs.Sheet.{Key, Entry, Model, find, insert_key}
use Rattle.rules.specs.Bound.{depth_over, History}
use Rattle.rules.specs.Merge.{rename, rename_entry, rename_fact, Pair, rename_pair, Filed, file, refile, merge_depths, sum, lowered, merge}
use Rattle.laws.specs.Tables.{find_all, insert_key_all, refile_all, refact_all}
use Rattle.laws.specs.MergeBy.{Reorders, Orders, EachReorders, merge_into_by, merge_all_by, merge_by}
use Rattle.laws.proofs.MergeByLaws.{reorders_back, merge_has}
use Rattle.soundness.specs.Tools.{insert_key_new, insert_key_old, insert_key_length, KeyOver, FactOver, Yields, keys_over, facts_over, Yielded, all_yielded, yielded_has}
use Rattle.soundness.specs.Settle.{depth_in, given, given_below, ReachedBy, AtRest, Reached, lower_rests, lower_reached, lower_below, lower_length}

-- What is used is yielded, what is yielded is below the created count, each depth is the least over the element's keys, and an
-- element that no key yields has depth 0.
pub record Linked (m : Model) : Type 0 where
  pub key_args : All (KeyOver (Yielded m.keys)) m.keys
  pub fact_args : All (FactOver (Yielded m.keys)) m.facts
  pub low : All (λ (x : Entry). x.1 < m.created) m.keys
  pub long : length m.depths ≡ m.created
  pub reached : (e : ℕ) → Yielded m.keys e → Reached m.depths m.keys e
  pub rests : AtRest m.depths m.keys
  pub gone : (e : ℕ) → (Yielded m.keys e → ⊥) → depth_in m.depths e ≡ 0

pub yielded_low : (m : Model) → Linked m → (e : ℕ) → Yielded m.keys e → e < m.created
yielded_low m g = yielded_has (λ e. e < m.created) m.keys g.low

-- ---- filing: each entry is there afterwards or has become a pair

refile_length : (xs : List Entry) (r : Filed) → length (refile xs r).0 + length (refile xs r).1 ≡ length xs + (length r.0 + length r.1)
unfolding refile file
refile_length [] r = omega arith
refile_length (x ∷ xs) r =
    let i = refile_length xs (file x r) in
    let j : length (file x r).0 + length (file x r).1 ≡ suc (length r.0 + length r.1) =
    case_o_elim (λ (ps : List Pair). length (insert_key x r.0) + length ps ≡ suc (length r.0 + length r.1)) _ _ _
    (λ e. let q = (insert_key_length x r.0).0 e in omega arith) (λ v e. let q = (insert_key_length x r.0).1 v e in omega arith) in
    omega arith

refile_pairs : (P : ℕ → Type 0) (xs : List Entry) (r : Filed) → All (Yields P) xs → All (Yields P) r.0
    → All (λ (p : Pair). P p.0 × P p.1) r.1 → All (λ (p : Pair). P p.0 × P p.1) (refile xs r).1
unfolding refile file
refile_pairs P [] r a b c = c
refile_pairs P (x ∷ xs) r a b c =
    refile_pairs P xs (file x r) a.1 (insert_key_all (Yields P) x r.0 a.0 b)
    (case_o_elim (All (λ (p : Pair). P p.0 × P p.1)) _ _ _ (λ _. c) (λ v e. ((find_all (Yields P) x.0 r.0 v b e, a.0), c)))

-- ---- colourings

-- One colour for the two elements of each pair.
abbrev Respects : (ℕ → ℕ) → List Pair → Type 0
Respects h ps = All (λ (p : Pair). h p.0 ≡ h p.1) ps

-- The key yields a colour, and has R.
abbrev Coloured : (ℕ → ℕ) → ℕ → (Key → Type 0) → Entry → Type 0
Coloured h c R x = (h x.1 ≡ c) × R x.0

file_respects : (h : ℕ → ℕ) (x : Entry) (r : Filed) → Respects h (file x r).1 → Respects h r.1 × ((v : ℕ) → find x.0 r.0 ≡ some v → h v ≡ h x.1)
unfolding file
file_respects h x r a =
    case_o_elim (λ (ps : List Pair). Respects h ps → Respects h r.1 × ((v : ℕ) → find x.0 r.0 ≡ some v → h v ≡ h x.1)) _ _ _
    (λ e q. (q, λ v f. absurd (none-ne-some v (sym e ∙ f))))
    (λ u e q. (q.1, λ v f. ap h (some-injective _ _ (sym f ∙ e)) ∙ q.0)) a

refile_respects : (h : ℕ → ℕ) (xs : List Entry) (r : Filed) → Respects h (refile xs r).1 → Respects h r.1
unfolding refile
refile_respects h [] r a = a
refile_respects h (x ∷ xs) r a = (file_respects h x r (refile_respects h xs (file x r) a)).0

refile_some : (h : ℕ → ℕ) (c : ℕ) (R : Key → Type 0) (xs : List Entry) (r : Filed) → Respects h (refile xs r).1
    → Some (Coloured h c R) xs ⊎ Some (Coloured h c R) r.0 → Some (Coloured h c R) (refile xs r).0
unfolding refile file
refile_some h c R [] r a (inl s) = absurd s.lower
refile_some h c R [] r a (inr s) = s
refile_some h c R (x ∷ xs) r a s = refile_some h c R xs (file x r) a (place s)
  where
    old : (v : ℕ) → find x.0 r.0 ≡ some v → Coloured h c R (x.0, v) → Coloured h c R x
    old v e q = (sym ((file_respects h x r (refile_respects h xs (file x r) a)).1 v e) ∙ q.0, q.1)

    place : Some (Coloured h c R) (x ∷ xs) ⊎ Some (Coloured h c R) r.0 → Some (Coloured h c R) xs ⊎ Some (Coloured h c R) (insert_key x r.0)
    place (inl (inl q)) = inr (insert_key_new (Coloured h c R) x r.0 q)
    place (inl (inr u)) = inl u
    place (inr u) = inr (insert_key_old (Coloured h c R) x r.0 old u)

-- ---- renaming, and the depths of the two

abbrev Renamed : ℕ → ℕ → ℕ → Type 0
Renamed s l e = ((e ≡ l) × (rename s l e ≡ s)) ⊎ ((e ≢ l) × (rename s l e ≡ e))

rename_is : (s l e : ℕ) → Renamed s l e
unfolding rename
rename_is s l e = if_elim (λ x. ((e ≡ l) × (x ≡ s)) ⊎ ((e ≢ l) × (x ≡ e))) _ _ _ (λ t. inl (eqb→eq e l t, refl)) (λ t. inr (neqb→ne e l t, refl))

rename_survivor : (s l : ℕ) → rename s l s ≡ s
rename_survivor s l = elim (rename_is s l s) [ inl p ↦ p.1 | inr p ↦ p.1 ]

rename_goner : (s l : ℕ) → rename s l l ≡ s
rename_goner s l = elim (rename_is s l l) [ inl p ↦ p.1 | inr p ↦ absurd (p.0 refl) ]

merge_depths_length : (s l : ℕ) (ds : List ℕ) → length (merge_depths s l ds) ≡ length ds
unfolding merge_depths
merge_depths_length s l ds = length-set (set ds s _) l 0 ∙ length-set ds s _

depth_goner : (s l : ℕ) (ds : List ℕ) → l < length ds → depth_in (merge_depths s l ds) l ≡ 0
unfolding merge_depths
depth_goner s l ds r = get_or-set_same (set ds s _) l 0 0 (lt-length-set ds s _ r)

module _ (s l : ℕ) (ds : List ℕ) (s≢l : s ≢ l) (sr : s < length ds) where
  depth_survivor : depth_in (merge_depths s l ds) s ≡ min (depth_in ds s) (depth_in ds l)
  unfolding merge_depths
  depth_survivor =
      get_or-set_other (set ds s (min (depth_in ds s) (depth_in ds l))) l s 0 0 s≢l ∙ get_or-set_same ds s (min (depth_in ds s) (depth_in ds l)) 0 sr

  depth_other : (e : ℕ) → e ≢ s → e ≢ l → depth_in (merge_depths s l ds) e ≡ depth_in ds e
  unfolding merge_depths
  depth_other e p q =
      get_or-set_other (set ds s (min (depth_in ds s) (depth_in ds l))) l e 0 0 q ∙ get_or-set_other ds s e (min (depth_in ds s) (depth_in ds l)) 0 p

  -- No depth rises on the way to the survivor.
  depth_renamed : (e : ℕ) → depth_in (merge_depths s l ds) (rename s l e) ≤ depth_in ds e
  depth_renamed e = go (rename_is s l e) (ℕ_discrete e s)
    where
      go : Renamed s l e → Dec (e ≡ s) → depth_in (merge_depths s l ds) (rename s l e) ≤ depth_in ds e
      go (inl p) d = let q = ap (depth_in (merge_depths s l ds)) p.1 ∙ depth_survivor in let r = ap (depth_in ds) p.0 in omega arith
      go (inr p) (yes d) = let q = ap (depth_in (merge_depths s l ds)) (p.1 ∙ d) ∙ depth_survivor in let r = ap (depth_in ds) d in omega arith
      go (inr p) (no d) = let q = ap (depth_in (merge_depths s l ds)) p.1 ∙ depth_other e d p.0 in omega arith

  given_renamed : (xs : List ℕ) → given (merge_depths s l ds) (map (rename s l) xs) ≤ given ds xs
  given_renamed xs =
      subst (λ v. depth_over v ≤ given ds xs) (sym (map_map (depth_in (merge_depths s l ds)) (rename s l) xs))
      (given_below (depth_in ds) (λ e. depth_in (merge_depths s l ds) (rename s l e)) depth_renamed xs)

  -- An element that is renamed alike and had the depth that there is now: the shallower of the two for the survivor.
  depth_from : (P : ℕ → Type 0) → P s → P l → (e : ℕ) → P e
      → (x : ℕ) × P x × (rename s l x ≡ rename s l e) × (depth_in ds x ≤ depth_in (merge_depths s l ds) (rename s l e))
  depth_from P ps pl e pe = go (rename_is s l e) (ℕ_discrete e s)
    where
      pick : rename s l e ≡ s → Dec (depth_in ds s ≤ depth_in ds l)
          → (x : ℕ) × P x × (rename s l x ≡ rename s l e) × (depth_in ds x ≤ depth_in (merge_depths s l ds) (rename s l e))
      pick q (yes d) = (s, ps, rename_survivor s l ∙ sym q, let r = ap (depth_in (merge_depths s l ds)) q ∙ depth_survivor in omega arith)
      pick q (no d) = (l, pl, rename_goner s l ∙ sym q, let r = ap (depth_in (merge_depths s l ds)) q ∙ depth_survivor in omega arith)

      go : Renamed s l e → Dec (e ≡ s)
          → (x : ℕ) × P x × (rename s l x ≡ rename s l e) × (depth_in ds x ≤ depth_in (merge_depths s l ds) (rename s l e))
      go (inl p) d = pick p.1 (dec_le (depth_in ds s) (depth_in ds l))
      go (inr p) (yes d) = pick (p.1 ∙ d) (dec_le (depth_in ds s) (depth_in ds l))
      go (inr p) (no d) = (e, pe, refl, le_of_eq (sym (ap (depth_in (merge_depths s l ds)) p.1 ∙ depth_other e d p.0)))

-- ---- the loop

-- All that is used has P: what keys and facts are over, what keys yield, and what the elements of the base are now.
record Live (B : ℕ → Type 0) (m : Model) (now : History) (P : ℕ → Type 0) : Type 0 where
  key_args : All (KeyOver P) m.keys
  values : All (Yields P) m.keys
  fact_args : All (FactOver P) m.facts
  nows : (e : ℕ) → B e → P (now e)
  low : (e : ℕ) → P e → e < m.created
  long : length m.depths ≡ m.created
  gone : (e : ℕ) → (P e → ⊥) → depth_in m.depths e ≡ 0

-- Under every colouring that respects the pairs, some key yields a used element's colour and gives no more than its depth.
abbrev Reaches : Model → List Pair → (ℕ → Type 0) → Type 0
Reaches m ps P = (h : ℕ → ℕ) → Respects h ps → (e : ℕ) → P e → Some (λ (x : Entry). (h x.1 ≡ h e) × (given m.depths x.0.args ≤ depth_in m.depths e)) m.keys

-- What P becomes.
abbrev Image : ℕ → ℕ → (ℕ → Type 0) → ℕ → Type 0
Image s l P e = (x : ℕ) × P x × (rename s l x ≡ e)

image_all : (s l : ℕ) (P : ℕ → Type 0) (xs : List ℕ) → All P xs → All (Image s l P) (map (rename s l) xs)
image_all s l P xs a = all_map P (Image s l P) (rename s l) (λ x p. (x, p, refl)) xs a

module _ (order : List Entry → List Entry) (next : List Pair → List Pair) (ro : Reorders order) (rn : Reorders next)
    (B : ℕ → Type 0) (s l : ℕ) (s≢l : s ≢ l) (m : Model) (now : History) (P : ℕ → Type 0) (ps : P s) (pl : P l) (o : Live B m now P) (qs : List Pair) where
  renamed_values : All (Yields (Image s l P)) (order (map (rename_entry s l) m.keys))
  unfolding rename_entry
  renamed_values = ro.each (Yields (Image s l P)) (map (rename_entry s l) m.keys)
      (all_map (Yields P) (Yields (Image s l P)) (rename_entry s l) (λ x a. (x.1, a, refl)) m.keys o.values)

  into_live : Live B (merge_into_by order next s l m qs).0 (λ e. rename s l (now e)) (Image s l P)
  unfolding merge_into_by rename_entry rename_fact
  into_live = record {
    key_args = refile_all (KeyOver (Image s l P)) (order (map (rename_entry s l) m.keys)) ([], map (rename_pair s l) qs)
        (ro.each (KeyOver (Image s l P)) (map (rename_entry s l) m.keys)
        (all_map (KeyOver P) (KeyOver (Image s l P)) (rename_entry s l) (λ x a. image_all s l P x.0.args a) m.keys o.key_args)) tt;
    values = refile_all (Yields (Image s l P)) (order (map (rename_entry s l) m.keys)) ([], map (rename_pair s l) qs) renamed_values tt;
    fact_args = refact_all (FactOver (Image s l P)) (map (rename_fact s l) m.facts) []
        (all_map (FactOver P) (FactOver (Image s l P)) (rename_fact s l) (λ f a. image_all s l P f.args a) m.facts o.fact_args) tt;
    nows = λ e b. (now e, o.nows e b, refl);
    low = λ e i. elim (rename_is s l i.0) [
      | inl p ↦ subst (λ z. z < m.created) (sym p.1 ∙ i.2) (o.low s ps)
      | inr p ↦ subst (λ z. z < m.created) (sym p.1 ∙ i.2) (o.low i.0 i.1)
    ];
    long = merge_depths_length s l m.depths ∙ o.long;
    gone = λ e n. left e n (ℕ_discrete e l) (ℕ_discrete e s);
  }
    where
      range : (e : ℕ) → P e → e < length m.depths
      range e p = subst (λ z. e < z) (sym o.long) (o.low e p)

      left : (e : ℕ) → (Image s l P e → ⊥) → Dec (e ≡ l) → Dec (e ≡ s) → depth_in (merge_depths s l m.depths) e ≡ 0
      left e n (yes p) d = ap (depth_in (merge_depths s l m.depths)) p ∙ depth_goner s l m.depths (range l pl)
      left e n (no p) (yes q) = absurd (n (s, ps, rename_survivor s l ∙ sym q))
      left e n (no p) (no q) =
          depth_other s l m.depths s≢l (range s ps) e q p ∙ o.gone e (λ u. n (e, u, elim (rename_is s l e) [ inl r ↦ absurd (p r.0) | inr r ↦ r.1 ]))

  into_reaches : Reaches m ((s, l) ∷ qs) P → Reaches (merge_into_by order next s l m qs).0 (merge_into_by order next s l m qs).1 (Image s l P)
  unfolding merge_into_by rename_entry
  into_reaches r h a e i =
      let ds = m.depths in
      let new = merge_depths s l ds in
      let sr : s < length ds = subst (λ n. s < n) (sym o.long) (o.low s ps) in
      let b = depth_from s l ds s≢l sr P ps pl i.0 i.1 in
      let R : Key → Type 0 = λ k. given new k.args ≤ depth_in new e in
      let xs = order (map (rename_entry s l) m.keys) in
      let c = reorders_back next rn (λ (p : Pair). h p.0 ≡ h p.1) (refile xs ([], map (rename_pair s l) qs)).1 a in
      refile_some h (h e) R xs ([], map (rename_pair s l) qs) c
      (inl (ro.has (Coloured h (h e) R) (map (rename_entry s l) m.keys)
      (some_map (λ (x : Entry). (h (rename s l x.1) ≡ h (rename s l b.0)) × (given ds x.0.args ≤ depth_in ds b.0)) (Coloured h (h e) R) (rename_entry s l)
      (λ x q. (
        q.0 ∙ ap h (b.2 ∙ i.2),
        le_trans (given_renamed s l ds s≢l sr x.0.args) (le_trans q.1 (subst (λ z. depth_in ds b.0 ≤ depth_in new z) i.2 b.3)),
      )) m.keys
      (r (λ z. h (rename s l z)) (
        ap h (rename_survivor s l ∙ sym (rename_goner s l)),
        all_unmap (λ (p : Pair). h p.0 ≡ h p.1) (rename_pair s l) qs (refile_respects h xs ([], map (rename_pair s l) qs) c),
      )
      b.0 b.1))))

  into_pairs : All (λ (p : Pair). P p.0 × P p.1) qs → All (λ (p : Pair). Image s l P p.0 × Image s l P p.1) (merge_into_by order next s l m qs).1
  unfolding merge_into_by
  into_pairs a =
      rn.each (λ (p : Pair). Image s l P p.0 × Image s l P p.1) _
      (refile_pairs (Image s l P) (order (map (rename_entry s l) m.keys)) ([], map (rename_pair s l) qs) renamed_values tt
      (all_map (λ (p : Pair). P p.0 × P p.1) (λ (p : Pair). Image s l P p.0 × Image s l P p.1) (rename_pair s l) (λ p q. ((p.0, q.0, refl), (p.1, q.1, refl))) qs a))

-- A key that falls away has become a pair.
pub into_length : (order : List Entry → List Entry) (next : List Pair → List Pair) → Reorders order → Reorders next → (s l : ℕ) (m : Model) (qs : List Pair)
    → length (merge_into_by order next s l m qs).0.keys + length (merge_into_by order next s l m qs).1 ≡ length m.keys + length qs
unfolding merge_into_by
into_length order next ro rn s l m qs =
    let r = refile_length (order (map (rename_entry s l) m.keys)) ([], map (rename_pair s l) qs) in
    let o = ro.many (map (rename_entry s l) m.keys) in
    let n = rn.many (refile (order (map (rename_entry s l) m.keys)) ([], map (rename_pair s l) qs)).1 in
    let p = length-map m.keys (rename_entry s l) in
    let q = length-map qs (rename_pair s l) in omega arith

-- What of a linked sheet the loop ends with: all but that the depths rest.
record Whole (B : ℕ → Type 0) (r : Model × History) : Type 0 where
  live : Live B r.0 r.1 (Yielded r.0.keys)
  reached : (e : ℕ) → Yielded r.0.keys e → Reached r.0.depths r.0.keys e

done_whole : (B : ℕ → Type 0) (m : Model) (now : History) (P : ℕ → Type 0) → Live B m now P → Reaches m [] P → Whole B (m, now)
done_whole B m now P o r = record {
  live = record {
    key_args = keys_over P Y up m.keys o.key_args;
    values = all_yielded m.keys;
    fact_args = facts_over P Y up m.facts o.fact_args;
    nows = λ e b. up (now e) (o.nows e b);
    low = λ e y. o.low e (yielded_has P m.keys o.values e y);
    long = o.long;
    gone = λ e n. o.gone e (λ p. n (up e p));
  };
  reached = λ e y. r (λ z. z) tt e (yielded_has P m.keys o.values e y);
}
  where
    Y : ℕ → Type 0
    Y = Yielded m.keys

    up : (e : ℕ) → P e → Y e
    up e p = some_some (ReachedBy m.depths e) (λ (x : Entry). x.1 ≡ e) (λ x q. q.0) m.keys (r (λ z. z) tt e p)

-- Of two numbers, the smaller and the larger are the two.
sorted_both : (P : ℕ → Type 0) (a b : ℕ) → P a → P b → P (min a b) × P (max a b)
sorted_both P a b p q = elim (dec_le a b) [
  | yes d ↦ (let u : a ≡ min a b = omega arith in let v : b ≡ max a b = omega arith in (subst P u p, subst P v q))
  | no d ↦ (let u : b ≡ min a b = omega arith in let v : a ≡ max a b = omega arith in (subst P u q, subst P v p))
]

sorted_back : (h : ℕ → ℕ) (a b : ℕ) → h (min a b) ≡ h (max a b) → h a ≡ h b
sorted_back h a b e = elim (dec_le a b) [
  | yes d ↦ (let u : a ≡ min a b = omega arith in let v : b ≡ max a b = omega arith in ap h u ∙ e ∙ ap h (sym v))
  | no d ↦ (let u : b ≡ min a b = omega arith in let v : a ≡ max a b = omega arith in ap h v ∙ sym e ∙ ap h (sym u))
]

module _ (order : Orders Entry) (next : Orders Pair) (ro : EachReorders order) (rn : EachReorders next) where
  merge_all_by_whole : (B : ℕ → Type 0) (k : ℕ) (m : Model) (now : History) (qs : List Pair) (P : ℕ → Type 0) → length qs + length m.keys ≤ k
      → Live B m now P → All (λ (p : Pair). P p.0 × P p.1) qs → Reaches m qs P → Whole B (merge_all_by order next k m now qs)
  unfolding merge_all_by
  merge_all_by_whole B zero m now [] P f o a r = done_whole B m now P o r
  merge_all_by_whole B zero m now (q ∷ qs) P f o a r = absurd (omega arith)
  merge_all_by_whole B (suc k) m now [] P f o a r = done_whole B m now P o r
  merge_all_by_whole B (suc k) m now (q ∷ qs) P f o a r =
      if_elim (Whole B) _ _ _
      (λ t. let e = eqb→eq q.0 q.1 t in merge_all_by_whole B k m now qs P (omega arith) o a.1 (λ h c. r h (ap h e, c)))
      (λ t.
      let s : ℕ = min q.0 q.1 in
      let l : ℕ = max q.0 q.1 in
      let d = neqb→ne q.0 q.1 t in
      let s≢l : s ≢ l = omega arith in
      let p = sorted_both P q.0 q.1 a.0.0 a.0.1 in
      let n = into_length (order k) (next k) (ro k) (rn k) s l m qs in
      let i = merge_into_by (order k) (next k) s l m qs in
      merge_all_by_whole B k i.0 (λ e. rename s l (now e)) i.1 (Image s l P) (omega arith)
      (into_live (order k) (next k) (ro k) (rn k) B s l s≢l m now P p.0 p.1 o qs)
      (into_pairs (order k) (next k) (ro k) (rn k) B s l s≢l m now P p.0 p.1 o qs a.1)
      (into_reaches (order k) (next k) (ro k) (rn k) B s l s≢l m now P p.0 p.1 o qs (λ h c. r h (sorted_back h q.0 q.1 c.0, c.1))))

-- ---- a merge of two elements of a linked sheet

-- The history leads what the base has to yielded elements.
abbrev pub Follows : (ℕ → Type 0) → Model → History → Type 0
Follows B m now = (e : ℕ) → B e → Yielded m.keys (now e)

lowered_linked : (B : ℕ → Type 0) (m : Model) (now : History) → Whole B (m, now) → Linked (lowered m) × Follows B (lowered m) now
unfolding lowered
lowered_linked B m now w =
    let n = sum m.depths in
    let o = w.live in (
      record {
        key_args = o.key_args;
        fact_args = o.fact_args;
        low = all_all (Yields (Yielded m.keys)) (λ (x : Entry). x.1 < m.created) (λ x y. o.low x.1 y) m.keys o.values;
        long = lower_length n m.keys m.depths ∙ o.long;
        reached = λ e y. lower_reached n m.keys m.depths e (w.reached e y);
        rests = lower_rests n m.keys m.depths (le_refl n);
        gone = λ e y. let p = lower_below n m.keys m.depths e in let q = o.gone e y in omega arith;
      },
      o.nows,
    )

pub merge_by_linked : (order : Orders Entry) (next : Orders Pair) → EachReorders order → EachReorders next
    → (B : ℕ → Type 0) (a b : ℕ) (m : Model) (now : History) → Linked m → Follows B m now → Yielded m.keys a → Yielded m.keys b
    → Linked (merge_by order next a b m now).0 × Follows B (merge_by order next a b m now).0 (merge_by order next a b m now).1
unfolding merge_by
merge_by_linked order next ro rn B a b m now g f x y =
    lowered_linked B _ _ (merge_all_by_whole order next ro rn B (suc (length m.keys)) m now ((a, b) ∷ []) (Yielded m.keys) (omega arith)
    (record { key_args = g.key_args; values = all_yielded m.keys; fact_args = g.fact_args; nows = f; low = yielded_low m g; long = g.long; gone = g.gone })
    ((x, y), tt)
    (λ h c e p. some_some _ (λ (z : Entry). (h z.1 ≡ h e) × (given m.depths z.0.args ≤ depth_in m.depths e)) (λ z q. (ap h q.0, q.1)) m.keys (g.reached e p)))

pub merge_linked : (B : ℕ → Type 0) (a b : ℕ) (m : Model) (now : History) → Linked m → Follows B m now → Yielded m.keys a → Yielded m.keys b
    → Linked (merge a b m now).0 × Follows B (merge a b m now).0 (merge a b m now).1
merge_linked B a b m now g f x y =
    merge_has (λ (r : History → Model × History). Linked (r now).0 × Follows B (r now).0 (r now).1) a b m
    (λ order next ro rn. merge_by_linked order next ro rn B a b m now g f x y)
