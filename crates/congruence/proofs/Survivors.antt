-- What merging makes of each element is its survivor (Forced), and keys and facts of the merged sheet are just the survivors' images
-- of those that were there: what the rounds keep (Way) says so when no pair waits, for then colours are the elements themselves.
-- A merge by any order comes there, and `merge` is one.
use Rattle.std.specs.Prelude.{◌≡◌, refl, ℕ, ◌↔◌, []}
use Rattle.std.proofs.Common.{sym, ◌∙◌, subst}
use Rattle.std.proofs.Math.Option.{some, some-injective}
use Rattle.base.specs.Lists.{All, Some}
use Rattle.base.specs.ListLaws.{all_all, some_some, In}
use Rattle.rules.specs.Sheet.{key, Entry, Model, find}
use Rattle.rules.specs.Bound.{History}
use Rattle.rules.specs.Merge.{Pair, lowered, merge}
use Rattle.laws.specs.Tables.{KeysRise}
use Rattle.laws.specs.MergeBy.{Orders, EachReorders, merge_by}
use Rattle.laws.proofs.MergeByLaws.{merge_has}
use Rattle.soundness.specs.Tools.{in_has, find_in}
use Rattle.congruence.specs.Forced.{Forced, alike_args, Survives}
use Rattle.congruence.proofs.Forced.{one_survivor, survivor_stays, survivor_least}
use Rattle.congruence.specs.Survivors.{survivor, Smallest}
use Rattle.congruence.specs.Images.{key_image, entry_image, fact_image, Images, images_are}
use Rattle.congruence.specs.Rounds.{merge_by_ends, merge_by_after}
use Rattle.congruence.specs.Way.{There, WayTo, way_skip, way_round, way_start}

-- ---- where no pair waits

module _ (a b : ℕ) (m n : Model) (h : History) (w : WayTo a b m n h []) where
  keys_there_lem : All (λ (x : Entry). In (entry_image h x) n.keys) m.keys
  keys_there_lem =
      all_all (λ (x : Entry). Some (There (λ e. e) h x) n.keys) (λ (x : Entry). In (entry_image h x) n.keys)
      (λ x s. some_some (There (λ e. e) h x) (λ y. y ≡ entry_image h x) (λ y q i. (q.0 i, q.1 i)) n.keys s) m.keys (w.keys_there (λ e. e) tt)

  -- Keys that name one symbol over elements with the same survivors have one image, and so one value.
  pub way_survives : Survives a b m.keys h
  way_survives = record {
    congruence = record {
      self = λ x. refl;
      back = λ x y p. sym p;
      chain = λ x y z p q. p ∙ q;
      joins = w.joins (λ e. e) tt;
      closed = λ x y i j p q r.
          let t = alike_args h x.0.args y.0.args r in
          some-injective _ _ (sym (found x i) ∙ (λ k. find (key (p k) (q k) (t k)) n.keys) ∙ found y j);
    };
    below = w.below;
    forced = λ e E c. (w.forced E c).0 e;
  }
    where
      found : (x : Entry) → In x m.keys → find (key_image h x.0) n.keys ≡ some (h x.1)
      found x i = find_in n.keys w.keys_rise (entry_image h x) (in_has (λ (z : Entry). In (entry_image h z) n.keys) x m.keys i keys_there_lem)

  pub way_keys : Images (entry_image h) m.keys n.keys
  way_keys = images_are (entry_image h) m.keys n.keys w.keys_from keys_there_lem

  pub way_facts : Images (fact_image h) m.facts n.facts
  way_facts = images_are (fact_image h) m.facts n.facts w.facts_from w.facts_there

-- A merge by any order comes there.
pub merge_by_way : (order : Orders Entry) (next : Orders Pair) → EachReorders order → EachReorders next
    → (a b : ℕ) (m : Model) → KeysRise m.keys → (now : History) → WayTo a b m (merge_by order next a b m now).0 (merge_by order next a b m (λ e. e)).1 []
unfolding lowered
merge_by_way order next ro rn a b m g now =
    subst (λ (r : Model × History). WayTo a b m r.0 (merge_by order next a b m (λ e. e)).1 []) (sym (merge_by_after order next now a b m))
    (merge_by_ends order next ro rn (WayTo a b m) (way_skip a b m) (λ n. way_round (order n) (next n) (ro n) (rn n) a b m) (λ n h w. w)
    a b m (λ e. e) (way_start a b m g))

-- ---- merge

module _ (a b : ℕ) (m : Model) (g : KeysRise m.keys) where
  merge_way : (now : History) → WayTo a b m (merge a b m now).0 (survivor a b m) []
  unfolding survivor
  merge_way now = merge_has (λ (r : History → Model × History). WayTo a b m (r now).0 (r (λ e. e)).1 []) a b m
      (λ order next ro rn. merge_by_way order next ro rn a b m g now)

  pub merge_survives : Survives a b m.keys (survivor a b m)
  merge_survives = way_survives a b m (merge a b m (λ e. e)).0 (survivor a b m) (merge_way (λ e. e))

  -- Two elements have one survivor exactly when every congruence of the keys that relates a and b relates them.
  pub merge_is_congruence : (x y : ℕ) → (survivor a b m x ≡ survivor a b m y) ↔ Forced a b m.keys x y
  merge_is_congruence = one_survivor a b m.keys (survivor a b m) merge_survives

  pub survivor_smallest : (x : ℕ) → Smallest a b m x
  survivor_smallest x =
      let s = merge_survives in
      let h = survivor a b m in
      record { below = s.below x; own = survivor_stays a b m.keys h s x; in_class = s.forced x; least = survivor_least a b m.keys h s x }

  -- Keys and facts of the merged sheet are just the survivors' images of those of m.
  pub merge_keys : (now : History) → Images (entry_image (survivor a b m)) m.keys (merge a b m now).0.keys
  merge_keys now = way_keys a b m (merge a b m now).0 (survivor a b m) (merge_way now)

  pub merge_facts : (now : History) → Images (fact_image (survivor a b m)) m.facts (merge a b m now).0.facts
  merge_facts now = way_facts a b m (merge a b m now).0 (survivor a b m) (merge_way now)
