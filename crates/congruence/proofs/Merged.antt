-- The law of merging: the sheet that it names is one, whatever the way it was made, and `merge` makes it.
-- The survivors are determined by the congruences of the keys (Forced), keys and facts as rising lists of the survivors' images
-- (Rising), and depths by the keys (Depths). Merging by any order meets the law: so whatever the order in which keys are filed and
-- pairs are taken, it is `merge`; and merging a and b is merging b and a.
use Rattle.std.specs.Prelude.{◌≡◌, ℕ, T}
use Rattle.std.proofs.Math.Path.{refl, sym}
use Rattle.std.proofs.Common.{◌∙◌, subst}
use Rattle.rules.specs.Book.{Names}
use Rattle.rules.specs.Sheet.{Entry, Model, known, Limits}
use Rattle.rules.specs.Bound.{History}
use Rattle.rules.specs.Merge.{Pair, lowered, merge}
use Rattle.laws.specs.MergeBy.{Orders, EachReorders, merge_into_by, merge_by}
use Rattle.laws.proofs.MergeByLaws.{merge_has}
use Rattle.soundness.specs.Tools.{known_yielded}
use Rattle.soundness.specs.Join.{merge_by_linked}
use Rattle.soundness.specs.Neat.{Neat, merge_by_small, merge_by_listed}
use Rattle.congruence.proofs.Forced.{survivors_unique, survives_swap}
use Rattle.congruence.specs.Survivors.{survivor}
use Rattle.congruence.specs.Merged.{MergedTables, Merged}
use Rattle.congruence.specs.Images.{entry_image, fact_image, Images}
use Rattle.congruence.specs.Rising.{keys_unique, facts_unique}
use Rattle.congruence.specs.Rounds.{after_history, merge_by_ends, merge_by_after, merge_after}
use Rattle.congruence.proofs.Survivors.{way_survives, way_keys, way_facts, merge_by_way}
use Rattle.congruence.specs.Depths.{depths_unique, neat_depths}

-- ---- it determines the sheet

pub merge_determined : (a b : ℕ) (m n₁ n₂ : Model) (h₁ h₂ : ℕ → ℕ) → MergedTables a b m n₁ h₁ → MergedTables a b m n₂ h₂
    → (h₁ ≡ h₂) × (n₁.keys ≡ n₂.keys) × (n₁.facts ≡ n₂.facts)
merge_determined a b m n₁ n₂ h₁ h₂ u v =
    let e = survivors_unique a b m.keys h₁ h₂ u.survives v.survives in (
      e,
      keys_unique (entry_image h₂) m.keys n₁.keys n₂.keys u.keys_rise v.keys_rise (subst (λ h. Images (entry_image h) m.keys n₁.keys) e u.keys) v.keys,
      facts_unique (fact_image h₂) m.facts n₁.facts n₂.facts u.facts_rise v.facts_rise (subst (λ h. Images (fact_image h) m.facts n₁.facts) e u.facts) v.facts,
    )

pub merged_unique : (a b : ℕ) (m n₁ n₂ : Model) (h₁ h₂ : ℕ → ℕ) → Merged a b m n₁ h₁ → Merged a b m n₂ h₂ → (n₁ ≡ n₂) × (h₁ ≡ h₂)
merged_unique a b m n₁ n₂ h₁ h₂ u v =
    let t = merge_determined a b m n₁ n₂ h₁ h₂ u.tables v.tables in
    let c = u.created ∙ sym v.created in
    let d = depths_unique n₁ n₂ t.1 c u.depths v.depths in
    (λ i. record { created = c i; keys = t.1 i; facts = t.2 i; depths = d i }, t.0)

pub merged_swap : (a b : ℕ) (m n : Model) (h : ℕ → ℕ) → Merged a b m n h → Merged b a m n h
merged_swap a b m n h g =
    let t = g.tables in
    record {
      tables = record { survives = survives_swap a b m.keys h t.survives; keys = t.keys; keys_rise = t.keys_rise; facts = t.facts; facts_rise = t.facts_rise };
      created = g.created;
      depths = g.depths;
    }

-- ---- merging meets it, by any order

module _ (order : Orders Entry) (next : Orders Pair) (ro : EachReorders order) (rn : EachReorders next) where
  merge_by_created : (a b : ℕ) (m : Model) (now : History) → (merge_by order next a b m now).0.created ≡ m.created
  unfolding merge_into_by lowered
  merge_by_created a b m now = merge_by_ends order next ro rn (λ n h ps. n.created ≡ m.created) (λ n h p ps e c. c) (λ k n h p ps c. c) (λ n h c. c) a b m now refl

  module _ (lim : Limits) (d : Names) (m : Model) (g : Neat lim d m) (a b : ℕ) (ka : T (known m a)) (kb : T (known m b)) (now : History) where
    merge_by_neat : Neat lim d (merge_by order next a b m now).0
    merge_by_neat = record {
      small = merge_by_small order next ro lim a b m now g.small;
      listed = merge_by_listed order next ro d a b m now g.listed;
      linked = (merge_by_linked order next ro rn (λ _. ⊥) a b m now g.linked (λ e n. absurd n) (known_yielded m a ka) (known_yielded m b kb)).0;
    }

    merge_by_merged : Merged a b m (merge_by order next a b m now).0 (merge_by order next a b m (λ e. e)).1
    merge_by_merged =
        let n = (merge_by order next a b m now).0 in
        let h = (merge_by order next a b m (λ e. e)).1 in
        let w = merge_by_way order next ro rn a b m g.listed.keys_rise now in
        record {
          tables = record {
            survives = way_survives a b m n h w;
            keys = way_keys a b m n h w;
            keys_rise = merge_by_neat.listed.keys_rise;
            facts = way_facts a b m n h w;
            facts_rise = merge_by_neat.listed.facts_rise;
          };
          created = merge_by_created a b m now;
          depths = neat_depths lim d n merge_by_neat;
        }

module _ (lim : Limits) (d : Names) (m : Model) (g : Neat lim d m) (a b : ℕ) (ka : T (known m a)) (kb : T (known m b)) (now : History) where
  pub merge_neat : Neat lim d (merge a b m now).0
  merge_neat = merge_has (λ (r : History → Model × History). Neat lim d (r now).0) a b m (λ order next ro rn. merge_by_neat order next ro rn lim d m g a b ka kb now)

  pub merge_merged : Merged a b m (merge a b m now).0 (survivor a b m)
  unfolding survivor
  merge_merged = merge_has (λ (r : History → Model × History). Merged a b m (r now).0 (r (λ e. e)).1) a b m
      (λ order next ro rn. merge_by_merged order next ro rn lim d m g a b ka kb now)

  -- Whatever meets it makes the same of the sheet.
  pub merged_is_merge : (n : Model) (h : ℕ → ℕ) → Merged a b m n h → (n ≡ (merge a b m now).0) × (h ≡ survivor a b m)
  merged_is_merge n h u = merged_unique a b m n _ h _ u merge_merged

-- ---- so no order matters

module _ (lim : Limits) (d : Names) (m : Model) (g : Neat lim d m) (a b : ℕ) (ka : T (known m a)) (kb : T (known m b)) (now : History) where
  -- What meets the law and carries a history along is `merge`.
  is_merge : (r : History → Model × History) → r now ≡ after_history now (r (λ e. e)) → Merged a b m (r (λ e. e)).0 (r (λ e. e)).1 → r now ≡ merge a b m now
  unfolding survivor
  is_merge r c u =
      let e = merged_is_merge lim d m g a b ka kb (λ e. e) _ _ u in
      c ∙ (λ i. after_history now (e.0 i, e.1 i)) ∙ sym (merge_after now a b m)

  -- In each round keys are filed, and pairs then wait, in any order.
  pub merge_any_order : (order : Orders Entry) (next : Orders Pair) → EachReorders order → EachReorders next
      → merge_by order next a b m now ≡ merge a b m now
  merge_any_order order next ro rn =
      is_merge (merge_by order next a b m) (merge_by_after order next now a b m) (merge_by_merged order next ro rn lim d m g a b ka kb (λ e. e))

  -- The two elements may be swapped.
  pub merge_order_free : merge a b m now ≡ merge b a m now
  unfolding survivor
  merge_order_free = sym (is_merge (merge b a m) (merge_after now b a m) (merged_swap b a m _ _ (merge_merged lim d m g b a kb ka (λ e. e))))
