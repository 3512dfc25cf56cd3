-- The laws of merging for a sheet that passes the test of soundness (01, "The pool"), and any two of its elements: what becomes one,
-- that the merged sheet is sound, which it is, and that it is the same whatever the order of keys, of pairs and of the two.
use Rattle.std.specs.Prelude.{◌≡◌, ℕ, ◌↔◌, T}
use Rattle.rules.specs.Book.{Names}
use Rattle.rules.specs.Sheet.{Entry, Model, known, Limits}
use Rattle.rules.specs.Bound.{History}
use Rattle.rules.specs.Merge.{Pair, merge}
use Rattle.rules.specs.Sound.{sound_model}
use Rattle.laws.specs.Tables.{KeysRise}
use Rattle.laws.specs.MergeBy.{Orders, EachReorders, merge_by}
use Rattle.soundness.specs.Model.{sound_neat, neat_sound}
use Rattle.congruence.specs.Forced.{Forced}
use Rattle.congruence.specs.Images.{entry_image, fact_image, Images}
use Rattle.congruence.specs.Survivors.{survivor, Smallest}
use Rattle.congruence.specs.Merged.{Merged}
use Rattle.congruence.proofs.Survivors.{merge_is_congruence, survivor_smallest, merge_keys, merge_facts}
use Rattle.congruence.specs.Within.{CongruenceOn, forced_within}
use Rattle.congruence.proofs.Merged.{merge_neat, merge_merged, merged_is_merge, merge_any_order, merge_order_free}

module _ (lim : Limits) (d : Names) (m : Model) (t : T (sound_model lim d m)) (a b : ℕ) where
  rise : KeysRise m.keys
  rise = (sound_neat lim d m t).listed.keys_rise

  pub sound_merge_is_congruence : (x y : ℕ) → (survivor a b m x ≡ survivor a b m y) ↔ Forced a b m.keys x y
  sound_merge_is_congruence = merge_is_congruence a b m rise

  pub sound_survivor_smallest : (x : ℕ) → Smallest a b m x
  sound_survivor_smallest = survivor_smallest a b m rise

  pub sound_merge_keys : (now : History) → Images (entry_image (survivor a b m)) m.keys (merge a b m now).0.keys
  sound_merge_keys = merge_keys a b m rise

  pub sound_merge_facts : (now : History) → Images (fact_image (survivor a b m)) m.facts (merge a b m now).0.facts
  sound_merge_facts = merge_facts a b m rise

  -- Two elements of the sheet have one survivor exactly when every equivalence on its elements relates them that has the pair and is
  -- closed under the keys.
  pub sound_one_survivor : T (known m a) → T (known m b) → (x y : ℕ) → T (known m x)
      → (survivor a b m x ≡ survivor a b m y) ↔ ((E : ℕ → ℕ → Type 0) → CongruenceOn a b m E → E x y)
  sound_one_survivor ka kb x y k =
      let s = sound_merge_is_congruence x y in
      let w = forced_within lim d m (sound_neat lim d m t) a b ka kb x y k in
      (λ e. w.0 (s.0 e), λ f. s.1 (w.1 f))

  module _ (ka : T (known m a)) (kb : T (known m b)) (now : History) where
    pub sound_merge_sound : T (sound_model lim d (merge a b m now).0)
    sound_merge_sound = neat_sound lim d (merge a b m now).0 (merge_neat lim d m (sound_neat lim d m t) a b ka kb now)

    pub sound_merge_merged : Merged a b m (merge a b m now).0 (survivor a b m)
    sound_merge_merged = merge_merged lim d m (sound_neat lim d m t) a b ka kb now

    pub sound_merged_is_merge : (n : Model) (h : ℕ → ℕ) → Merged a b m n h → (n ≡ (merge a b m now).0) × (h ≡ survivor a b m)
    sound_merged_is_merge = merged_is_merge lim d m (sound_neat lim d m t) a b ka kb now

    -- Whatever the order in which each round files the keys and the pairs then wait. The order of the Rust is one of them: Rust.
    pub sound_merge_any_order : (order : Orders Entry) (next : Orders Pair) → EachReorders order → EachReorders next
        → merge_by order next a b m now ≡ merge a b m now
    sound_merge_any_order = merge_any_order lim d m (sound_neat lim d m t) a b ka kb now

    pub sound_merge_order_free : merge a b m now ≡ merge b a m now
    sound_merge_order_free = merge_order_free lim d m (sound_neat lim d m t) a b ka kb now
