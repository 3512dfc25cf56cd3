-- The law of merging, said of the sheet before and the sheet after: the survivors, the images of keys and facts, the least depths.
use Rattle.std.specs.Prelude.{◌≡◌, ℕ}
use Rattle.rules.specs.Sheet.{Model}
use Rattle.laws.specs.Tables.{KeysRise, FactsRise}
use Rattle.congruence.specs.Forced.{Survives}
use Rattle.congruence.specs.Images.{entry_image, fact_image, Images}
use Rattle.congruence.specs.Depths.{LeastDepths}

-- Of merging a and b in m: h says what each element becomes, and keys and facts of n are the images, in order.
pub record MergedTables (a b : ℕ) (m n : Model) (h : ℕ → ℕ) : Type 1 where
  pub survives : Survives a b m.keys h
  pub keys : Images (entry_image h) m.keys n.keys
  pub keys_rise : KeysRise n.keys
  pub facts : Images (fact_image h) m.facts n.facts
  pub facts_rise : FactsRise n.facts

-- The whole sheet: none is created, and depths are least.
pub record Merged (a b : ℕ) (m n : Model) (h : ℕ → ℕ) : Type 1 where
  pub tables : MergedTables a b m n h
  pub created : n.created ≡ m.created
  pub depths : LeastDepths n
