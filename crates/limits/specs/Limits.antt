-- The limits that code hands on are the definitions' limits, and the places that follow from them: of slots in a pool, and of the regions
-- of a working form.
use Rattle.std.specs.Prelude.{ℕ, ◌+◌, ◌*◌}
use Rattle.rules.specs.Sheet.{Limits}
use Rattle.limits.specs.declared.Limits as declared

abbrev pub limits_of : declared.Limits → Limits
limits_of l = record { elements = l.elements; keys = l.keys; facts = l.facts }

-- ---- slots of a pool

abbrev pub slot_size : Limits → ℕ
slot_size lim = 16 + 8 * lim.keys + 8 * lim.facts + lim.elements

-- Behind sixteen bytes of counts a slot has its keys, then its facts, then its depths.
abbrev pub slot_facts_at : Limits → ℕ
slot_facts_at lim = 16 + 8 * lim.keys

abbrev pub slot_depths_at : Limits → ℕ
slot_depths_at lim = slot_facts_at lim + 8 * lim.facts

abbrev pub slot_at : Limits → ℕ → ℕ
slot_at lim i = 208 + slot_size lim * i

-- ---- regions of a working form

abbrev pub keys_at : ℕ
keys_at = 5

-- Behind the keys there is room for one pair more than keys.
abbrev pub facts_at : Limits → ℕ
facts_at lim = 6 + lim.keys + lim.keys

abbrev pub depths_at : Limits → ℕ
depths_at lim = facts_at lim + lim.facts

abbrev pub history_at : Limits → ℕ
history_at lim = depths_at lim + lim.elements

abbrev pub form_size : Limits → ℕ
form_size lim = history_at lim + lim.elements
