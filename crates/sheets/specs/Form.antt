-- The working form of a sheet: one list of numbers with five counts in front, then regions whose places follow from the limits:
-- keys, room for pairs that wait to be merged, facts, depths, and for each element what it is now.
use Rattle.std.specs.Prelude.{◌≡◌, ℕ, ◌≤◌, List, map, length, get_or}
use Rattle.rules.specs.Sheet.{Sheet, Limits}
use Rattle.rules.specs.Image.{part}
pub use Rattle.limits.specs.Limits.{keys_at, facts_at, depths_at, history_at, form_size}
use Rattle.packing.specs.Pack.{pack_entry, pack_fact}

-- ---- what a form shows

pub record View : Type 0 where
  pub number : ℕ
  pub place : ℕ
  pub created : ℕ
  pub keys : List ℕ
  pub facts : List ℕ
  pub depths : List ℕ
  pub history : List ℕ

unfoldable pub view_of : Limits → List ℕ → View
view_of lim w = record {
  number = get_or w 0 0;
  place = get_or w 1 0;
  created = get_or w 2 0;
  keys = part keys_at (get_or w 3 0) w;
  facts = part (facts_at lim) (get_or w 4 0) w;
  depths = part (depths_at lim) (get_or w 2 0) w;
  history = part (history_at lim) lim.elements w;
}

-- The list has its length, and counts are within the limits.
pub record Formed (lim : Limits) (w : List ℕ) : Type 0 where
  pub size : length w ≡ form_size lim
  pub created : get_or w 2 0 ≤ lim.elements
  pub keys : get_or w 3 0 ≤ lim.keys
  pub facts : get_or w 4 0 ≤ lim.facts

-- The view is of that sheet. The history is no part of a sheet.
pub record Shows (v : View) (x : Sheet) : Type 0 where
  pub number : v.number ≡ x.number
  pub place : v.place ≡ x.place
  pub created : v.created ≡ x.model.created
  pub keys : v.keys ≡ map pack_entry x.model.keys
  pub facts : v.facts ≡ map pack_fact x.model.facts
  pub depths : v.depths ≡ x.model.depths

pub record Holds (lim : Limits) (w : List ℕ) (x : Sheet) : Type 0 where
  pub formed : Formed lim w
  pub shows : Shows (view_of lim w) x
