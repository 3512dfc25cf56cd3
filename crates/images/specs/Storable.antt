-- What an image can hold, so that reading gives it back: counts and numbers that fit their bytes and lists that fit their room.
-- And what makes an image consist of bytes.
use Rattle.std.specs.Prelude.{◌≡◌, refl, ℕ, ◌*◌, ◌≤◌, ◌<◌, length}
use Rattle.std.proofs.Common.{arith}
use Rattle.base.specs.Lists.{All}
use Rattle.rules.specs.Sheet.{Fact, Entry, Model, Sheet, empty, blank, Limits, limits}
use Rattle.rules.specs.Pool.{State}
use Rattle.rules.specs.Image.{most_slots}

-- Limits whose counts fit 16 bits.
pub record SmallLimits (lim : Limits) : Type 0 where
  pub elements : lim.elements < 65536
  pub keys : lim.keys < 65536
  pub facts : lim.facts < 65536

pub small_limits : SmallLimits limits
unfolding limits
small_limits = omega arith

-- Entries with room for their arguments.
abbrev pub FewKey : Entry → Type 0
FewKey x = length x.0.args ≤ 4

abbrev pub FewFact : Fact → Type 0
FewFact f = length f.args ≤ 4

pub record StorableModel (lim : Limits) (m : Model) : Type 0 where
  pub created : m.created ≤ lim.elements
  pub keys : length m.keys ≤ lim.keys
  pub facts : length m.facts ≤ lim.facts
  pub depths : length m.depths ≡ m.created
  pub key_args : All FewKey m.keys
  pub fact_args : All FewFact m.facts

pub record StorableSheet (lim : Limits) (x : Sheet) : Type 0 where
  pub number : x.number < 65536
  pub place : x.place < 65536
  pub model : StorableModel lim x.model

pub record StorableState (lim : Limits) (s : State) : Type 0 where
  pub next : s.next < 65536 * 65536
  pub waiting : length s.waiting ≤ most_slots
  pub complete : length s.complete ≤ most_slots
  pub bounded : length s.bounded ≤ most_slots
  pub slots : All (StorableSheet lim) s.slots

-- ---- bytes

abbrev pub Octet : ℕ → Type 0
Octet n = n < 256

pub record ByteKey (x : Entry) : Type 0 where
  pub kind : Octet x.0.kind
  pub symbol : Octet x.0.symbol
  pub args : All Octet x.0.args
  pub value : Octet x.1

pub record ByteFact (f : Fact) : Type 0 where
  pub relation : Octet f.relation
  pub args : All Octet f.args

pub record ByteModel (m : Model) : Type 0 where
  pub keys : All ByteKey m.keys
  pub facts : All ByteFact m.facts
  pub depths : All Octet m.depths

abbrev pub ByteSheet : Sheet → Type 0
ByteSheet x = ByteModel x.model

pub record ByteState (s : State) : Type 0 where
  pub scheduler : Octet s.scheduler
  pub strategy : Octet s.strategy
  pub waiting : All Octet s.waiting
  pub complete : All Octet s.complete
  pub bounded : All Octet s.bounded
  pub slots : All ByteSheet s.slots

-- ---- the blank sheet

pub blank_storable : (lim : Limits) → StorableSheet lim blank
unfolding blank empty
blank_storable lim = record {
  number = omega arith;
  place = omega arith;
  model = record { created = omega arith; keys = omega arith; facts = omega arith; depths = refl; key_args = tt; fact_args = tt };
}

pub blank_bytes : ByteSheet blank
unfolding blank empty
blank_bytes = record { keys = tt; facts = tt; depths = tt }
