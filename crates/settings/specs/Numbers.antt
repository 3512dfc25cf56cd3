-- The lists of a header by their numbers.
use Prim.Native.Nat.{ℕ}
use Rattle.settings.specs.declared.SlotList.{SlotList}
use Rattle.settings.specs.declared.SlotList.TheVariants.{Waiting, Complete, Bounded}

abbrev pub number_of : SlotList → ℕ
number_of Waiting = 0
number_of Complete = 1
number_of Bounded = 2
