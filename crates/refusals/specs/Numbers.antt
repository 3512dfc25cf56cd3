-- The numbers of document 01's refusals ("Refusal numbers"), and what a call answers.
use Rattle.std.specs.Prelude.{◌≡◌, ℕ, Result, Ok, Err, IsErrAnd}
use Rattle.std.proofs.Common.{ap, arith}
use Rattle.refusals.specs.declared.Refusal.{Refusal}
use Rattle.refusals.specs.declared.Refusal.TheVariants.{BookTooLong, BookEnds, WrongMark, WrongVersion, OutOfRange, UnknownKind, NotDeclared, TooDeep, WrongCount, BytesLeftOver, WrongPoolLength, UnknownSetting, PoolNotSound, NothingWaiting, ChildTooLarge, NoFreeSlots, NoModelNumbers, ListEmpty, OutputTooShort}

abbrev pub number : Refusal → ℕ
number BookTooLong = 1
number BookEnds = 2
number WrongMark = 3
number WrongVersion = 4
number OutOfRange = 5
number UnknownKind = 6
number NotDeclared = 7
number TooDeep = 8
number WrongCount = 9
number BytesLeftOver = 10
number WrongPoolLength = 11
number UnknownSetting = 12
number PoolNotSound = 13
number NothingWaiting = 14
number ChildTooLarge = 15
number NoFreeSlots = 16
number NoModelNumbers = 17
number ListEmpty = 18
number OutputTooShort = 19

-- Done answers 0, which is no refusal's number.
abbrev pub answer : Result (Unit {0}) Refusal → ℕ
answer (Ok done) = 0
answer (Err r) = number r

-- No refusal is 0.
pub not_done : (r : Refusal) → number r ≡ 0 → ⊥
not_done BookTooLong h = omega arith
not_done BookEnds h = omega arith
not_done WrongMark h = omega arith
not_done WrongVersion h = omega arith
not_done OutOfRange h = omega arith
not_done UnknownKind h = omega arith
not_done NotDeclared h = omega arith
not_done TooDeep h = omega arith
not_done WrongCount h = omega arith
not_done BytesLeftOver h = omega arith
not_done WrongPoolLength h = omega arith
not_done UnknownSetting h = omega arith
not_done PoolNotSound h = omega arith
not_done NothingWaiting h = omega arith
not_done ChildTooLarge h = omega arith
not_done NoFreeSlots h = omega arith
not_done NoModelNumbers h = omega arith
not_done ListEmpty h = omega arith
not_done OutputTooShort h = omega arith

-- What an operator `?` passes on.
pub passed_on : {X E : Type 0} (r : Result X E) (f : E) → IsErrAnd r (λ y. y ≡ f) → r ≡ Err f
passed_on (Ok x) f h = absurd h
passed_on (Err g) f h = ap Err h
