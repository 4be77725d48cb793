-- The reasons of refusals, and the number of each, which never changes: C callers and stored answers know a reason by it.
use Rattle.std.specs.Prelude.{ℕ}
use Rattle.ranges.specs.declared.Error.{Error}
use Rattle.ranges.specs.declared.Error.TheVariants.{Overflow, OutOfRange, AlreadyReleased, NeverAllocated, ResourceNotAvailable, InvalidRange, InvalidAlignment, UnalignedAddress, Underflow, InvalidSize, NoRoom, InvalidPolicy, NoState}

-- the number of a reason; 0 is the number of none
abbrev pub number_of : Error → ℕ
number_of Overflow = 1
number_of OutOfRange = 2
number_of AlreadyReleased = 3
number_of NeverAllocated = 4
number_of ResourceNotAvailable = 5
number_of InvalidRange = 6
number_of InvalidAlignment = 7
number_of UnalignedAddress = 8
number_of Underflow = 9
number_of InvalidSize = 10
number_of NoRoom = 11
number_of InvalidPolicy = 12
number_of NoState = 13
