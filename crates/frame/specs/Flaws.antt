-- What is wrong with bytes that are no saved allocator, and the number of each, which never changes.
use Rattle.std.specs.Prelude.{ℕ}
use Rattle.frame.specs.declared.Flaw.{Flaw}
use Rattle.frame.specs.declared.Flaw.TheVariants.{Short, Kind, Version, Check, Bounds, Limit, Count, State, Order, Outside, Touching}

-- the number of a flaw
abbrev pub number_of : Flaw → ℕ
number_of Short = 101
number_of Kind = 102
number_of Version = 103
number_of Check = 104
number_of Bounds = 105
number_of Limit = 106
number_of Count = 107
number_of State = 108
number_of Order = 109
number_of Outside = 110
number_of Touching = 111
