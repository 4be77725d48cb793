-- What an exact request that is in order gets, a line each: nothing else is answered.
use Rattle.std.specs.Prelude.{◌≡◌, ℕ, ◌+◌, ◌-◌, ◌<◌}
use Rattle.ranges.specs.declared.Error.TheVariants.{Overflow, ResourceNotAvailable, NoRoom}
use Rattle.addresses.specs.declared.Answer.{Answer}
use Rattle.addresses.specs.declared.Answer.TheVariants.{Granted, Refused}
use Rattle.addresses.specs.Meaning.{State, Free, window}
use Rattle.addresses.specs.Operations.{M, Pool, HasRoom}
use Rattle.addresses.specs.Steps.{Clear}

-- the address is free, and a range of `size` addresses from it would end past the highest address
abbrev pub PassesM : State → ℕ → ℕ → Type 0
PassesM σ at size = Free σ at × (M < at + size - 1)

-- granted: each of its addresses is free, and the table has room
-- no room: each of its addresses is free, and the table has no room
-- overflow: its first address is free, and its end would pass the highest address
-- not available: one of its addresses is not free, and it is no overflow
unfoldable pub Exactly : Pool → ℕ → ℕ → Answer → Type 0
Exactly p at size (Granted r) = Clear p.state at size × HasRoom p (window at size) × (r ≡ window at size)
Exactly p at size (Refused NoRoom) = Clear p.state at size × (¬ HasRoom p (window at size))
Exactly p at size (Refused Overflow) = PassesM p.state at size
Exactly p at size (Refused ResourceNotAvailable) = (¬ Clear p.state at size) × (¬ PassesM p.state at size)
-- these are all
Exactly _ _ _ _ = ⊥
