-- What the private steps of `allocate` and `free` answer: m is the block before, m' the block after.
use Rattle.std.specs.Prelude.{◌≡◌, ℕ, ◌+◌, ◌<◌, ◌≤◌, List, Result, Ok, Err}
use Rattle.ranges.specs.declared.Error.{Error}
use Rattle.ranges.specs.declared.Error.TheVariants.{Overflow, ResourceNotAvailable, InvalidAlignment, InvalidSize, NoRoom, NoState}
use Rattle.ranges.specs.declared.Constraint.{Constraint}
use Rattle.table.specs.declared.AtError.{AtError}
use Rattle.table.specs.declared.AtError.TheVariants as at
use Rattle.table.specs.declared.ChangeError.{ChangeError}
use Rattle.table.specs.declared.ChangeError.TheVariants as change
use Rattle.table.specs.declared.PlaceError.{PlaceError}
use Rattle.table.specs.declared.PlaceError.TheVariants as place
use Rattle.addresses.specs.declared.Answer.{Answer}
use Rattle.addresses.specs.declared.Answer.TheVariants.{Granted, Refused}
use Rattle.addresses.specs.Meaning.{State, Free, window}
use Rattle.addresses.specs.Operations.{Pool, next, HasRoom, Allocates}
use Rattle.addresses.specs.Held.{Holds}
use Rattle.addresses.specs.Contract.{Kept}

-- why a request is refused for which the table has no place
abbrev pub why_no_place : PlaceError → Error
why_no_place place.Nowhere = ResourceNotAvailable
why_no_place place.Unfit = InvalidAlignment
why_no_place place.NoTable = NoState

-- why an operation is refused for which the table was not changed
abbrev pub why_unchanged : ChangeError → Error
why_unchanged change.Absent = ResourceNotAvailable
why_unchanged change.Full = NoRoom
why_unchanged change.Unfit = InvalidSize
why_unchanged change.NoTable = NoState

-- why an address is refused at which no range stands
abbrev pub why_not_there : AtError → Error
why_not_there at.Outside = ResourceNotAvailable
why_not_there at.NoTable = NoState

-- the `size` addresses from a are free
abbrev pub Clear : State → ℕ → ℕ → Type 0
Clear σ a size = (x : ℕ) → a ≤ x → x < a + size → Free σ x

-- what granting the `size` addresses from a answers
unfoldable pub Cuts : Pool → ℕ → ℕ → Answer → Type 0
Cuts p a size (Granted r) = Clear p.state a size × HasRoom p (window a size) × (r ≡ window a size)
Cuts p a size (Refused NoRoom) = Clear p.state a size × (¬ HasRoom p (window a size))
Cuts p a size (Refused ResourceNotAvailable) = ¬ Clear p.state a size
-- nothing else is answered
Cuts _ _ _ _ = ⊥

-- and does to the block
pub record Grants (m : List ℕ) (a size : ℕ) (x : Answer) (m' : List ℕ) : Type 0 where
  pub kept : Kept x m m'
  pub right : (p : Pool) → Holds m p → Cuts p a size x × Holds m' (next p x)

-- where a request that is in order is to start: what granting its addresses from there answers is the request's answer; or why it is refused
unfoldable pub Places : List ℕ → Constraint → Result ℕ Error → Type 0
unfolding Cuts
Places m q (Ok a) = (p : Pool) (x : Answer) → Holds m p → Cuts p a q.size x → Allocates p q x
Places m q (Err e) = (p : Pool) → Holds m p → Allocates p q (Refused e)

-- why a window from a that would end past the highest address is refused
unfoldable pub PastTheEnd : Pool → ℕ → Error → Type 0
PastTheEnd p a Overflow = Free p.state a
PastTheEnd p a ResourceNotAvailable = ¬ Free p.state a
-- no other reason is given
PastTheEnd _ _ _ = ⊥
