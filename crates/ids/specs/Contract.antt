-- What each public function makes of a block of lent words, whatever it holds; and chains of such calls.
use Rattle.std.specs.Prelude.{◌≡◌, Bool, true, List, [], ◌∷◌, ◌⊎◌, ℕ, ◌+◌, ◌≤◌, ◌<◌, length, Option, Some, None, Result, Ok, Err}
use Rattle.ranges.specs.declared.Error.{Error}
use Rattle.ranges.specs.Align.{Decides}
use Rattle.ranges.specs.Count.{Count}
use Rattle.ids.specs.declared.Interval.{Interval}
use Rattle.ids.specs.State.{State, Within, Free, fresh}
use Rattle.ids.specs.Runs.{Operation, Does, after, Event}
use Rattle.ids.specs.Held.{Holds, Needs}

-- Making an allocator of the ids low to high in the block m answers r and leaves m': a fresh allocator, or what was there.
abbrev pub Makes : List ℕ → ℕ → ℕ → Result Unit Error → List ℕ → Type 0
Makes m low high (Ok tt) m' = (low ≤ high) × ((n : ℕ) × Needs low high n × (n ≤ length m)) × Holds m' (fresh low high)
Makes m low high (Err e) m' =
    (m' ≡ m)
    × (((e ≡ Error.InvalidRange) × (high < low))
    ⊎ ((e ≡ Error.NoRoom) × (low ≤ high) × ((n : ℕ) × Needs low high n × (length m < n))))

-- a refusal leaves the block word for word as it was
abbrev pub Kept : Result ℕ Error → List ℕ → List ℕ → Type 0
Kept (Ok i) m m' = Unit
Kept (Err e) m m' = m' ≡ m

-- The operation o on the block m answers r and leaves m': where m holds a state, r is the right answer and m' holds the state after it.
pub record Performs (m : List ℕ) (o : Operation) (r : Result ℕ Error) (m' : List ℕ) : Type 0 where
  pub kept : Kept r m m'
  pub right : (s : State) → Holds m s → Does s o r × Holds m' (after s o r)

-- calls on one block, one after the other, with their answers: from m to z
unfoldable pub Chain : List ℕ → List Event → List ℕ → Type 0
Chain m [] z = z ≡ m
Chain m (e ∷ es) z = (n : List ℕ) × Performs m e.asked e.answer n × Chain n es z

-- asked of the block m whether i is granted, the answer is r: true where i is an id of the interval that is granted now, and false where not
abbrev pub Tells : List ℕ → ℕ → Bool → Type 0
Tells m i r = (s : State) → Holds m s → Decides r (Within s i × (s.granted i ≡ true))

-- the ends of the interval that the block m is of and the lowest id that was never granted; or that m holds no state
abbrev pub Describes : List ℕ → Option Interval → Type 0
Describes m (Some i) = (s : State) → Holds m s → (i.low ≡ s.low) × (i.high ≡ s.high) × (i.next ≡ s.next)
Describes m None = (s : State) → Holds m s → ⊥

-- of the block m just n ids are free: of the numbers up to the highest id, n are ids of the interval that are not granted now
abbrev pub Leaves : List ℕ → ℕ → Type 0
Leaves m n = (s : State) → Holds m s → Count (Free s) (s.high + 1) n
