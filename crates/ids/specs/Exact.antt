-- A question that grants nothing, and a grant of just one id: m is the block before, m' the block after.
use Rattle.std.specs.Prelude.{◌≡◌, true, ◌⊎◌, List, ℕ, Result, Ok, Err}
use Rattle.ranges.specs.declared.Error.{Error}
use Rattle.ids.specs.State.{State, Within, Free, Allocates, allocated}
use Rattle.ids.specs.Held.{Holds}
use Rattle.ids.specs.Contract.{Kept}

-- asked of the block m, r is what `allocate` would answer
abbrev pub Asks : List ℕ → Result ℕ Error → Type 0
Asks m r = (s : State) → Holds m s → Allocates s r

-- granting just i: it is free; else it is refused, with the first of these reasons that is so
abbrev pub Just : State → ℕ → Result ℕ Error → Type 0
Just s i (Ok k) = (k ≡ i) × Free s i
Just s i (Err e) =
    ((e ≡ Error.OutOfRange) × (Within s i → ⊥)) ⊎ ((e ≡ Error.ResourceNotAvailable) × Within s i × (s.granted i ≡ true))

-- what it does to a block
pub record Takes (m : List ℕ) (i : ℕ) (r : Result ℕ Error) (m' : List ℕ) : Type 0 where
  pub kept : Kept r m m'
  pub right : (s : State) → Holds m s → Just s i r × Holds m' (allocated s r)
