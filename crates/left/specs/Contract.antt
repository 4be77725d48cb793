-- What is left of a pool, said of its addresses and not of its table; and what `ask` answers.
use Rattle.std.specs.Prelude.{ℕ, ◌≡◌, List, Result, Ok, Err}
use Rattle.ranges.specs.declared.Error.{Error}
use Rattle.ranges.specs.Align.{Multiple}
use Rattle.ranges.specs.Count.{Count}
use Rattle.addresses.specs.Meaning.{State, Free, Fits, Greatest}
use Rattle.addresses.specs.Operations.{Pool}
use Rattle.addresses.specs.Held.{Holds}
use Rattle.left.specs.declared.Left.{Left}

-- n of the pool's addresses are free
abbrev pub FreeAddresses : State → ℕ → Type 0
FreeAddresses σ n = Count (Free σ) σ.top n

-- a window of `size` addresses fits somewhere, at alignment 1
abbrev pub FitsSomewhere : State → ℕ → Type 0
FitsSomewhere σ size = (a : ℕ) × Fits σ size (Multiple 1) a

-- the largest free range has n addresses: such a window fits, and no larger one does
abbrev pub LargestFree : State → ℕ → Type 0
LargestFree σ n = Greatest (FitsSomewhere σ) n

-- what `ask` answers of the block m: a block that holds a pool is never refused
unfoldable pub Tells : List ℕ → Result Left Error → Type 0
Tells m (Ok l) = (p : Pool) → Holds m p → FreeAddresses p.state l.free × LargestFree p.state l.largest
Tells m (Err e) = (e ≡ Error.NoState) × ((p : Pool) → Holds m p → ⊥)
