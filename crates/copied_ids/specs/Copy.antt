-- What copying an id allocator into another block does: m is the source, n the other block before, n' after.
use Rattle.std.specs.Prelude.{ℕ, ◌≤◌, ◌<◌, ◌≡◌, ◌⊎◌, List, length, get_or, Result, Ok, Err}
use Rattle.ranges.specs.declared.Error.{Error}
use Rattle.ids.specs.State.{State}
use Rattle.ids.specs.Held.{Holds, Needs}

-- the first k words are the same
abbrev pub Begins : ℕ → List ℕ → List ℕ → Type 0
Begins k m n = (i : ℕ) → i < k → get_or n i 0 ≡ get_or m i 0

-- the block is as long as the state's interval needs, or it is shorter
abbrev pub Long : State → List ℕ → Type 0
Long s n = (k : ℕ) × Needs s.low s.high k × (k ≤ length n)

abbrev pub Short : State → List ℕ → Type 0
Short s n = (k : ℕ) × Needs s.low s.high k × (length n < k)

-- done: the block is long enough and holds the state that the source holds, if it holds one
-- no room: the block is too short for it; no state: the source holds none; the block is as it was
unfoldable pub Copies : List ℕ → Result Unit Error → List ℕ → List ℕ → Type 0
Copies m (Ok tt) n n' = (s : State) → Holds m s → Long s n × Holds n' s
Copies m (Err e) n n' =
    (n' ≡ n)
    × (((e ≡ Error.NoState) × ((s : State) → Holds m s → ⊥))
    ⊎ ((e ≡ Error.NoRoom) × ((s : State) → Holds m s → Short s n)))
