-- What the functions that only read answer.
use Rattle.std.specs.Prelude.{ℕ, ◌+◌, ◌≤◌, ◌<◌, ◌≡◌, Option, Some, None, List, get_or}
use Rattle.cells.specs.Cells.{Located}
use Rattle.blocks.specs.Blocks.{blocks_of, size_at, starts_at, past_at, starts_of, index, Sound, Settled}

-- what `header` answers
unfoldable pub Headed : List ℕ → Option ℕ → Type 0
Headed m (Some nb) = Sound m × (nb ≡ blocks_of m)
Headed m None = Sound m → ⊥

-- range i of block b is there, and the next one starts past address 0
pub record There (m : List ℕ) (b i : ℕ) : Type 0 where
  pub block : b < blocks_of m
  pub tile : i < size_at b m
  pub rises : 0 < get_or (starts_at b m) (i + 1) (past_at b m)

-- what `find` answers: the range that starts at a or last below it; or the first one starts above a
unfoldable pub Finds : List ℕ → ℕ → Option (ℕ × ℕ) → Type 0
Finds m a (Some (b, i)) = There m b i × (get_or (starts_at b m) i 0 ≤ a) × (Settled m → Located (starts_of m) a (index b i m))
Finds m a None = Settled m → a < get_or (starts_of m) 0 0
