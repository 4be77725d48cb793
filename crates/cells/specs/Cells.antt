-- Where an address lies among starts.
use Rattle.std.specs.Prelude.{ℕ, ◌+◌, ◌≤◌, ◌<◌, ◌≡◌, Option, Some, None, List, length, get_or}

-- what one step of a search answers
pub record Stepped (x a lo hi r : ℕ) : Type 0 where
  pub up : x ≤ a → r ≡ hi
  pub down : a < x → r ≡ lo

-- r is below `to` and its number at most a, and the number `by` further on, if that is below `to`, is above a
pub record Passed (f : ℕ → ℕ) (a to by r : ℕ) : Type 0 where
  pub within : r < to
  pub low : f r ≤ a
  pub high : r + by < to → a < f (r + by)

-- r is an index whose start is a or below it, and the next one, if there is one, is above it
pub record Located (ss : List ℕ) (a r : ℕ) : Type 0 where
  pub within : r < length ss
  pub from : get_or ss r 0 ≤ a
  pub to : r + 1 < length ss → a < get_or ss (r + 1) 0

-- what `locate` answers: such an index; or the first start, if there is one, is above a
unfoldable pub Locates : List ℕ → ℕ → Option ℕ → Type 0
Locates ss a (Some r) = Located ss a r
Locates ss a None = 0 < length ss → a < get_or ss 0 0
