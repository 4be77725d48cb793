-- What may be wrong with the words of a frame that are no id allocator's, and at which byte. w are the words: the interval and the next new id are words 2, 3 and 4.
use Rattle.std.specs.Prelude.{ℕ, ◌+◌, ◌*◌, ◌^◌, ◌≤◌, ◌<◌, ◌≡◌, ◌⊎◌}
use Rattle.frame.specs.declared.Flaw.{Flaw}
use Rattle.frame.specs.declared.Flaw.TheVariants.{Short, Kind, Version, Check, Bounds, Limit, Count, State, Order, Outside, Touching}

unfoldable pub Misfit : (ℕ → ℕ) → Flaw → ℕ → Type 0
Misfit w Bounds at = ((at ≡ 24) × ((w 3 < w 2) ⊎ (2 ^ 32 ≤ w 3))) ⊎ ((at ≡ 32) × ((w 4 < w 2) ⊎ (w 3 + 1 < w 4)))
-- a freed id below the lowest, or not above the one before; one that is not below the next new id
Misfit w Order at = (i : ℕ) × (((i < w 5) × (at ≡ 8 * (7 + i)) × (w (7 + i) < w 2)) ⊎ ((i + 1 < w 5) × (at ≡ 8 * (8 + i)) × (w (8 + i) ≤ w (7 + i))))
Misfit w Outside at = (i : ℕ) × (i < w 5) × (at ≡ 8 * (7 + i)) × (w 4 ≤ w (7 + i))
-- the other flaws are a frame's or a pool's
Misfit w Short at = ⊥
Misfit w Kind at = ⊥
Misfit w Version at = ⊥
Misfit w Check at = ⊥
Misfit w Limit at = ⊥
Misfit w Count at = ⊥
Misfit w State at = ⊥
Misfit w Touching at = ⊥
