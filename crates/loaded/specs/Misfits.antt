-- What may be wrong with the words of a frame that are no pool's, and at which byte. w are the words: base, last address and limit are words 2, 3 and 4.
use Rattle.std.specs.Prelude.{◌≡◌, ℕ, ◌+◌, ◌-◌, ◌*◌, ◌%◌, ◌^◌, ◌<◌, ◌≤◌, ◌⊎◌, ◌≢◌}
use Rattle.frame.specs.declared.Flaw.{Flaw}
use Rattle.frame.specs.declared.Flaw.TheVariants.{Short, Kind, Version, Check, Bounds, Limit, Count, State, Order, Outside, Touching}

-- one of the ranges that the frame counts starts at word k
abbrev pub RangeAt : (ℕ → ℕ) → ℕ → Type 0
RangeAt w k = (i : ℕ) × (k ≡ 7 + 2 * i) × (2 * i < w 5)

unfoldable pub Misfit : (ℕ → ℕ) → Flaw → ℕ → Type 0
Misfit w Bounds at = (at ≡ 24) × ((w 3 < w 2) ⊎ (w 3 ≡ w 2 + (2 ^ 64 - 1)))
Misfit w Limit at = (at ≡ 32) × (4096 < w 4)
Misfit w Count at = (at ≡ 40) × ((w 5 % 2 ≢ 0) ⊎ ((w 5 < 2) ⊎ (2 * w 4 < w 5)))
-- a state that is neither 0 nor 1; a range that does not start where it is to; one past the last address; two free ones that touch
Misfit w State at = (k : ℕ) × RangeAt w k × (at ≡ 8 * (k + 1)) × (1 < w (k + 1))
Misfit w Order at = ((at ≡ 56) × (w 7 ≢ w 2)) ⊎ ((k : ℕ) × RangeAt w k × (at ≡ 8 * (k + 2)) × (w (k + 2) ≤ w k))
Misfit w Outside at = (k : ℕ) × RangeAt w k × (at ≡ 8 * k) × (w 3 < w k)
Misfit w Touching at = (k : ℕ) × RangeAt w k × (at ≡ 8 * (k + 2)) × (w (k + 1) ≡ 0) × (w (k + 3) ≡ 0)
-- the other flaws are a frame's
Misfit w Short at = ⊥
Misfit w Kind at = ⊥
Misfit w Version at = ⊥
Misfit w Check at = ⊥
