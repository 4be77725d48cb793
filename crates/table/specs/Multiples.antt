-- Rounding to a multiple of k, for any k above 0: the two functions that the searches compute with.
use Rattle.std.specs.Prelude.{ℕ, ◌+◌, ◌-◌, ◌*◌, ◌/◌}
use Rattle.std.proofs.Math.Option.{Option, some}

-- the greatest multiple of k that is not above a
unfoldable pub down : ℕ → ℕ → ℕ
down k a = a / k * k

-- the least multiple of k that is not below a
unfoldable pub up : ℕ → ℕ → ℕ
up k a = (a + (k - 1)) / k * k

-- the greatest allowed start that is not above a: a multiple there always is
unfoldable pub below : ℕ → ℕ → Option ℕ
unfolding down
below k a = some (down k a)
