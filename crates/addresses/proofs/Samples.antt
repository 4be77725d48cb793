-- A pool of 16 addresses from 16 on, with the ranges 20 to 23 and 28 to 28 granted: what the definitions say of it, by computing.
use Rattle.std.proofs.Common.{◌≡◌, List, [], ◌∷◌, refl, arith}
use mathlib.Core.Option.{none, some}
use Rattle.table.specs.Row.{Tile, lowest, highest, cut, melt}
use Rattle.addresses.specs.Meaning.{State, Ordered, Sound, window, granting, releasing, row_of}
use Rattle.table.specs.Multiples.{up, below}
use Rattle.addresses.proofs.Moves.{free, held}

abbrev pool : State
pool = record { base = 16; top = 32; granted = record { start = 20; end = 23 } ∷ record { start = 28; end = 28 } ∷ [] }

abbrev row : List Tile
row = free 16 ∷ held 20 ∷ free 24 ∷ held 28 ∷ free 29 ∷ []

pool_sound : Sound pool
unfolding Ordered
pool_sound = record { some = omega arith; ordered = omega arith }

pool_row : row_of pool ≡ row
unfolding row_of
pool_row = refl

-- 3 addresses at a multiple of 4, from below and from above; 4 at a multiple of 8; 4 at a multiple of 32; 5 at any
samples : (lowest 32 3 (up 4) row ≡ some 16) × (highest 32 3 (below 4) row ≡ some 24) × (lowest 32 3 (up 1) row ≡ some 16) × (highest 32 3 (below 1) row ≡ some 29) × (highest 32 4 (below 8) row ≡ some 24) × (lowest 32 4 (up 32) row ≡ none) × (highest 32 5 (below 1) row ≡ none)
unfolding lowest highest up below
samples = (refl, refl, refl, refl, refl, refl, refl)

-- a window in the middle of a gap, one that fills its gap, and a give-back between two gaps
moves : (cut 32 25 2 1 row ≡ free 16 ∷ held 20 ∷ free 24 ∷ held 25 ∷ free 27 ∷ held 28 ∷ free 29 ∷ []) × (cut 32 29 3 1 row ≡ free 16 ∷ held 20 ∷ free 24 ∷ held 28 ∷ held 29 ∷ []) × (melt 28 row ≡ free 16 ∷ held 20 ∷ free 24 ∷ [])
unfolding cut melt
moves = (refl, refl, refl)

states : (row_of (granting pool (window 29 3)) ≡ free 16 ∷ held 20 ∷ free 24 ∷ held 28 ∷ held 29 ∷ []) × (row_of (releasing pool 28) ≡ free 16 ∷ held 20 ∷ free 24 ∷ [])
unfolding row_of granting releasing
states = (refl, refl)
