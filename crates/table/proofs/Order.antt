-- In a row that covers its pool the starts rise, so that comparing starts is enough to tell one range from another. Assumes nothing.
use Prim.Native.Nat.{ℕ, zero, suc, ◌≤◌, ◌<◌}
use mathlib.Core.Path.{◌≡◌, sym, subst}
use mathlib.Core.List.{List, [], ◌∷◌, ◌++◌}
use native.Mathlib.Omega.{arith}
use native.Mathlib.Decide.{dec_lt}
use lib.ListN.{length, get_or}
use Rattle.table.specs.Row.{Tile, past, Covers}

-- tile j of a row
abbrev pub tile_at : List Tile → ℕ → Tile
tile_at row j = get_or row j (record { start = 0; tag = 0 })

-- the first tile starts with the pool, each below the top
pub first_start : (top from : ℕ) (t : Tile) (row : List Tile) → Covers from top (t ∷ row) → t.start ≡ from
unfolding Covers
first_start top from t [] c = c.0
first_start top from t (u ∷ row) c = c.0

pub covers_below : (top from : ℕ) (row : List Tile) → Covers from top row → from < top
unfolding Covers
covers_below top from [] c = absurd c
covers_below top from (t ∷ []) c = c.1
covers_below top from (t ∷ u ∷ row) c = omega (arith, c.1, covers_below top u.start (u ∷ row) c.3)

-- what follows the first tile covers the rest, where there is any
pub covers_tail : (top from : ℕ) (t : Tile) (row : List Tile) → Covers from top (t ∷ row) → from < past row top
unfolding Covers past
covers_tail top from t [] c = c.1
covers_tail top from t (u ∷ row) c = c.1

module _ (top : ℕ) (t : Tile) (post : List Tile) where
  -- no tile starts below the first
  pub start_ge : (pre : List Tile) (from : ℕ) → Covers from top (pre ++ t ∷ post) → from ≤ t.start
  unfolding Covers
  start_ge [] from c = omega (arith, first_start top from t post c)
  start_ge (x ∷ []) from c = omega (arith, c.1)
  start_ge (x ∷ y ∷ pre) from c = omega (arith, c.1, start_ge (y ∷ pre) y.start c.3)

  -- what stands from a tile on covers the addresses from its start on
  pub covers_from : (pre : List Tile) (from : ℕ) → Covers from top (pre ++ t ∷ post) → Covers t.start top (t ∷ post)
  unfolding Covers
  covers_from [] from c = subst (λ (x : ℕ). Covers x top (t ∷ post)) (sym (first_start top from t post c)) c
  covers_from (x ∷ []) from c = c.3
  covers_from (x ∷ y ∷ pre) from c = covers_from (y ∷ pre) y.start c.3

-- the starts of such a row rise
pub rising : (top from : ℕ) (row : List Tile) → Covers from top row → (j k : ℕ) → j < k → k < length row → (tile_at row j).start < (tile_at row k).start
unfolding Covers
rising top from [] c j k h l = absurd (omega arith)
rising top from (t ∷ []) c j k h l = absurd (omega arith)
rising top from (t ∷ u ∷ r) c j zero h l = absurd (omega arith)
rising top from (t ∷ u ∷ r) c zero (suc zero) h l = omega (arith, c.0, c.1)
rising top from (t ∷ u ∷ r) c zero (suc (suc k)) h l = omega (arith, c.0, c.1, rising top u.start (u ∷ r) c.3 0 (suc k) (omega arith) (omega arith))
rising top from (t ∷ u ∷ r) c (suc j) (suc k) h l = rising top u.start (u ∷ r) c.3 j k (omega arith) (omega arith)

-- so two tiles with one start are one tile
pub starts_enough : (top from : ℕ) (row : List Tile) → Covers from top row → (j k : ℕ) → j < length row → k < length row → (tile_at row j).start ≡ (tile_at row k).start → j ≡ k
starts_enough top from row c j k hj hk e =
    elim (dec_lt j k) [
      | yes l ↦ absurd (omega (arith, rising top from row c j k l hk))
      | no n ↦ elim (dec_lt k j) [ yes l ↦ absurd (omega (arith, rising top from row c k j l hj)) | no o ↦ omega arith ]
    ]
