-- A table: a pool, how many ranges it may hold, and its ranges as a row.
use Rattle.std.specs.Prelude.{ℕ, ◌+◌, ◌^◌, ◌≤◌, ◌<◌, List, [], ◌∷◌, length}
use Rattle.table.specs.Row.{Tile, Covers}

-- the pool's first address, the first one past its last, how many ranges, free and granted together, there may be, and the ranges
pub record Table : Type 0 where
  pub base : ℕ
  pub top : ℕ
  pub limit : ℕ
  pub row : List Tile

-- the same table with another row
abbrev pub with_row : Table → List Tile → Table
with_row t row = record { base = t.base; top = t.top; limit = t.limit; row = row }

-- the table of a pool of which nothing is granted: one free range, from `base` to `last`
abbrev pub fresh : ℕ → ℕ → ℕ → Table
fresh base last limit = record { base = base; top = last + 1; limit = limit; row = record { start = base; tag = 0 } ∷ [] }

-- what is so of each table that is held: its row covers the pool and is within the limit, which is 1 to 4,096, and the pool's addresses have 64 bits
pub record Proper (t : Table) : Type 0 where
  pub covers : Covers t.base t.top t.row
  pub room : length t.row ≤ t.limit
  pub some : 0 < t.limit
  pub most : t.limit ≤ 4096
  pub below : t.top ≤ 2 ^ 64
