-- A tile given back, in terms of a row.
use Rattle.std.specs.Prelude.{cond, List, [], ◌∷◌, eqb}
use Rattle.table.specs.Row.{Tile}

-- a tile that is made free, between what is before it and what is behind it: it melts into a free one before it
unfoldable pub glue : List Tile → Tile → List Tile → List Tile
glue [] t r = t ∷ r
glue (x ∷ []) t r = x ∷ cond (eqb x.tag 0) r (t ∷ r)
glue (x ∷ y ∷ pre) t r = x ∷ glue (y ∷ pre) t r
