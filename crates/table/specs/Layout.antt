-- How a table lies in lent words: its ranges in blocks, as the crate blocks says, and how many words that takes.
use Rattle.std.specs.Prelude.{ℕ, ◌+◌, ◌*◌, ◌/◌, ◌≡◌, cond, List, [], ◌∷◌, leb, eqb, get_or}
use Rattle.blocks.specs.Blocks.{limit_of, top_of, starts_of, tags_of, Settled, Bounded}
use Rattle.table.specs.Row.{Tile}
use Rattle.table.specs.Table.{Table, Proper}

-- how many words a table for `limit` ranges takes; 0 where there is none for it
unfoldable pub words_for : ℕ → ℕ
words_for limit = cond (eqb limit 0) 0 (cond (leb limit 4096) (136 + (limit + 31) / 32 * 193) 0)

-- the row whose tiles' starts and tags are two lists
unfoldable pub row_of : List ℕ → List ℕ → List Tile
row_of [] ts = []
row_of (s ∷ ss) [] = []
row_of (s ∷ ss) (t ∷ ts) = record { start = s; tag = t } ∷ row_of ss ts

-- the row that the starts and tags in lent words are
unfoldable pub row_in : List ℕ → List Tile
row_in m = row_of (starts_of m) (tags_of m)

-- the words say what the table is
pub record Lies (m : List ℕ) (t : Table) : Type 0 where
  pub settled : Settled m
  pub bounded : Bounded m
  pub limit_is : limit_of m ≡ t.limit
  pub base_is : get_or m 2 0 ≡ t.base
  pub top_is : top_of m ≡ t.top
  pub row_is : row_in m ≡ t.row

-- the words hold the table
unfoldable pub Holds : List ℕ → Table → Type 0
Holds m t = Lies m t × Proper t
