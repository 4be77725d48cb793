-- That a block of lent words holds a pool.
use Rattle.std.specs.Prelude.{ℕ, List}
use Rattle.table.specs.Table.{Table}
use Rattle.table.specs.Held as table
use Rattle.addresses.specs.Meaning.{row_of}
use Rattle.addresses.specs.Operations.{Pool}
use Rattle.addresses.specs.Runs.{Valid}

-- the table of a pool: its row is that of the granted ranges, and nothing else
abbrev pub table_of : Pool → Table
table_of p = record { base = p.state.base; top = p.state.top; limit = p.limit; row = row_of p.state }

-- the block m holds the pool p
pub record Holds (m : List ℕ) (p : Pool) : Type 0 where
  pub table : table.Holds m (table_of p)
  pub valid : Valid p
