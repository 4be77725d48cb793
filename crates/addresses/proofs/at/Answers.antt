-- `addresses::at` meets its contract: what stands in the pool's table stands in the pool's row.
use Rattle.std.proofs.Common.{ℕ, List, Result, Ok, Err}
use Rattle.table.specs.declared.Stands.{Stands}
use Rattle.table.specs.declared.AtError.{AtError}
use Rattle.table.specs.declared.AtError.TheVariants.{Outside, NoTable}
use Rattle.table.specs.Contract as table
use Rattle.addresses.specs.Held.{table_of}
use Rattle.addresses.specs.Contract.{Shows}
use Rattle.addresses.proofs.at.Goals as goal

shown : (m : List ℕ) (a : ℕ) (x : Result Stands AtError) → table.Shows m a x → Shows m a x
unfolding table.Shows Shows
shown m a (Ok x) c = λ p h. c (table_of p) h.table
shown m a (Err Outside) c = λ p h. c (table_of p) h.table
shown m a (Err NoTable) c = λ p h. c (table_of p) h.table

pub returns : goal.returns
returns c = shown c.args.mem.now c.args.a c.at.result c.at.ensures
