-- `table::word` meets its contract.
use native.Mathlib.Omega.{arith}
use Rattle.table.proofs.Cuts.{good_head, bad_head}
use Rattle.table.proofs.word.Goals as goal

pub bounds-mem-i : goal.bounds-mem-i
bounds-mem-i c = let g = good_head c.args.mem.now c.header.ensures c.in-Some.is in omega (arith, g.0.long, g.0.used, g.0.one)

pub returns-in-None : goal.returns-in-None
returns-in-None c = λ s. absurd (bad_head c.args.mem.now c.header.ensures c.in-None.is s)
