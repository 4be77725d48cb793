-- `table::limit` meets its contract.
use Rattle.table.proofs.Asking.{says}
use Rattle.table.proofs.limit.Goals as goal

pub returns : goal.returns
returns c = let m = c.args.mem.now in says m (λ t. t.limit) _ (λ s. c.word.ensures s.sound)
