-- `table::count` meets its contract.
use mathlib.Core.Path.{◌∙◌}
use lib.ListN.{length}
use Rattle.table.proofs.Lying.{count_row}
use Rattle.table.proofs.Asking.{says}
use Rattle.table.proofs.count.Goals as goal

pub returns : goal.returns
returns c = let m = c.args.mem.now in says m (λ t. length t.row) _ (λ s. c.word.ensures s.sound ∙ count_row m s)
