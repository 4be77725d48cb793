-- `table::last` meets its contract.
use Prim.Native.Nat.{ℕ, ◌+◌}
use mathlib.Core.Path.{ap}
use Rattle.table.proofs.Asking.{says}
use Rattle.table.proofs.last.Goals as goal

pub returns : goal.returns
returns c = let m = c.args.mem.now in says m (λ t. t.top) _ (λ s. ap (λ (x : ℕ). x + 1) (c.word.ensures s.sound))
