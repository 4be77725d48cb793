-- `spread::total` meets its contract.
use Prim.Native.Nat.{◌*◌, ◌≤◌}
use mathlib.Core.Path.{◌≡◌}
use Rattle.blocks.specs.Blocks.{sizes}
use Rattle.spread.proofs.total.Given as goal

abbrev pub invariant-loop-b : goal.invariant-loop-b
invariant-loop-b l = (l.s ≤ l.b * 64) × (sizes 0 l.b l.mem ≡ l.s)
