-- `spread::gather` meets its contract.
use Prim.Native.Nat.{◌*◌, ◌≤◌}
use mathlib.Core.Path.{◌≡◌}
use lib.ListN.{length}
use Rattle.spread.specs.Spread.{Gathered}
use Rattle.spread.proofs.gather.Given as goal

abbrev pub invariant-loop-b : goal.invariant-loop-b
invariant-loop-b l = (l.off ≤ l.room * 32) × (length l.mem ≡ length l.initial.mem) × Gathered l.initial.mem l.mem l.room l.b l.off
