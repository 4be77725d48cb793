-- `spread::scatter` meets its contract.
use Prim.Native.Nat.{◌+◌, ◌-◌, ◌*◌, ◌≤◌, ◌<◌}
use mathlib.Core.Path.{◌≡◌}
use lib.ListN.{length}
use Rattle.spread.specs.Spread.{Dealt}
use Rattle.spread.proofs.scatter.Given as goal

abbrev pub invariant-loop-off : goal.invariant-loop-off
invariant-loop-off l = (l.b ≤ l.room) × (l.off ≤ l.n) × (l.n + l.b * 32 ≤ l.off + l.room * 32) × (0 < l.off → 0 < l.b) × (length l.mem ≡ length l.initial.mem) × Dealt l.initial.mem l.mem l.room l.b l.off

abbrev pub decreases-loop-off : goal.decreases-loop-off
decreases-loop-off l = l.n - l.off
