-- `ids_run::grants` is safe. The invariant: at most one grant a turn is counted.
use Rattle.std.proofs.Common.{◌≤◌}
use Rattle.ids_run.proofs.grants.Given as goal

abbrev pub invariant-loop-k : goal.invariant-loop-k
invariant-loop-k l = l.good ≤ l.k
