-- `splice::widen` meets its contract.
use Prim.Native.Nat.{◌≤◌}
use Rattle.splice.specs.Splice.{Widened}
use Rattle.splice.proofs.widen.Given as goal

abbrev pub invariant-loop-k : goal.invariant-loop-k
invariant-loop-k l = (l.i ≤ l.k) × Widened l.initial.mem l.mem l.p l.n l.k l.by
