-- `splice::narrow` meets its contract.
use Rattle.splice.specs.Splice.{Narrowed}
use Rattle.splice.proofs.narrow.Given as goal

abbrev pub invariant-loop-k : goal.invariant-loop-k
invariant-loop-k l = Narrowed l.initial.mem l.mem l.p l.k l.i l.by
