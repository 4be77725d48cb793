-- `spread::widest` meets its contract.
use Rattle.spread.proofs.Wide.{Spans}
use Rattle.spread.proofs.widest.Given as goal

abbrev pub invariant-loop-i : goal.invariant-loop-i
invariant-loop-i l = Spans l.starts l.tags l.w l.i
