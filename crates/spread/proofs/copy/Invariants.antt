-- `spread::copy` meets its contract.
use Rattle.spread.specs.Spread.{Copied}
use Rattle.spread.proofs.copy.Given as goal

abbrev pub invariant-loop-i : goal.invariant-loop-i
invariant-loop-i l = Copied l.initial.mem l.mem l.from l.to l.i
