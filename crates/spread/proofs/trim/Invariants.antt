-- `spread::trim` meets its contract.
use Rattle.spread.specs.Spread.{Trimmed}
use Rattle.spread.proofs.trim.Given as goal

abbrev pub invariant-loop-b : goal.invariant-loop-b
invariant-loop-b l = Trimmed l.initial.mem l.mem l.lo l.b
