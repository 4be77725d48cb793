-- `numerals::width` meets its contract: what is counted and what is left to count make up the whole (`Counting`). The measure is the rest.
use Rattle.numerals.proofs.Spelling.{Counting}
use Rattle.numerals.proofs.width.Given as goal

abbrev pub invariant-loop-rest : goal.invariant-loop-rest
invariant-loop-rest l = Counting l.base l.n l.k l.rest

abbrev pub decreases-loop-rest : goal.decreases-loop-rest
decreases-loop-rest l = l.rest
