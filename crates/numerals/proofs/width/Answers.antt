-- `numerals::width` meets its contract: what is counted and what is left to count make up the whole (`Counting`). The measure is the rest.
use native.Mathlib.Nat.{div-lt_self}
use native.Mathlib.Omega.{arith}
use Rattle.numerals.proofs.Spelling.{counting_start, counting_step, counting_end}
use Rattle.numerals.proofs.width.Goals as goal

pub loop-rest-init : goal.loop-rest-init
loop-rest-init c = counting_start _ _ (omega arith) (omega arith)

pub loop-rest-smaller : goal.loop-rest-smaller
loop-rest-smaller c = div-lt_self (omega arith) (omega arith)

pub loop-rest-preserved : goal.loop-rest-preserved
loop-rest-preserved c = counting_step _ _ _ _ (omega arith) (omega arith) c.loop-rest.invariant

pub returns : goal.returns
returns c = counting_end _ _ _ _ (omega arith) c.loop-rest.invariant
