-- `loaded::Rows::fill` meets its contract. The invariant: the granted ones among the ranges passed are granted (`Filled`).
use Rattle.std.proofs.Common.{arith}
use Rattle.loaded.proofs.FillLaws.{filled_start, filled_step, filled_end}
use Rattle.loaded.proofs.Rows.fill.Goals as goal

pub loop-i-init : goal.loop-i-init
loop-i-init c = λ p v t n e h. filled_start _ p _ v t h

pub loop-i-preserved : goal.loop-i-preserved
loop-i-preserved c = let l = c.loop-i in λ p v t n e h. filled_step _ p _ _ l.i _ _ v n e (omega arith) c.place.ensures (l.invariant p v t n e h)

pub returns : goal.returns
returns c = λ p v t n e h. filled_end _ p _ _ (omega (arith, n)) (c.loop-i.invariant p v t n e h)
