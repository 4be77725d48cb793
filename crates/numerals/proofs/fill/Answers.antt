-- `numerals::fill` meets its contract: the digits that are left to write and those behind them are the whole text.
use native.Mathlib.Omega.{arith}
use Rattle.numerals.proofs.Storing.{filling_start, filling_step}
use Rattle.numerals.proofs.fill.Goals as goal

pub loop-i-init : goal.loop-i-init
loop-i-init c = filling_start _ _ _ (omega arith)

pub loop-i-preserved : goal.loop-i-preserved
loop-i-preserved c = filling_step _ _ _ _ _ _ _ (omega arith) c.glyph.ensures c.loop-i.invariant
