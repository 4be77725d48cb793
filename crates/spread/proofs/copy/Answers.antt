-- `spread::copy` meets its contract.
use native.Mathlib.Omega.{arith}
use Rattle.spread.proofs.Copies.{copied_none, copied_more}
use Rattle.spread.proofs.copy.Goals as goal

pub loop-i-init : goal.loop-i-init
loop-i-init c = copied_none _ _ _

pub loop-i-preserved : goal.loop-i-preserved
loop-i-preserved c = let l = c.loop-i in let st = c in let a = st.args in copied_more a.mem.now a.from a.to l.mem a.n l.i st.requires.0 (omega arith) (omega arith) l.invariant
