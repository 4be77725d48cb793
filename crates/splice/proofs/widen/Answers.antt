-- `splice::widen` meets its contract.
use mathlib.Core.Path.{◌≡◌}
use native.Mathlib.Omega.{arith}
use Rattle.splice.proofs.Shift.{widened_none, widened_turn}
use Rattle.splice.proofs.widen.Goals as goal

pub loop-k-init : goal.loop-k-init
loop-k-init c = let st = c in let a = st.args in (omega arith, widened_none a.mem.now a.p a.n a.by (omega arith) (omega arith))

pub loop-k-preserved : goal.loop-k-preserved
loop-k-preserved c = let l = c.loop-k in let st = c in let a = st.args in (omega arith, widened_turn a.mem.now a.p a.n a.by (omega arith) (omega arith) l.mem l.k (omega arith) (omega arith) l.invariant.1)

pub returns : goal.returns
returns c = let l = c.loop-k in let e : l.k ≡ c.args.i = omega arith in rw e at l.invariant.1
