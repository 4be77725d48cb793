-- `splice::narrow` meets its contract.
use mathlib.Core.Path.{◌≡◌}
use native.Mathlib.Omega.{arith}
use Rattle.splice.proofs.Shift.{narrowed_none, narrowed_turn}
use Rattle.splice.proofs.narrow.Goals as goal

pub loop-k-init : goal.loop-k-init
loop-k-init c = let st = c in let a = st.args in narrowed_none a.mem.now a.p a.i a.by (omega arith)

pub loop-k-preserved : goal.loop-k-preserved
loop-k-preserved c = let l = c.loop-k in let st = c in let a = st.args in narrowed_turn a.mem.now a.p a.i a.by (omega arith) l.mem l.k (omega arith) (omega arith) l.invariant

pub returns : goal.returns
returns c = let l = c.loop-k in let e : l.k ≡ c.args.end = omega arith in rw e at l.invariant
