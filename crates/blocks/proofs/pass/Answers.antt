-- `blocks::pass` meets its contract.
use native.Mathlib.Omega.{arith}
use Rattle.cells.proofs.Strides.{pass_start, pass_step, pass_end}
use Rattle.blocks.proofs.pass.Goals as goal

pub loop-k-init : goal.loop-k-init
loop-k-init c = let st = c in pass_start _ _ _ _ st.args.from st.requires.0 st.requires.2 st.requires.5

pub loop-k-preserved : goal.loop-k-preserved
loop-k-preserved c = let l = c.loop-k in pass_step _ _ _ _ l.k l.last c.step-last.result (omega arith) (omega arith) l.invariant c.step-last.ensures

pub returns : goal.returns
returns c = let l = c.loop-k in pass_end _ _ _ _ l.k l.last (omega arith) l.invariant
