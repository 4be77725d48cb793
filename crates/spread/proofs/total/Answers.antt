-- `spread::total` meets its contract.
use native.Mathlib.Omega.{arith}
use Rattle.blocks.proofs.Parts.{sizes_snoc, fits}
use Rattle.spread.proofs.Spreads.{sizes_none}
use Rattle.spread.proofs.total.Goals as goal

pub loop-b-init : goal.loop-b-init
loop-b-init c = let st = c in (omega arith, sizes_none st.args.mem.now)

pub loop-b-preserved : goal.loop-b-preserved
loop-b-preserved c = let st = c in let l = c.loop-b in (omega (arith, fits st.args.mem.now l.b), omega (arith, l.invariant.1, sizes_snoc l.b st.args.mem.now))
