-- `spread::widest` meets its contract.
use Prim.Native.Nat.{◌-◌}
use mathlib.Core.Path.{◌≡◌}
use native.Mathlib.Omega.{arith}
use lib.ListN.{length}
use Rattle.spread.proofs.Wide.{spans_none, spans_more, spans_all, within_none}
use Rattle.spread.proofs.widest.Goals as goal

pub returns-then-n-eq0 : goal.returns-then-n-eq0
returns-then-n-eq0 c = within_none _ _ _ _ (omega arith)

pub loop-i-init : goal.loop-i-init
loop-i-init c = spans_none _ _ _

pub loop-i-preserved : goal.loop-i-preserved
loop-i-preserved c = let l = c.loop-i in spans_more _ _ l.w c.max-w.result c.likely.result l.i l.invariant (omega arith) (omega arith) c.likely.ensures

pub returns : goal.returns
returns c =
    let l = c.loop-i in
    let q : l.i ≡ length c.args.starts.now - 1 = omega arith in
    spans_all _ _ l.w c.saturating_sub.result c.reach.result c.max.result c.args.last (omega arith) (rw q at l.invariant) (omega arith) (omega arith) (omega arith) c.reach.ensures
