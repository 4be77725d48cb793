-- `frame::seal_in` meets its contract: the head, its check, and the check of all.
use Rattle.std.proofs.Common.{arith, refl}
use Rattle.frame.proofs.FrameLaws.{headed_none, headed_more, headed_all, sealed}
use Rattle.frame.proofs.seal_in.Goals as goal

pub loop-i-init : goal.loop-i-init
loop-i-init c = headed_none _ _

pub loop-i-preserved : goal.loop-i-preserved
loop-i-preserved c = headed_more _ c.loop-i.i _ _ _ _ (omega arith) refl c.loop-i.invariant c.put.ensures

pub returns : goal.returns
returns c =
    let a = c.args.numbers in
    sealed c.args.kind a.first a.second a.third a.words _ _ _ _ (omega arith) (headed_all _ c.loop-i.i 6 _ _ (omega arith) c.loop-i.invariant) c.close.ensures c.close-2.ensures
