-- `copied_ids::put` meets its contract: one word more is the source's (`put_more`).
use Rattle.std.proofs.Common.{arith}
use Rattle.copied_ids.proofs.CopyLaws.{put_more}
use Rattle.copied_ids.proofs.put.Goals as goal

pub loop-k-init : goal.loop-k-init
loop-k-init c = λ i l. absurd (omega arith)

pub loop-k-preserved : goal.loop-k-preserved
loop-k-preserved c =
    let l = c.loop-k in
    put_more c.args.src.now l.dst l.k (omega arith) l.invariant

pub returns : goal.returns
returns c = record { long = c.loop-k.auto.dst; begins = λ i l. c.loop-k.invariant i (omega arith) }
