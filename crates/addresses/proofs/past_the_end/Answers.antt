-- `addresses::past_the_end` meets its contract: what stands at the address says whether it is free.
use Rattle.addresses.proofs.ReleaseLaws.{past_free, past_held, past_absent}
use Rattle.addresses.proofs.past_the_end.Goals as goal

pub returns-in-Ok : goal.returns-in-Ok
returns-in-Ok c = past_free c.args.mem.now c.args.a _ c.in-Ok.ensures c.if-stands-eq0.true

pub returns-in-Ok-2 : goal.returns-in-Ok-2
returns-in-Ok-2 c = past_held c.args.mem.now c.args.a _ c.in-Ok.ensures c.if-stands-eq0.false

pub returns-in-Err : goal.returns-in-Err
returns-in-Err c = rw c.not_there.ensures (past_absent c.args.mem.now c.args.a _ c.in-Err.ensures)
