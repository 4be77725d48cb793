-- `id_audit::free` meets its contract: the operation, then the verdict.
use Rattle.id_audit.proofs.Claimed.{audited}
use Rattle.id_audit.proofs.free.Goals as goal

pub returns : goal.returns
returns c = audited c.args.mem.now c.free-answer.new.mem c.settle.new.mem _ c.free-answer.result c.args.claim c.settle.result c.free-answer.ensures c.settle.ensures
