-- `pool_audit::settle` meets its contract: the same answer is right; of another the steps give the verdict.
use Rattle.std.proofs.Common.{Ok, Err}
use Rattle.addresses.proofs.Equalities.{answer_same, answer_other}
use Rattle.pool_audit.proofs.Claimed.{settle_right, settle_wrong}
use Rattle.pool_audit.proofs.settle.Goals as goal

pub returns-then-eq : goal.returns-then-eq
returns-then-eq c = settle_right _ _ _ (answer_same _ _ c.if-eq.ensures)

pub returns-in-Ok : goal.returns-in-Ok
returns-in-Ok c = settle_wrong c.args.mem.now c.undo.new.mem c.follow.new.mem c.args.answer c.args.claim (Ok tt) (answer_other _ _ c.if-eq.ensures) c.undo.ensures c.in-Ok.ensures

pub returns-in-Err : goal.returns-in-Err
returns-in-Err c = settle_wrong c.args.mem.now c.undo.new.mem c.follow.new.mem c.args.answer c.args.claim (Err c.in-Err.e) (answer_other _ _ c.if-eq.ensures) c.undo.ensures c.in-Err.ensures
