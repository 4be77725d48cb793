-- `id_audit::settle` meets its contract: the same answer is right; of another the steps give the verdict.
use Rattle.id_audit.proofs.Claimed.{settle_right, settle_wrong}
use Rattle.id_audit.proofs.Sames.{answer_same, answer_other}
use Rattle.id_audit.proofs.settle.Goals as goal

pub returns-then-eq : goal.returns-then-eq
returns-then-eq c = settle_right _ _ _ (answer_same _ _ c.if-eq.ensures)

pub returns-in-Ok : goal.returns-in-Ok
returns-in-Ok c = settle_wrong _ _ _ _ _ _ _ c.in-Ok.is (answer_other _ _ c.if-eq.ensures) c.undo.ensures c.follow_release.ensures

pub returns-in-Err : goal.returns-in-Err
returns-in-Err c = settle_wrong _ _ _ _ _ _ _ c.in-Err.is (answer_other _ _ c.if-eq.ensures) c.undo.ensures c.follow_release.ensures
