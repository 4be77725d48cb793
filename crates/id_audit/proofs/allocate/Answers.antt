-- `id_audit::allocate` meets its contract: the right answer is asked first; a right claim is then done, and of another the steps give the verdict.
use Rattle.id_audit.proofs.Claimed.{granted_right, granted_wrong}
use Rattle.id_audit.proofs.Sames.{answer_same, answer_other}
use Rattle.id_audit.proofs.allocate.Goals as goal

pub returns-then-eq : goal.returns-then-eq
returns-then-eq c = granted_right _ _ _ _ _ c.lowest-answer.ensures (answer_same _ _ c.if-eq.ensures) c.allocate.ensures

pub returns-in-Ok : goal.returns-in-Ok
returns-in-Ok c = granted_wrong _ _ _ _ _ _ c.in-Ok.is c.lowest-answer.ensures (answer_other _ _ c.if-eq.ensures) c.follow_grant.ensures

pub returns-in-Err : goal.returns-in-Err
returns-in-Err c = granted_wrong _ _ _ _ _ _ c.in-Err.is c.lowest-answer.ensures (answer_other _ _ c.if-eq.ensures) c.follow_grant.ensures
