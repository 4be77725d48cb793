-- `id_audit::follow_grant` meets its contract: by the answer of the operation that goes on from the claim.
use Rattle.std.proofs.Common.{ap}
use Rattle.std.proofs.lemmas.Result.{err_from_is_err_and}
use Rattle.ids.specs.Runs.{Allocate}
use Rattle.id_audit.proofs.Claimed.{outcome, grant_told, nothing_told}
use Rattle.id_audit.proofs.follow_grant.Goals as goal

pub returns-in_err-take : goal.returns-in_err-take
returns-in_err-take c =
    let p = err_from_is_err_and c.from_residual.result c.from_residual.ensures.1 in
    rw (p.1, p.2) (grant_told _ _ _ _ _ _ c.in-Ok.is (ap outcome c.in_err-take.was) c.take.ensures)

pub returns-in_ok-take : goal.returns-in_ok-take
returns-in_ok-take c = grant_told _ _ _ _ _ _ c.in-Ok.is (ap outcome c.in_ok-take.was) c.take.ensures

pub returns-in_default : goal.returns-in_default
returns-in_default c = nothing_told _ Allocate _ _ c.in_default.is
