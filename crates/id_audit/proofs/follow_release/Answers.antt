-- `id_audit::follow_release` meets its contract: by the answer of the operation that goes on from the claim.
use Rattle.std.proofs.Common.{ap}
use Rattle.std.proofs.lemmas.Result.{err_from_is_err_and}
use Rattle.ids.specs.Runs.{Release}
use Rattle.id_audit.proofs.Claimed.{outcome, release_told, nothing_told}
use Rattle.id_audit.proofs.follow_release.Goals as goal

pub returns-in_err-free : goal.returns-in_err-free
returns-in_err-free c =
    let p = err_from_is_err_and c.from_residual.result c.from_residual.ensures.1 in
    rw (p.1, p.2) (release_told _ _ _ _ _ _ c.in-Ok.is (ap outcome c.in_err-free.was) c.free.ensures)

pub returns-in_ok-free : goal.returns-in_ok-free
returns-in_ok-free c = release_told _ _ _ _ _ _ c.in-Ok.is (ap outcome c.in_ok-free.was) c.free.ensures

pub returns-in_default : goal.returns-in_default
returns-in_default c = λ s i. nothing_told _ (Release i) _ _ c.in_default.is s
