-- `pool_audit::follow` meets its contract: by what the operation that goes on from the claim returned.
use Rattle.std.proofs.Common.{Ok, sym, ap, subst}
use Rattle.std.proofs.lemmas.Result.{err_from_is_err_and}
use Rattle.addresses.specs.declared.Answer.{Answer}
use Rattle.pool_audit.specs.Steps.{Follows}
use Rattle.pool_audit.proofs.Claimed.{outcome, grant_told, release_told, follow_refusal}
use Rattle.pool_audit.proofs.follow.Goals as goal

pub returns-in_err-grant_just-in-Granted : goal.returns-in_err-grant_just-in-Granted
returns-in_err-grant_just-in-Granted c =
    let p = err_from_is_err_and c.from_residual.result c.from_residual.ensures.1 in
    rw (p.1, p.2) (grant_told _ _ _ _ _ _ c.in-Granted.is (ap outcome c.in_err-grant_just-in-Granted.was) c.grant_just.ensures)

pub returns-in_ok-grant_just-in-Granted : goal.returns-in_ok-grant_just-in-Granted
returns-in_ok-grant_just-in-Granted c = grant_told _ _ _ _ _ _ c.in-Granted.is (ap outcome c.in_ok-grant_just-in-Granted.was) c.grant_just.ensures

pub returns-in_err-free-in-Freed : goal.returns-in_err-free-in-Freed
returns-in_err-free-in-Freed c =
    let p = err_from_is_err_and c.from_residual-in_err-free-in-Freed.result c.from_residual-in_err-free-in-Freed.ensures.1 in
    rw (p.1, p.2) (release_told _ _ _ _ _ _ c.in-Freed.is (ap outcome c.in_err-free-in-Freed.was) c.free.ensures)

pub returns-in_ok-free-in-Freed : goal.returns-in_ok-free-in-Freed
returns-in_ok-free-in-Freed c = release_told _ _ _ _ _ _ c.in-Freed.is (ap outcome c.in_ok-free-in-Freed.was) c.free.ensures

pub returns-in-Refused : goal.returns-in-Refused
returns-in-Refused c = subst (λ (x : Answer). Follows c.args.mem.now x (Ok tt) c.args.mem.now) (sym c.in-Refused.is) (follow_refusal c.args.mem.now _)
