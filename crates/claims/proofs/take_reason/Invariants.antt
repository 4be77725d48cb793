-- `claims::take_reason` meets its contract: the reasons that are left decide.
use mathlib.Core.Path.{◌≡◌}
use lib.ListN.{drop}
use Rattle.claims.specs.Claims.{reason_at}
use Rattle.claims.proofs.Reasons.{first_of}
use Rattle.claims.proofs.take_reason.Given as goal

abbrev pub invariant-loop-reason : goal.invariant-loop-reason
invariant-loop-reason l = first_of l.s l.at (drop l.reason-index l.reason-items) ≡ reason_at l.s l.at
