-- What becomes of what a line wants: m is the block before, m' the block after.
use Rattle.std.specs.Prelude.{ℕ, ◌≡◌, List, Result}
use Rattle.ranges.specs.declared.Error.{Error}
use Rattle.addresses.specs.declared.Answer.{Answer}
use Rattle.addresses.specs.Contract as pools
use Rattle.ids.specs.Contract as ids
use Rattle.pool_audit.specs.Verdicts as pool_audit
use Rattle.id_audit.specs.Verdicts as id_audit
use Rattle.replay.specs.declared.Outcome.{Outcome}
use Rattle.replay.specs.Wanted.{nothing, asked, claimed, OfPool, OfIds}

-- on a pool: an operation is performed, a claim is judged, and where nothing is wanted the block is as it was
abbrev pub OnPool : List ℕ → OfPool → Outcome Answer → List ℕ → Type 0
OnPool m nothing Outcome.Unfit m' = m' ≡ m
OnPool m (asked o) (Outcome.Answered x) m' = pools.Performs m o x m'
OnPool m (claimed o a) (Outcome.Judged v) m' = pool_audit.Audits m o a v m'
OnPool _ _ _ _ = ⊥

-- the same on an interval of ids
abbrev pub OnIds : List ℕ → OfIds → Outcome (Result ℕ Error) → List ℕ → Type 0
OnIds m nothing Outcome.Unfit m' = m' ≡ m
OnIds m (asked o) (Outcome.Answered x) m' = ids.Performs m o x m'
OnIds m (claimed o a) (Outcome.Judged v) m' = id_audit.Audits m o a v m'
OnIds _ _ _ _ = ⊥
