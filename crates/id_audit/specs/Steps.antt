-- What the private steps of an audit do: m is the block before, m' the block after.
use Rattle.std.specs.Prelude.{ℕ, List, Result, Ok, Err}
use Rattle.ranges.specs.declared.Error.{Error}
use Rattle.ids.specs.State.{State, Frees, freed}
use Rattle.ids.specs.Runs.{Operation, Allocate, Release, after}
use Rattle.ids.specs.Held.{Holds}
use Rattle.verdict.specs.declared.Verdict.{Verdict}
use Rattle.id_audit.specs.Verdicts.{Possible, Hinders, Judged}

-- the state after going on from a claim, or the state before
unfoldable pub Goes : State → Operation → Result ℕ Error → Result Unit Error → List ℕ → Type 0
Goes s o claim (Ok tt) m' = Possible s o claim × Holds m' (after s o claim)
Goes s o claim (Err e) m' = Hinders s o claim e × Holds m' s

-- going on from a claimed grant, and from a claimed give-back, of whichever id was asked
abbrev pub FollowsGrant : List ℕ → Result ℕ Error → Result Unit Error → List ℕ → Type 0
FollowsGrant m claim t m' = (s : State) → Holds m s → Goes s Allocate claim t m'

abbrev pub FollowsRelease : List ℕ → Result ℕ Error → Result Unit Error → List ℕ → Type 0
FollowsRelease m claim t m' = (s : State) (i : ℕ) → Holds m s → Goes s (Release i) claim t m'

-- going back to the state before a give-back's answer
abbrev pub Undoes : List ℕ → Result ℕ Error → List ℕ → Type 0
Undoes m x m' = (s : State) (i : ℕ) → Frees s i x → Holds m (freed s x) → Holds m' s

-- the verdict on a give-back once the right answer was given
abbrev pub Settles : List ℕ → Result ℕ Error → Result ℕ Error → Verdict (Result ℕ Error) → List ℕ → Type 0
Settles m x claim v m' = (s : State) (i : ℕ) → Frees s i x → Holds m (freed s x) → Judged s (Release i) claim v m'
