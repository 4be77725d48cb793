-- What the private steps of an audit do: m is the block before, m' the block after.
use Rattle.std.specs.Prelude.{ℕ, ◌+◌, ◌-◌, ◌≡◌, ◌⊎◌, List, Result, Ok, Err}
use Rattle.ranges.specs.declared.Error.{Error}
use Rattle.ranges.specs.Range.{IsRange}
use Rattle.addresses.specs.declared.Answer.{Answer}
use Rattle.addresses.specs.declared.Answer.TheVariants.{Refused}
use Rattle.addresses.specs.Operations.{Pool, next}
use Rattle.addresses.specs.Runs.{Operation, Valid, Does}
use Rattle.addresses.specs.Exact.{Exactly}
use Rattle.addresses.specs.Held.{Holds}
use Rattle.verdict.specs.declared.Verdict.{Verdict}
use Rattle.pool_audit.specs.Verdicts.{Possible, Hinders, Judged}

-- granting just the range from s to e
abbrev pub GrantsJust : List ℕ → ℕ → ℕ → Answer → List ℕ → Type 0
GrantsJust m s e x m' =
    (p : Pool)
    → Holds m p
    → ((x ≡ Refused Error.InvalidRange) × (¬ IsRange s e) × Holds m' p)
    ⊎ (IsRange s e × Exactly p s (e - s + 1) x × Holds m' (next p x))

-- the pool after going on from a claim, or the pool before
unfoldable pub Takes : Pool → Answer → Result (Unit {0}) Error → List ℕ → Type 0
Takes p claim (Ok tt) m' = Possible p claim × Holds m' (next p claim)
Takes p claim (Err e) m' = Hinders p claim e × Holds m' p

-- going on from a claim
abbrev pub Follows : List ℕ → Answer → Result (Unit {0}) Error → List ℕ → Type 0
Follows m claim t m' = (p : Pool) → Holds m p → Takes p claim t m'

-- going back to the pool before an answer
abbrev pub Undoes : List ℕ → Answer → List ℕ → Type 0
Undoes m x m' = (p : Pool) (o : Operation) → Valid p → Does p o x → Holds m (next p x) → Holds m' p

-- the verdict once the right answer was given
abbrev pub Settles : List ℕ → Answer → Answer → Verdict Answer → List ℕ → Type 0
Settles m x claim v m' = (p : Pool) (o : Operation) → Valid p → Does p o x → Holds m (next p x) → Judged p o claim v m'
