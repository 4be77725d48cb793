-- What is said of a claimed answer of an address allocator, and which pool the block goes on from.
use Rattle.std.specs.Prelude.{ℕ, ◌+◌, ◌-◌, ◌≡◌, ◌⊎◌}
use mathlib.Core.List.{List, Memᴰ}
use Rattle.ranges.specs.declared.Error.{Error}
use Rattle.ranges.specs.declared.RangeInclusive.{RangeInclusive}
use Rattle.ranges.specs.Range.{IsRange}
use Rattle.addresses.specs.declared.Answer.{Answer}
use Rattle.addresses.specs.declared.Answer.TheVariants.{Granted, Freed, Refused}
use Rattle.addresses.specs.Operations.{Pool, next, HasRoom, Frees}
use Rattle.addresses.specs.Runs.{Operation, Does}
use Rattle.addresses.specs.Steps.{Clear}
use Rattle.addresses.specs.Exact.{Exactly}
use Rattle.addresses.specs.Held.{Holds}
use Rattle.verdict.specs.declared.Verdict.{Verdict}
use Rattle.verdict.specs.declared.Verdict.TheVariants.{Right, Followed, Stayed}

-- the number of a range's addresses
abbrev pub size_of : RangeInclusive → ℕ
size_of r = r.end - r.start + 1

-- a pool can go on from a claim: the claimed range is a range, all of it is free, and the table has room; the range that is said to be freed
-- is granted; of a refusal there is nothing to do
unfoldable pub Possible : Pool → Answer → Type 0
Possible p (Granted r) = IsRange r.start r.end × Clear p.state r.start (size_of r) × HasRoom p r
Possible p (Freed r) = Memᴰ r p.state.granted
Possible p (Refused e) = Unit

-- why it cannot: the range is none, or what an exact request for it is refused with; what its give-back is refused with
unfoldable pub Hinders : Pool → Answer → Error → Type 0
Hinders p (Granted r) e = ((e ≡ Error.InvalidRange) × (¬ IsRange r.start r.end)) ⊎ (IsRange r.start r.end × Exactly p r.start (size_of r) (Refused e))
Hinders p (Freed r) e = Frees p r (Refused e)
Hinders p (Refused x) e = ⊥

-- the verdict on a claimed answer of operation o in pool p, and what the block m' holds then: the pool after the claim, or p
unfoldable pub Judged : Pool → Operation → Answer → Verdict Answer → List ℕ → Type 0
Judged p o claim Right m' = Does p o claim × Holds m' (next p claim)
Judged p o claim (Followed x) m' = (¬ Does p o claim) × Does p o x × Possible p claim × Holds m' (next p claim)
Judged p o claim (Stayed x e) m' = (¬ Does p o claim) × Does p o x × Hinders p claim e × Holds m' p

-- what judging a claim does to a block: m is the block before, m' the block after
abbrev pub Audits : List ℕ → Operation → Answer → Verdict Answer → List ℕ → Type 0
Audits m o claim v m' = (p : Pool) → Holds m p → Judged p o claim v m'
