-- Requests: a size, an alignment and a policy.
use Rattle.std.specs.Prelude.{◌≡◌, ℕ, ◌<◌, ◌⊎◌, Result, Ok, Err}
use Rattle.ranges.specs.Align.{PowerOfTwo, Multiple}
use Rattle.ranges.specs.declared.Error.{Error}
use Rattle.ranges.specs.declared.AllocPolicy.{AllocPolicy}
use Rattle.ranges.specs.declared.AllocPolicy.TheVariants.{FirstMatch, LastMatch, ExactMatch}
use Rattle.ranges.specs.declared.Constraint.{Constraint}

-- the policy that a number stands for: 0 first, 1 last, 2 exact at an address
abbrev pub Stands : ℕ → ℕ → AllocPolicy → Type 0
Stands kind at FirstMatch = kind ≡ 0
Stands kind at LastMatch = kind ≡ 1
Stands kind at (ExactMatch a) = (kind ≡ 2) × (a ≡ at)

-- what reading a policy from outside answers
abbrev pub MakesPolicy : ℕ → ℕ → Result AllocPolicy Error → Type 0
MakesPolicy kind at (Ok p) = Stands kind at p
MakesPolicy kind at (Err e) = (e ≡ Error.InvalidPolicy) × ((p : AllocPolicy) → Stands kind at p → ⊥)

-- an exact address is a multiple of the alignment
abbrev pub Aligned : ℕ → AllocPolicy → Type 0
Aligned k FirstMatch = Unit
Aligned k LastMatch = Unit
Aligned k (ExactMatch a) = Multiple k a

-- a request that is in order
pub record Proper (size align : ℕ) (policy : AllocPolicy) : Type 0 where
  pub some : 0 < size
  pub power : PowerOfTwo align
  pub aligned : Aligned align policy

-- what making a request answers; the refusals in their order
abbrev pub MakesConstraint : ℕ → ℕ → AllocPolicy → Result Constraint Error → Type 0
MakesConstraint size align policy (Ok c) =
    (c.size ≡ size) × (c.align ≡ align) × (c.policy ≡ policy) × Proper size align policy
MakesConstraint size align policy (Err e) =
    ((e ≡ Error.InvalidSize) × (size ≡ 0))
    ⊎ (((e ≡ Error.InvalidAlignment) × (0 < size) × (PowerOfTwo align → ⊥))
    ⊎ ((e ≡ Error.UnalignedAddress) × (0 < size) × PowerOfTwo align × (Aligned align policy → ⊥)))
