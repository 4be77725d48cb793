-- What a line wants of a pool or of an interval of ids: an operation, and the answer that is claimed.
use Rattle.std.specs.Prelude.{ℕ, Result, Ok, Err}
use Rattle.ranges.specs.declared.AllocPolicy.{AllocPolicy}
use Rattle.ranges.specs.declared.Error.{Error}
use Rattle.fields.specs.declared.Wrong.{Wrong}
use Rattle.claims.specs.declared.Claim.{Claim}
use Rattle.lines.specs.declared.Line.{Line}
use Rattle.addresses.specs.declared.Answer.{Answer}
use Rattle.addresses.specs.Contract.{asking, returning}
use Rattle.addresses.specs.Runs as pools
use Rattle.ids.specs.Runs as ids

-- of operations O with answers A: nothing, an operation, or an operation with a claimed answer
pub data Wanted (O A : Type 0) : Type 0 where
  nothing : Wanted O A
  asked : O → Wanted O A
  claimed : O → A → Wanted O A

abbrev pub OfPool : Type 0
OfPool = Wanted pools.Operation Answer

abbrev pub OfIds : Type 0
OfIds = Wanted ids.Operation (Result ℕ Error)

-- a request with a claim: a window is granted, or it is refused
abbrev pub pool_allocates : ℕ → ℕ → AllocPolicy → Claim → OfPool
pool_allocates size align p Claim.Unsaid = asked (asking size align p)
pool_allocates size align p (Claim.Window a b) = claimed (asking size align p) (Answer.Granted (record { start = a; end = b }))
pool_allocates size align p (Claim.Refused e) = claimed (asking size align p) (Answer.Refused e)
pool_allocates size align p _ = nothing

-- a give-back with a claim: the range is freed, or it is refused
abbrev pub pool_frees : ℕ → ℕ → Claim → OfPool
pool_frees s e Claim.Unsaid = asked (returning s e)
pool_frees s e Claim.Freed = claimed (returning s e) (Answer.Freed (record { start = s; end = e }))
pool_frees s e (Claim.Refused x) = claimed (returning s e) (Answer.Refused x)
pool_frees s e _ = nothing

-- what a line wants of a pool; one that is wrong wants nothing
abbrev pub pool_wants : Result Line Wrong → OfPool
pool_wants (Ok (Line.Allocate n size align p c)) = pool_allocates size align p c
pool_wants (Ok (Line.Free n s e c)) = pool_frees s e c
pool_wants _ = nothing

-- a request for an id with a claim: an id is granted, or it is refused
abbrev pub id_allocates : Claim → OfIds
id_allocates Claim.Unsaid = asked ids.Allocate
id_allocates (Claim.Id n) = claimed ids.Allocate (Ok n)
id_allocates (Claim.Refused e) = claimed ids.Allocate (Err e)
id_allocates _ = nothing

-- a give-back of an id with a claim: it is freed, which may be said by the id, or it is refused
abbrev pub id_frees : ℕ → Claim → OfIds
id_frees i Claim.Unsaid = asked (ids.Release i)
id_frees i Claim.Freed = claimed (ids.Release i) (Ok i)
id_frees i (Claim.Id n) = claimed (ids.Release i) (Ok n)
id_frees i (Claim.Refused e) = claimed (ids.Release i) (Err e)
id_frees i _ = nothing

-- what a line wants of an interval of ids
abbrev pub id_wants : Result Line Wrong → OfIds
id_wants (Ok (Line.AllocateId n c)) = id_allocates c
id_wants (Ok (Line.FreeId n i c)) = id_frees i c
id_wants _ = nothing
