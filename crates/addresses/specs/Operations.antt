-- The operations of the address allocator: which answer each gets in a pool, and the pool after it.
-- They go by cases on the answer. That there is always an answer, and only one, is proved in ComputedLaws and PoolLaws; sequences are in Runs.
use Rattle.std.specs.Prelude.{◌≡◌, ℕ, ◌+◌, ◌-◌, ◌<◌, ◌≤◌, [], length, Result, Ok, Err}
use mathlib.Core.List.{Memᴰ}
use Rattle.ranges.specs.declared.AllocPolicy.{AllocPolicy}
use Rattle.ranges.specs.declared.AllocPolicy.TheVariants.{FirstMatch, LastMatch, ExactMatch}
use Rattle.ranges.specs.declared.Constraint.{Constraint}
use Rattle.ranges.specs.declared.Error.{Error}
use Rattle.ranges.specs.declared.Error.TheVariants.{Overflow, ResourceNotAvailable, InvalidRange, InvalidAlignment, UnalignedAddress, Underflow, InvalidSize, NoRoom}
use Rattle.ranges.specs.declared.RangeInclusive.{RangeInclusive}
use Rattle.ranges.specs.Align.{Multiple, PowerOfTwo}
use Rattle.ranges.specs.Range.{IsRange}
use Rattle.ranges.specs.Request.{Aligned, Proper}
use Rattle.addresses.specs.declared.Answer.{Answer}
use Rattle.addresses.specs.declared.Answer.TheVariants.{Granted, Freed, Refused}
use Rattle.addresses.specs.Meaning.{State, Free, Fits, Least, Greatest, window, granting, releasing, row_of}

-- the highest address
abbrev pub M : ℕ
M = 0xffff_ffff_ffff_ffff

-- a pool: what is granted now, and how many ranges, free and granted together, its table may hold
pub record Pool : Type 0 where
  pub state : State
  pub limit : ℕ

-- the pool after an answer: a refusal leaves it as it was
unfoldable pub next : Pool → Answer → Pool
unfolding granting releasing
next p (Granted r) = record { state = granting p.state r; limit = p.limit }
next p (Freed r) = record { state = releasing p.state r.start; limit = p.limit }
next p (Refused e) = p

-- ---- a pool is made of a base, a size and a limit

-- the `size` addresses from `base` end by the highest address, and their number fits 64 bits
unfoldable pub Within : ℕ → ℕ → Type 0
Within base size = (size ≤ M) × (base + size - 1 ≤ M)

-- a table holds one range at least and 4,096 at most
unfoldable pub Lendable : ℕ → Type 0
Lendable limit = (0 < limit) × (limit ≤ 4096)

-- at first nothing is granted
abbrev pub fresh : ℕ → ℕ → ℕ → Pool
fresh base size limit = record { state = record { base = base; top = base + size; granted = [] }; limit = limit }

-- what making a pool answers; the refusals stand in the order in which they are given
unfoldable pub Makes : ℕ → ℕ → ℕ → Result (Unit {0}) Error → Type 0
unfolding Within Lendable
Makes base size limit (Err Underflow) = size ≡ 0
Makes base size limit (Err Overflow) = (0 < size) × (¬ Within base size)
Makes base size limit (Err NoRoom) = (0 < size) × Within base size × (¬ Lendable limit)
Makes base size limit (Ok tt) = (0 < size) × Within base size × Lendable limit
-- no other reason is given
Makes _ _ _ _ = ⊥

-- ---- a range is asked for

-- the request is in order
abbrev pub InOrder : Constraint → Type 0
InOrder q = Proper q.size q.align q.policy

-- the addresses at which the range fits: multiples of the alignment from which `size` addresses are free
abbrev pub Place : Pool → Constraint → ℕ → Type 0
Place p q = Fits p.state q.size (Multiple q.align)

-- the place that a policy chooses: the lowest, the highest, or the one that it names
unfoldable pub Chosen : AllocPolicy → (ℕ → Type 0) → ℕ → Type 0
unfolding Least Greatest
Chosen FirstMatch P a = Least P a
Chosen LastMatch P a = Greatest P a
Chosen (ExactMatch at) P a = (a ≡ at) × P a

-- there is no place for it to choose
unfoldable pub Nowhere : AllocPolicy → (ℕ → Type 0) → Type 0
Nowhere FirstMatch P = (a : ℕ) → ¬ P a
Nowhere LastMatch P = (a : ℕ) → ¬ P a
Nowhere (ExactMatch at) P = ¬ P at

-- the address that it names is free, and the range from there would end past the highest address
unfoldable pub Beyond : AllocPolicy → State → ℕ → Type 0
Beyond FirstMatch σ size = ⊥
Beyond LastMatch σ size = ⊥
Beyond (ExactMatch at) σ size = Free σ at × (M < at + size - 1)

-- the table has room for what is left once r is granted too
unfoldable pub HasRoom : Pool → RangeInclusive → Type 0
unfolding row_of granting
HasRoom p r = length (row_of (granting p.state r)) ≤ p.limit

-- what a request gets; the refusals stand in the order in which they are given
unfoldable pub Allocates : Pool → Constraint → Answer → Type 0
unfolding Chosen Nowhere Beyond HasRoom
Allocates p q (Refused InvalidSize) = q.size ≡ 0
Allocates p q (Refused InvalidAlignment) = (0 < q.size) × (¬ PowerOfTwo q.align)
Allocates p q (Refused UnalignedAddress) = (0 < q.size) × PowerOfTwo q.align × (¬ Aligned q.align q.policy)
Allocates p q (Refused Overflow) = InOrder q × Nowhere q.policy (Place p q) × Beyond q.policy p.state q.size
Allocates p q (Refused ResourceNotAvailable) = InOrder q × Nowhere q.policy (Place p q) × (¬ Beyond q.policy p.state q.size)
Allocates p q (Refused NoRoom) = InOrder q × (a : ℕ) × Chosen q.policy (Place p q) a × (¬ HasRoom p (window a q.size))
Allocates p q (Granted r) = InOrder q × (a : ℕ) × Chosen q.policy (Place p q) a × HasRoom p (window a q.size) × (r ≡ window a q.size)
-- nothing else is answered
Allocates _ _ _ = ⊥

-- ---- a range is given back

-- what a give-back gets: the range is freed if it is just one that is granted now, from its first address to its last
unfoldable pub Frees : Pool → RangeInclusive → Answer → Type 0
Frees p r (Refused InvalidRange) = ¬ IsRange r.start r.end
Frees p r (Refused ResourceNotAvailable) = IsRange r.start r.end × (¬ Memᴰ r p.state.granted)
Frees p r (Freed q) = IsRange r.start r.end × Memᴰ r p.state.granted × (q ≡ r)
-- nothing else is answered
Frees _ _ _ = ⊥
