-- What each call does to a lent block: m is the block before, m' the block after.
use Rattle.std.specs.Prelude.{◌≡◌, ℕ, ◌<◌, ◌≤◌, ◌⊎◌, List, [], ◌∷◌, length, Result, Ok, Err}
use Rattle.ranges.specs.declared.AllocPolicy.{AllocPolicy}
use Rattle.ranges.specs.declared.Error.{Error}
use Rattle.ranges.specs.declared.RangeInclusive.{RangeInclusive}
use Rattle.table.specs.declared.Stands.{Stands}
use Rattle.table.specs.declared.AtError.{AtError}
use Rattle.table.specs.declared.AtError.TheVariants.{Outside, NoTable}
use Rattle.table.specs.Held.{words_for}
use Rattle.table.specs.Tiles.{Has}
use Rattle.addresses.specs.declared.Answer.{Answer}
use Rattle.addresses.specs.declared.Answer.TheVariants.{Granted, Freed, Refused}
use Rattle.addresses.specs.Meaning.{row_of}
use Rattle.addresses.specs.Operations.{Pool, next, fresh, Makes}
use Rattle.addresses.specs.Runs.{Operation, Allocate, Release, Does}
use Rattle.addresses.specs.Held.{Holds}

-- the answer to a request, of what `allocate` returns: the range is granted, or the request is refused
abbrev pub granted : Result RangeInclusive Error → Answer
granted (Ok r) = Granted r
granted (Err e) = Refused e

-- the answer to a give-back, of what `free` returns: the range is free, or the give-back is refused
abbrev pub freed : Result RangeInclusive Error → Answer
freed (Ok r) = Freed r
freed (Err e) = Refused e

-- a refusal leaves the block word for word as it was
abbrev pub Kept : Answer → List ℕ → List ℕ → Type 0
Kept (Granted r) m m' = Unit
Kept (Freed r) m m' = Unit
Kept (Refused e) m m' = m' ≡ m

-- what an operation does: if the block held a pool, the answer is that pool's, and the block now holds the next one
pub record Performs (m : List ℕ) (o : Operation) (x : Answer) (m' : List ℕ) : Type 0 where
  pub kept : Kept x m m'
  pub right : (p : Pool) → Holds m p → Does p o x × Holds m' (next p x)

-- a range is asked for
abbrev pub asking : ℕ → ℕ → AllocPolicy → Operation
asking size align policy = Allocate (record { size = size; align = align; policy = policy })

-- a range is given back
abbrev pub returning : ℕ → ℕ → Operation
returning s e = Release (record { start = s; end = e })

-- what `new` does: the block holds the new pool, or is as it was; besides the pool's own refusals it may be too short for the limit
unfoldable pub Starts : List ℕ → ℕ → ℕ → ℕ → Result (Unit {0}) Error → List ℕ → Type 0
Starts m base size limit (Ok tt) m' = Makes base size limit (Ok tt) × Holds m' (fresh base size limit)
Starts m base size limit (Err e) m' = (m' ≡ m) × (Makes base size limit (Err e) ⊎ ((e ≡ Error.NoRoom) × Makes base size limit (Ok tt) × (length m < words_for limit)))

-- a sequence of calls on one block: the operations os, from block m on, get the answers xs and leave the block m'
unfoldable pub Calls : List ℕ → List Operation → List Answer → List ℕ → Type 0
Calls m [] [] m' = m' ≡ m
Calls m [] (x ∷ xs) m' = ⊥
Calls m (o ∷ os) [] m' = ⊥
Calls m (o ∷ os) (x ∷ xs) m' = (n : List ℕ) × Performs m o x n × Calls n os xs m'

-- a number that is asked of the pool that a block holds
abbrev pub Says : List ℕ → (Pool → ℕ) → ℕ → Type 0
Says m f r = (p : Pool) → Holds m p → r ≡ f p

-- what stands at the address a: the range that has it, or that it is not an address of the pool
unfoldable pub Shows : List ℕ → ℕ → Result Stands AtError → Type 0
Shows m a (Ok x) = (p : Pool) → Holds m p → Has p.state.top a x.start x.end x.tag (row_of p.state)
Shows m a (Err Outside) = (p : Pool) → Holds m p → p.state.base ≤ a → a < p.state.top → ⊥
Shows m a (Err NoTable) = (p : Pool) → Holds m p → ⊥
