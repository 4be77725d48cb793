-- What holds after any sequence of operations: of the pool that it ends in, and of its answers.
use Rattle.std.specs.Prelude.{◌≡◌, ℕ, suc, ◌+◌, ◌*◌, ◌<◌, ◌≤◌, ◌⊎◌, List, [], ◌∷◌, length}
use mathlib.Core.List.{Memᴰ}
use Rattle.table.specs.Row.{Covers}
use Rattle.addresses.specs.declared.Answer.{Answer}
use Rattle.addresses.specs.declared.Answer.TheVariants.{Granted, Freed, Refused}
use Rattle.ranges.specs.Range.{In}
use Rattle.ranges.specs.declared.RangeInclusive.{RangeInclusive}
use Rattle.addresses.specs.Meaning.{Free, row_of}
use Rattle.addresses.specs.Operations.{Pool}
use Rattle.addresses.specs.Runs.{Operation, Allocate, Release}

-- what a reader wants of the last pool z, of a pool of `size` addresses from `base`
pub record After (base size limit : ℕ) (z : Pool) : Type 0 where
  -- each granted range lies in the pool, and is not empty
  pub inside : (r : RangeInclusive) → Memᴰ r z.state.granted → (base ≤ r.start) × (r.start ≤ r.end) × (r.end < base + size)
  -- granted ranges that share an address are the same
  pub apart : (q r : RangeInclusive) (x : ℕ) → Memᴰ q z.state.granted → Memᴰ r z.state.granted → In x q → In x r → q ≡ r
  -- an address of the pool is free or granted, and no address is both
  pub whole : (x : ℕ) → base ≤ x → x < base + size → Free z.state x ⊎ ((r : RangeInclusive) × Memᴰ r z.state.granted × In x r)
  pub never : (x : ℕ) (r : RangeInclusive) → Free z.state x → Memᴰ r z.state.granted → In x r → ⊥
  -- the table covers the pool, of two neighbours in it one is granted, and it has at most `limit` ranges
  pub covers : Covers base (base + size) (row_of z.state)
  pub room : length (row_of z.state) ≤ limit

-- an answer fits what was asked: a grant has the size, and starts at a multiple of the alignment; what is freed is what was named
unfoldable pub Asked : Operation → Answer → Type 0
Asked (Allocate q) (Granted r) = (m : ℕ) × (r.start ≡ m * q.align) × (suc r.end ≡ r.start + q.size)
Asked (Allocate q) (Freed r) = ⊥
Asked (Allocate q) (Refused e) = Unit {0}
Asked (Release r) (Granted q) = ⊥
Asked (Release r) (Freed q) = q ≡ r
Asked (Release r) (Refused e) = Unit {0}

-- answer by answer
unfoldable pub AllAsked : List Operation → List Answer → Type 0
unfolding Asked
AllAsked [] [] = Unit {0}
AllAsked [] (x ∷ xs) = ⊥
AllAsked (o ∷ os) [] = ⊥
AllAsked (o ∷ os) (x ∷ xs) = Asked o x × AllAsked os xs
