-- Sequences of operations: the answers that they get, one after the other, and the pool that they end in.
use Rattle.std.specs.Prelude.{◌≡◌, ℕ, ◌+◌, ◌≤◌, List, [], ◌∷◌, length, Ok}
use Rattle.ranges.specs.declared.Constraint.{Constraint}
use Rattle.ranges.specs.declared.RangeInclusive.{RangeInclusive}
use Rattle.addresses.specs.declared.Answer.{Answer}
use Rattle.addresses.specs.Meaning.{Sound, row_of}
use Rattle.addresses.specs.Operations.{M, Pool, next, fresh, Makes, Allocates, Frees}

-- an operation: a range is asked for, or given back
pub data Operation : Type 0 where
  Allocate : Constraint → Operation
  Release : RangeInclusive → Operation

-- the answer x of operation o in pool p
unfoldable pub Does : Pool → Operation → Answer → Type 0
unfolding Allocates Frees
Does p (Allocate q) x = Allocates p q x
Does p (Release r) x = Frees p r x

-- the operations os, from pool p on, get the answers xs and end in pool z
unfoldable pub Runs : Pool → List Operation → List Answer → Pool → Type 0
unfolding Does next
Runs p [] [] z = z ≡ p
Runs p [] (x ∷ xs) z = ⊥
Runs p (o ∷ os) [] z = ⊥
Runs p (o ∷ os) (x ∷ xs) z = Does p o x × Runs (next p x) os xs z

-- what is so of a pool after any operations: its addresses are 64-bit addresses, but not all of them, and its table is within the limit
pub record Valid (p : Pool) : Type 0 where
  pub sound : Sound p.state
  pub below : p.state.top ≤ M + 1
  pub within : p.state.top ≤ p.state.base + M
  pub room : length (row_of p.state) ≤ p.limit
  pub most : p.limit ≤ 4096

-- a pool that `new` and some operations make
pub record Reached (p : Pool) : Type 0 where
  pub base : ℕ
  pub size : ℕ
  pub limit : ℕ
  pub made : Makes base size limit (Ok tt)
  pub operations : List Operation
  pub answers : List Answer
  pub come : Runs (fresh base size limit) operations answers p
