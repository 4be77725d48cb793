-- What copying an address allocator into another block does: m is the source, n the other block before, n' after.
use Rattle.std.specs.Prelude.{◌≡◌, ℕ, ◌≤◌, List, length, Result, Ok, Err}
use Rattle.ranges.specs.declared.Error.{Error}
use Rattle.ranges.specs.declared.Error.TheVariants.{Overflow, OutOfRange, AlreadyReleased, NeverAllocated, ResourceNotAvailable, InvalidRange, InvalidAlignment, UnalignedAddress, Underflow, InvalidSize, NoRoom, InvalidPolicy, NoState}
use Rattle.table.specs.Held.{words_for}
use Rattle.addresses.specs.Operations.{Pool}
use Rattle.addresses.specs.Held.{Holds}

-- the same pool with another limit
abbrev pub limited : Pool → ℕ → Pool
limited p limit = record { state = p.state; limit = limit }

-- the limit is the pool's or a larger one that a table may have, and the block is long enough for it
pub record Suffices (p : Pool) (limit : ℕ) (n : List ℕ) : Type 0 where
  pub least : p.limit ≤ limit
  pub most : limit ≤ 4096
  pub words : words_for limit ≤ length n

-- done: the block holds an allocator, and if the source holds a pool, that pool with the limit, which sufficed
-- no room: limit or block did not suffice for what the source holds; no state: it holds no pool; the block is as it was
unfoldable pub Copies : List ℕ → ℕ → Result (Unit {0}) Error → List ℕ → List ℕ → Type 0
Copies m limit (Ok tt) n n' = ((q : Pool) × Holds n' q) × ((p : Pool) → Holds m p → Suffices p limit n × Holds n' (limited p limit))
Copies m limit (Err NoRoom) n n' = (n' ≡ n) × ((p : Pool) → Holds m p → Suffices p limit n → ⊥)
Copies m limit (Err NoState) n n' = (n' ≡ n) × ((p : Pool) → Holds m p → ⊥)
-- nothing else is answered
Copies m limit (Err Overflow) n n' = ⊥
Copies m limit (Err OutOfRange) n n' = ⊥
Copies m limit (Err AlreadyReleased) n n' = ⊥
Copies m limit (Err NeverAllocated) n n' = ⊥
Copies m limit (Err ResourceNotAvailable) n n' = ⊥
Copies m limit (Err InvalidRange) n n' = ⊥
Copies m limit (Err InvalidAlignment) n n' = ⊥
Copies m limit (Err UnalignedAddress) n n' = ⊥
Copies m limit (Err Underflow) n n' = ⊥
Copies m limit (Err InvalidSize) n n' = ⊥
Copies m limit (Err InvalidPolicy) n n' = ⊥
