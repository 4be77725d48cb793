-- What `save` does: m is the allocator's block, bs are the bytes before, bs' after.
use Rattle.std.specs.Prelude.{◌≡◌, ℕ, ◌<◌, ◌≤◌, List, length, slice_index, Result, Ok, Err}
use Rattle.addresses.specs.Operations.{Pool}
use Rattle.addresses.specs.Held.{Holds}
use Rattle.frame.specs.declared.SaveError.{SaveError}
use Rattle.frame.specs.declared.SaveError.TheVariants.{NoRoom, NoState}
use Rattle.saved.specs.Format.{Message, size}

-- the first n bytes are the pool p, and no byte behind them is changed
pub record Written (bs : List ℕ) (n : ℕ) (bs' : List ℕ) (p : Pool) : Type 0 where
  pub message : Message bs' p
  pub taken : n ≡ size p
  pub behind : (j : ℕ) → n ≤ j → slice_index bs' j ≡ slice_index bs j

-- if the block holds a pool, it is written; or there is no room for it, or no pool, and no byte is changed
unfoldable pub Saves : List ℕ → List ℕ → Result ℕ SaveError → List ℕ → Type 0
Saves m bs (Ok n) bs' = (length bs' ≡ length bs) × ((p : Pool) → Holds m p → Written bs n bs' p)
Saves m bs (Err NoRoom) bs' = (bs' ≡ bs) × ((p : Pool) → Holds m p → length bs < size p)
Saves m bs (Err NoState) bs' = (bs' ≡ bs) × ((p : Pool) → Holds m p → ⊥)
