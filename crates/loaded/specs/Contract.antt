-- What `load` does: bs are the bytes, m is the lent block before, m' after.
use Rattle.std.specs.Prelude.{◌≡◌, ℕ, ◌<◌, ◌⊎◌, List, length, Result, Ok, Err}
use Rattle.table.specs.Held.{words_for}
use Rattle.addresses.specs.Operations.{Pool}
use Rattle.addresses.specs.Runs.{Valid}
use Rattle.addresses.specs.Held.{Holds}
use Rattle.octets.specs.Octets.{word}
use Rattle.frame.specs.Frame.{Flawed}
use Rattle.frame.specs.declared.LoadError.{LoadError}
use Rattle.frame.specs.declared.LoadError.TheVariants.{NoRoom, Bad}
use Rattle.saved.specs.Format.{kind, Message, size}
use Rattle.loaded.specs.Misfits.{Misfit}

-- the bytes begin with the pool p, which some operations reach (`valid_just`), and its bytes are n
pub record Begins (bs : List ℕ) (n : ℕ) (p : Pool) : Type 0 where
  pub message : Message bs p
  pub valid : Valid p
  pub taken : n ≡ size p

-- the block holds the pool with which the bytes begin; or it is too short for that pool; or they begin with none, for the reason that is named: then the block is as it was
unfoldable pub Loads : List ℕ → List ℕ → Result ℕ LoadError → List ℕ → Type 0
Loads bs m (Ok n) m' = (p : Pool) × Begins bs n p × Holds m' p
Loads bs m (Err NoRoom) m' = (m' ≡ m) × (p : Pool) × Begins bs (size p) p × (length m < words_for p.limit)
Loads bs m (Err (Bad f)) m' = (m' ≡ m) × (Flawed bs kind f.flaw f.place ⊎ Misfit (word bs) f.flaw f.place) × ((p : Pool) → Valid p → Message bs p → ⊥)
