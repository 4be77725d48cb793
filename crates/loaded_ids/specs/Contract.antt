-- What `load` does: bs are the bytes, m is the lent block before, m' after.
use Rattle.std.specs.Prelude.{ℕ, ◌+◌, ◌*◌, ◌^◌, ◌<◌, ◌≡◌, ◌⊎◌, List, length, Result, Ok, Err}
use Rattle.ids.specs.State.{State}
use Rattle.ids.specs.Runs.{Valid}
use Rattle.ids.specs.Held.{Holds, Needs}
use Rattle.octets.specs.Octets.{word}
use Rattle.frame.specs.Frame.{Flawed}
use Rattle.frame.specs.declared.LoadError.{LoadError}
use Rattle.frame.specs.declared.LoadError.TheVariants.{NoRoom, Bad}
use Rattle.saved_ids.specs.Format.{kind, Message}
use Rattle.loaded_ids.specs.Misfits.{Misfit}

-- the bytes begin with the state s of 32-bit ids, which some operations reach, and its bytes are n
pub record Begins (bs : List ℕ) (n : ℕ) (s : State) : Type 0 where
  pub freed : ℕ
  pub message : Message bs s freed
  pub valid : Valid s
  pub small : s.high < 2 ^ 32
  pub taken : n ≡ 64 + 8 * freed

-- the block holds the state with which the bytes begin; or it is too short for that state; or they begin with none, for the reason that is named: then the block is as it was
unfoldable pub Loads : List ℕ → List ℕ → Result ℕ LoadError → List ℕ → Type 0
Loads bs m (Ok n) m' = (s : State) × Begins bs n s × Holds m' s
Loads bs m (Err NoRoom) m' = (m' ≡ m) × (s : State) × (n : ℕ) × Begins bs n s × (words : ℕ) × Needs s.low s.high words × (length m < words)
Loads bs m (Err (Bad f)) m' = (m' ≡ m) × (Flawed bs kind f.flaw f.place ⊎ Misfit (word bs) f.flaw f.place) × ((s : State) (n : ℕ) → Begins bs n s → ⊥)
