-- What `save` does: m is the allocator's block, bs are the bytes before, bs' after. Of a state that no operations reach nothing is said.
use Rattle.std.specs.Prelude.{ℕ, ◌≤◌, ◌<◌, ◌≡◌, List, length, get_or, Result, Ok, Err}
use Rattle.ids.specs.State.{State}
use Rattle.ids.specs.Runs.{Valid}
use Rattle.ids.specs.Held.{Holds}
use Rattle.frame.specs.declared.SaveError.{SaveError}
use Rattle.frame.specs.declared.SaveError.TheVariants.{NoRoom, NoState}
use Rattle.saved_ids.specs.Format.{Message, freed_of, size}

-- the first n bytes are the state s, and no byte behind them is changed
pub record Written (bs : List ℕ) (n : ℕ) (bs' : List ℕ) (s : State) : Type 0 where
  pub message : Message bs' s (freed_of s)
  pub taken : n ≡ size s
  pub behind : (j : ℕ) → n ≤ j → get_or bs' j 0 ≡ get_or bs j 0

-- P of each state that the block holds and that some operations reach
abbrev pub Of : List ℕ → (State → Type 0) → Type 0
Of m P = (s : State) → Holds m s → Valid s → P s

-- if the block holds a state, it is written; or there is no room for it, or no state, and no byte is changed
unfoldable pub Saves : List ℕ → List ℕ → Result ℕ SaveError → List ℕ → Type 0
Saves m bs (Ok n) bs' = (length bs' ≡ length bs) × Of m (Written bs n bs')
Saves m bs (Err NoRoom) bs' = (bs' ≡ bs) × Of m (λ s. length bs < size s)
Saves m bs (Err NoState) bs' = (bs' ≡ bs) × Of m (λ s. ⊥)

-- what `bytes` answers
abbrev pub Sizes : List ℕ → ℕ → Type 0
Sizes m r = Of m (λ s. r ≡ size s)
