-- What the private steps of `save` do: m is the allocator's block, bs are the bytes before, bs' after.
use Rattle.std.specs.Prelude.{ℕ, ◌+◌, ◌*◌, ◌^◌, ◌≤◌, ◌<◌, ◌≡◌, true, false, List, length, get_or, Option, Some, None}
use Rattle.octets.specs.Octets.{word}
use Rattle.ids.specs.State.{State, Within}
use Rattle.ids.specs.Held.{Holds}
use Rattle.saved_ids.specs.Format.{Freed, unheld, freed_of}
use Rattle.saved_ids.specs.Contract.{Of}
use Rattle.saved_ids.specs.declared.Extent.{Extent}

-- a state whose interval has the n ids from low on
pub record Spans (s : State) (low n : ℕ) : Type 0 where
  pub first : s.low ≡ low
  pub last : low + n ≤ s.high + 1

-- how many of the n ids from low on are not granted
pub record Counts (m : List ℕ) (low n r : ℕ) : Type 0 where
  pub small : r ≤ n
  pub right : (s : State) → Holds m s → Spans s low n → r ≡ unheld s.granted low n

-- the numbers of the state that the block holds, and how many ids were granted and are free now
pub record Measured (m : List ℕ) (low high next k : ℕ) : Type 0 where
  pub from : low ≤ next
  pub to : next ≤ high + 1
  pub small : high < 2 ^ 32
  pub most : k + low ≤ next
  pub right : Of m (λ s. (low ≡ s.low) × (high ≡ s.high) × (next ≡ s.next) × (k ≡ freed_of s))

abbrev pub Measures : List ℕ → Option Extent → Type 0
Measures m (Some e) = Measured m e.ids.low e.ids.high e.ids.next e.freed
Measures m None = Of m (λ s. ⊥)

-- the id is written as word 7 + j where it is not granted and j is below k, and r counts it; no other byte is changed
pub record Notes (m bs : List ℕ) (id j k r : ℕ) (bs' : List ℕ) : Type 0 where
  pub long : length bs' ≡ length bs
  pub front : (i : ℕ) → i < 7 + j → word bs' i ≡ word bs i
  pub behind : (i : ℕ) → 64 + 8 * k ≤ i → get_or bs' i 0 ≡ get_or bs i 0
  pub held : (s : State) → Holds m s → Within s id → s.granted id ≡ true → r ≡ j
  pub free : (s : State) → Holds m s → Within s id → s.granted id ≡ false → j < k → (r ≡ j + 1) × (word bs' (7 + j) ≡ id)

-- the state with another next new id
abbrev pub upto : State → ℕ → State
upto s n = record { low = s.low; high = s.high; next = s.low + n; granted = s.granted }

-- of the n ids from low on those that are not granted are written, k of them, and what is behind is as it was
pub record Lists (m bs : List ℕ) (low n k : ℕ) (bs' : List ℕ) : Type 0 where
  pub long : length bs' ≡ length bs
  pub behind : (i : ℕ) → 64 + 8 * k ≤ i → get_or bs' i 0 ≡ get_or bs i 0
  pub right : (s : State) → Holds m s → Spans s low n → k ≡ unheld s.granted low n → Freed (upto s n) (word bs') k
