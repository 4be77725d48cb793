-- What the id allocator is to do, said of numbers alone: its states, and what each operation answers and leaves.
use Rattle.std.specs.Prelude.{◌≡◌, Bool, true, false, ◌&&◌, ◌||◌, not, ◌⊎◌, ℕ, ◌+◌, ◌-◌, ◌^◌, ◌≤◌, ◌<◌, max, eqb, Result, Ok, Err}
use Rattle.ranges.specs.declared.Error.{Error}

-- the ids low to high; the lowest id that was never granted; which ids are granted now
pub record State : Type 0 where
  pub low : ℕ
  pub high : ℕ
  pub next : ℕ
  pub granted : ℕ → Bool

-- an id of the interval
abbrev pub Within : State → ℕ → Type 0
Within s i = (s.low ≤ i) × (i ≤ s.high)

-- an id of the interval that is not granted now
abbrev pub Free : State → ℕ → Type 0
Free s i = Within s i × (s.granted i ≡ false)

-- at first nothing is granted, and nothing ever was
abbrev pub fresh : ℕ → ℕ → State
fresh low high = record { low = low; high = high; next = low; granted = λ j. false }

-- the state once i is granted
abbrev pub grant : State → ℕ → State
grant s i = record { low = s.low; high = s.high; next = max s.next (i + 1); granted = λ j. eqb j i || s.granted j }

-- the state once i is given back
abbrev pub release : State → ℕ → State
release s i = record { low = s.low; high = s.high; next = s.next; granted = λ j. not (eqb j i) && s.granted j }

-- why there is no id left, by whether the highest id is 2^32 - 1
abbrev pub exhausted : Bool → Error
exhausted true = Error.Overflow
exhausted false = Error.ResourceNotAvailable

-- allocate answers the least free id, and is refused exactly where no id is free
abbrev pub Allocates : State → Result ℕ Error → Type 0
Allocates s (Ok i) = Free s i × ((j : ℕ) → Free s j → i ≤ j)
Allocates s (Err e) = ((j : ℕ) → Free s j → ⊥) × (e ≡ exhausted (eqb s.high (2 ^ 32 - 1)))

-- free of i answers i where i is granted; else it is refused, with the first of these reasons that is so
abbrev pub Frees : State → ℕ → Result ℕ Error → Type 0
Frees s i (Ok k) = (k ≡ i) × Within s i × (i < s.next) × (s.granted i ≡ true)
Frees s i (Err e) =
    ((e ≡ Error.OutOfRange) × (Within s i → ⊥))
    ⊎ (((e ≡ Error.NeverAllocated) × Within s i × (s.next ≤ i))
    ⊎ ((e ≡ Error.AlreadyReleased) × Within s i × (i < s.next) × (s.granted i ≡ false)))

-- the state after allocate's answer: a refusal leaves it as it was
abbrev pub allocated : State → Result ℕ Error → State
allocated s (Ok i) = grant s i
allocated s (Err e) = s

-- the state after free's answer: a refusal leaves it as it was
abbrev pub freed : State → Result ℕ Error → State
freed s (Ok i) = release s i
freed s (Err e) = s
