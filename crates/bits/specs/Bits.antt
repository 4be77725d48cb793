-- Bits in 64-bit words with summaries behind them, and what each function on them is to do.
use Rattle.std.specs.Prelude.{◌≡◌, List, ℕ, zero, suc, ◌+◌, ◌-◌, ◌/◌, ◌%◌, ◌^◌, ◌≤◌, ◌<◌, length, get_or, drop}
use Rattle.ranges.specs.Count.{Count}

-- digit j of the number w
unfoldable pub digit : ℕ → ℕ → ℕ
digit w j = w / 2 ^ j % 2

-- the t lowest of the k digits of w are 1, and t is as large as can be
pub record LowOnes (k w t : ℕ) : Type 0 where
  pub within : t ≤ k
  pub ones : (j : ℕ) → j < t → digit w j ≡ 1
  pub then_zero : t < k → digit w t ≡ 0
  pub all : t ≡ k → w ≡ 2 ^ k - 1

-- digit t of w has changed in v, and no other
pub record Toggled (w v t : ℕ) : Type 0 where
  pub there : digit v t ≡ 1 - digit w t
  pub elsewhere : (j : ℕ) → (j ≡ t → ⊥) → digit v j ≡ digit w j

-- bit i of a run of 64-bit words
unfoldable pub bit : List ℕ → ℕ → ℕ
unfolding digit
bit ws i = digit (get_or ws (i / 64) 0) (i % 64)

-- The bits 0 to last, and d levels of summaries behind them. A level's words are 0 to last / 64, and bit i of the next level says that
-- word i is full. The last level is one word.
unfoldable pub Summed : ℕ → List ℕ → ℕ → Type 0
unfolding bit
Summed zero ws last = (last < 64) × (0 < length ws)
Summed (suc d) ws last =
    (64 ≤ last)
    × (last / 64 < length ws)
    × ((i : ℕ) → i ≤ last / 64 → get_or ws i 0 ≡ 2 ^ 64 - 1 → bit (drop (last / 64 + 1) ws) i ≡ 1)
    × ((i : ℕ) → i ≤ last / 64 → bit (drop (last / 64 + 1) ws) i ≡ 1 → get_or ws i 0 ≡ 2 ^ 64 - 1)
    × Summed d (drop (last / 64 + 1) ws) (last / 64)

-- r is the least bit that is 0, or above last where none of 0 to last is
pub record Lowest (ws : List ℕ) (last r : ℕ) : Type 0 where
  pub zero_there : r ≤ last → bit ws r ≡ 0
  pub ones_below : (j : ℕ) → j < r → j ≤ last → bit ws j ≡ 1

-- of the bits 0 to last, bit i has changed and no other
pub record Flipped (ws vs : List ℕ) (last i : ℕ) : Type 0 where
  pub there : bit vs i ≡ 1 - bit ws i
  pub elsewhere : (j : ℕ) → j ≤ last → (j ≡ i → ⊥) → bit vs j ≡ bit ws j

-- n words hold the bits 0 to last and their summaries
pub data Words : ℕ → ℕ → Type 0 where
  one : {last : ℕ} → last < 64 → Words last 1
  more : {last n : ℕ} → 64 ≤ last → Words (last / 64) n → Words last (last / 64 + 1 + n)

-- where the summaries agree, r is the lowest bit that is 0
abbrev pub Finds : List ℕ → ℕ → ℕ → Type 0
Finds ws last r = (d : ℕ) → Summed d ws last → Lowest ws last r

-- where the summaries agree, bit i has changed and no other, and they still agree
abbrev pub Flips : List ℕ → ℕ → ℕ → List ℕ → Type 0
Flips ws last i vs = (d : ℕ) → Summed d ws last → i ≤ last → Flipped ws vs last i × Summed d vs last

-- r is the number of words for the bits 0 to last, which is at most a word a bit
abbrev pub Takes : ℕ → ℕ → Type 0
Takes last r = Words last r × (r ≤ last + 1)

-- the first n words are 0, where there are as many
abbrev pub Clears : List ℕ → ℕ → List ℕ → Type 0
Clears ws n vs = n ≤ length ws → (k : ℕ) → k < n → get_or vs k 0 ≡ 0

-- r of the bits 0 to last are 0, where the words are there
abbrev pub Zeros : List ℕ → ℕ → ℕ → Type 0
Zeros ws last r = last / 64 < length ws → Count (λ j. bit ws j ≡ 0) (last + 1) r
