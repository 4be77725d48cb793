-- How a block of lent words holds a state: four words, the mark, low, high and next; then a bit for each id, then summaries.
use Rattle.std.specs.Prelude.{◌≡◌, Bool, true, false, List, ◌⊎◌, ℕ, ◌+◌, ◌-◌, ◌^◌, ◌≤◌, ◌<◌, length, get_or, drop, Option, Some, None}
use Rattle.bits.specs.Bits.{bit, Summed, Words}
use Rattle.ids.specs.declared.Header.{Header}
use Rattle.ids.specs.State.{State}

-- the mark of an id allocator's block: the letters RK-ids01
abbrev pub kind : ℕ
kind = 0x524b_2d69_6473_3031

-- a header of the ids low to high with the mark m, and n words behind it, which are enough
pub record Headed (m low high n : ℕ) : Type 0 where
  pub marked : m ≡ kind
  pub ordered : low ≤ high
  pub small : high < 2 ^ 32
  pub words : ℕ
  pub taken : Words (high - low) words
  pub enough : words ≤ n

-- the last bit of the ids that a header is of; none where it is no header
abbrev pub LastBit : ℕ → ℕ → ℕ → ℕ → Option ℕ → Type 0
LastBit m low high n (Some l) = Headed m low high n × (l ≡ high - low)
LastBit m low high n None = Headed m low high n → ⊥

-- the words that lie in the header of the words ws, and the last bit of its ids; none where ws has no header
pub record HeadOf (ws : List ℕ) (h : Header) : Type 0 where
  pub long : 4 ≤ length ws
  pub head : Headed (get_or ws 0 0) h.low h.high (length ws - 4)
  pub low : h.low ≡ get_or ws 1 0
  pub high : h.high ≡ get_or ws 2 0
  pub next : h.next ≡ get_or ws 3 0
  pub last : h.last ≡ h.high - h.low

abbrev pub Heads : List ℕ → Option Header → Type 0
Heads ws (Some h) = HeadOf ws h
Heads ws None = 4 ≤ length ws → Headed (get_or ws 0 0) (get_or ws 1 0) (get_or ws 2 0) (length ws - 4) → ⊥

-- a bool as a digit
abbrev pub as_digit : Bool → ℕ
as_digit true = 1
as_digit false = 0

-- The words ws lie as the state s wants: the header, bit j set where the id low + j is granted, and summaries that agree. Bits past high - low
-- may be anything that the summaries agree with.
pub record Laid (ws : List ℕ) (s : State) : Type 0 where
  pub long : 4 ≤ length ws
  pub head : Headed (get_or ws 0 0) s.low s.high (length ws - 4)
  pub low : get_or ws 1 0 ≡ s.low
  pub high : get_or ws 2 0 ≡ s.high
  pub next : get_or ws 3 0 ≡ s.next
  pub levels : ℕ
  pub summed : Summed levels (drop 4 ws) (s.high - s.low)
  pub bits : (j : ℕ) → j ≤ s.high - s.low → bit (drop 4 ws) j ≡ as_digit (s.granted (s.low + j))

-- the words ws hold the state s
unfoldable pub Holds : List ℕ → State → Type 0
Holds ws s = Laid ws s

-- an allocator of the ids low to high takes n words: 0 where there are no such ids
unfoldable pub Needs : ℕ → ℕ → ℕ → Type 0
Needs low high n = ((low ≤ high) × ((k : ℕ) × Words (high - low) k × (n ≡ 4 + k))) ⊎ ((high < low) × (n ≡ 0))
