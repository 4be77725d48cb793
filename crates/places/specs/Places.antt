-- Where a window fits, and what the searches answer. A window has more + 1 addresses and starts at a multiple of mask + 1; what is said holds where that is a power of two.
use Rattle.std.specs.Prelude.{◌≡◌, ℕ, ◌+◌, ◌<◌, ◌≤◌, Option, Some, None, List, length, get_or, slice_index, slice_index_or}
use Rattle.ranges.specs.Align.{PowerOfTwo, Multiple}

-- a window of `size` addresses from a on, a multiple of `align`, lies in the range from s up to, not including, `to`
pub record Fits (s to size align a : ℕ) : Type 0 where
  pub multiple : Multiple align a
  pub above : s ≤ a
  pub below : a + size ≤ to

-- it is the lowest such window, or the highest
pub record Lowest (s to size align a : ℕ) : Type 0 where
  pub fits : Fits s to size align a
  pub least : (b : ℕ) → Fits s to size align b → a ≤ b

pub record Highest (s to size align a : ℕ) : Type 0 where
  pub fits : Fits s to size align a
  pub greatest : (b : ℕ) → Fits s to size align b → b ≤ a

-- what `fits_low` answers of the range from s to e
unfoldable pub FitsLow : ℕ → ℕ → ℕ → ℕ → Option ℕ → Type 0
FitsLow s e more mask (Some a) = PowerOfTwo (mask + 1) → Lowest s (e + 1) (more + 1) (mask + 1) a
FitsLow s e more mask None = PowerOfTwo (mask + 1) → (b : ℕ) → Fits s (e + 1) (more + 1) (mask + 1) b → ⊥

-- what `fits_high` answers of the range from s to e
unfoldable pub FitsHigh : ℕ → ℕ → ℕ → ℕ → Option ℕ → Type 0
FitsHigh s e more mask (Some a) = PowerOfTwo (mask + 1) → Highest s (e + 1) (more + 1) (mask + 1) a
FitsHigh s e more mask None = PowerOfTwo (mask + 1) → (b : ℕ) → Fits s (e + 1) (more + 1) (mask + 1) b → ⊥

-- the first address past range i of the starts ss, in a pool that ends with `last`
abbrev pub past_at : List ℕ → ℕ → ℕ → ℕ
past_at ss last i = slice_index_or ss (i + 1) (last + 1)

-- range i is there and free, and the window at a lies in it
pub record Room (ss ts : List ℕ) (last size align i a : ℕ) : Type 0 where
  pub within : i < length ss
  pub free : get_or ts i 0 ≡ 0
  pub fits : Fits (slice_index ss i) (past_at ss last i) size align a

-- the window lies as low as it can in the first range that has room for it
pub record LowestIn (ss ts : List ℕ) (last size align a : ℕ) : Type 0 where
  pub index : ℕ
  pub within : index < length ss
  pub free : get_or ts index 0 ≡ 0
  pub here : Lowest (slice_index ss index) (past_at ss last index) size align a
  pub first : (j b : ℕ) → j < index → Room ss ts last size align j b → ⊥

-- the window lies as high as it can in the last range that has room for it
pub record HighestIn (ss ts : List ℕ) (last size align a : ℕ) : Type 0 where
  pub index : ℕ
  pub within : index < length ss
  pub free : get_or ts index 0 ≡ 0
  pub here : Highest (slice_index ss index) (past_at ss last index) size align a
  pub latest : (j b : ℕ) → index < j → Room ss ts last size align j b → ⊥

-- what `scan_up` answers, where there are as many tags as starts
unfoldable pub SearchUp : List ℕ → List ℕ → ℕ → ℕ → ℕ → Option ℕ → Type 0
SearchUp ss ts last more mask (Some a) = length ss ≡ length ts → PowerOfTwo (mask + 1) → LowestIn ss ts last (more + 1) (mask + 1) a
SearchUp ss ts last more mask None = length ss ≡ length ts → PowerOfTwo (mask + 1) → (j b : ℕ) → Room ss ts last (more + 1) (mask + 1) j b → ⊥

-- what `scan_down` answers, where there are as many tags as starts
unfoldable pub SearchDown : List ℕ → List ℕ → ℕ → ℕ → ℕ → Option ℕ → Type 0
SearchDown ss ts last more mask (Some a) = length ss ≡ length ts → PowerOfTwo (mask + 1) → HighestIn ss ts last (more + 1) (mask + 1) a
SearchDown ss ts last more mask None = length ss ≡ length ts → PowerOfTwo (mask + 1) → (j b : ℕ) → Room ss ts last (more + 1) (mask + 1) j b → ⊥

-- what `span_at` answers of range i: its ends; or it is granted, or has no end
unfoldable pub Spans : List ℕ → List ℕ → ℕ → ℕ → Option (ℕ × ℕ) → Type 0
Spans ss ts last i (Some (s, e)) = (slice_index ts i ≡ 0) × (s ≡ slice_index ss i) × (e + 1 ≡ past_at ss last i)
Spans ss ts last i None = slice_index ts i ≡ 0 → past_at ss last i ≡ 0

-- what `low_at` answers of range i
unfoldable pub LowAt : List ℕ → List ℕ → ℕ → ℕ → ℕ → ℕ → Option ℕ → Type 0
LowAt ss ts last more mask i (Some a) = PowerOfTwo (mask + 1) → (slice_index ts i ≡ 0) × Lowest (slice_index ss i) (past_at ss last i) (more + 1) (mask + 1) a
LowAt ss ts last more mask i None = PowerOfTwo (mask + 1) → (b : ℕ) → Room ss ts last (more + 1) (mask + 1) i b → ⊥

-- what `high_at` answers of range i
unfoldable pub HighAt : List ℕ → List ℕ → ℕ → ℕ → ℕ → ℕ → Option ℕ → Type 0
HighAt ss ts last more mask i (Some a) = PowerOfTwo (mask + 1) → (slice_index ts i ≡ 0) × Highest (slice_index ss i) (past_at ss last i) (more + 1) (mask + 1) a
HighAt ss ts last more mask i None = PowerOfTwo (mask + 1) → (b : ℕ) → Room ss ts last (more + 1) (mask + 1) i b → ⊥

-- no free range from range `from` on and before range `to`, none of which is the last, has more than `more` addresses
unfoldable pub Narrow : List ℕ → List ℕ → ℕ → ℕ → ℕ → Type 0
Narrow ss ts more from to = (j : ℕ) → from ≤ j → j < to → (j + 1 < length ss) × (slice_index ts j ≡ 0 → slice_index ss (j + 1) ≤ slice_index ss j + more)
