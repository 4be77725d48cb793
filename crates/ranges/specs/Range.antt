-- Closed ranges of 64-bit addresses.
use Rattle.std.specs.Prelude.{◌≡◌, ℕ, ◌+◌, ◌-◌, ◌^◌, ◌<◌, ◌≤◌, Result, Ok, Err}
use Rattle.ranges.specs.declared.Error.{Error}
use Rattle.ranges.specs.declared.RangeInclusive.{RangeInclusive}

-- a pair is a range if it is in order and its length fits 64 bits
abbrev pub IsRange : ℕ → ℕ → Type 0
IsRange s e = (s ≤ e) × (e - s + 1 < 2 ^ 64)

-- x is an address of r
abbrev pub In : ℕ → RangeInclusive → Type 0
In x r = (r.start ≤ x) × (x ≤ r.end)

-- a and b have an address in common
abbrev pub Overlap : RangeInclusive → RangeInclusive → Type 0
Overlap a b = (x : ℕ) × In x a × In x b

-- every address of b is one of a
abbrev pub Contains : RangeInclusive → RangeInclusive → Type 0
Contains a b = (x : ℕ) → In x b → In x a

-- n is the number of r's addresses; 0 for a pair that is no range
pub record Counts (r : RangeInclusive) (n : ℕ) : Type 0 where
  pub of_range : IsRange r.start r.end → n ≡ r.end - r.start + 1
  pub of_none : (IsRange r.start r.end → ⊥) → n ≡ 0

-- what making a range of s and e answers
abbrev pub MakesRange : ℕ → ℕ → Result RangeInclusive Error → Type 0
MakesRange s e (Ok r) = (r.start ≡ s) × (r.end ≡ e) × IsRange s e
MakesRange s e (Err x) = (x ≡ Error.InvalidRange) × (IsRange s e → ⊥)
