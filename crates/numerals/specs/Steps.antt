-- What the parts of reading and printing do, for their own contracts.
use Rattle.std.specs.Prelude.{◌≡◌, cond, ℕ, ◌+◌, ◌*◌, ◌^◌, ◌≤◌, ltb, length, Option, Some, None}
use Rattle.numerals.specs.Spelled.{spell}

-- a number, if it fits
abbrev pub sum_of : ℕ → Option ℕ
sum_of n = cond (ltb n (2 ^ 64)) (Some n) None

-- a digit is added to b times the sum
abbrev pub added : Option ℕ → ℕ → ℕ → Option ℕ
added (Some n) b d = sum_of (n * b + d)
added None b d = None

-- k is the number of n's digits
abbrev pub Counted : ℕ → ℕ → ℕ → Type 0
Counted b n k = (k ≡ length (spell b 20 n)) × (k ≤ 20)
