-- A number as text.
use Rattle.std.specs.Prelude.{cond, List, [], ◌∷◌, ◌++◌, ℕ, zero, suc, ◌+◌, ◌/◌, ◌%◌, ltb}

-- the byte of a digit below 16: 0 to 9, then a to f
abbrev pub glyph : ℕ → ℕ
glyph d = cond (ltb d 10) (48 + d) (87 + d)

-- the digits of n in base b, where k of them are enough
abbrev pub spell : ℕ → ℕ → ℕ → List ℕ
spell b zero n = []
spell b (suc k) n = cond (ltb n b) (glyph n ∷ []) (spell b k (n / b) ++ (glyph (n % b) ∷ []))

-- a 64-bit number has 20 decimal digits at most, and 16 hexadecimal ones
unfoldable pub decimal : ℕ → List ℕ
decimal n = spell 10 20 n

unfoldable pub hexadecimal : ℕ → List ℕ
hexadecimal n = 48 ∷ (120 ∷ spell 16 20 n)
