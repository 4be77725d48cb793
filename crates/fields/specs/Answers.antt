-- Answers as text, in the form of the claims.
use Rattle.std.specs.Prelude.{List, ◌∷◌, ◌++◌, ℕ}
use Rattle.numerals.specs.Spelled.{hexadecimal}

-- a window: both ends in hexadecimal, with two dots between them
unfoldable pub window_text : ℕ → ℕ → List ℕ
window_text low high = hexadecimal low ++ (46 ∷ (46 ∷ hexadecimal high))
