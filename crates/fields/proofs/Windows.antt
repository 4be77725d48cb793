-- Laws of a window put into lent bytes, one part behind the other. Assumes nothing.
use mathlib.Core.Path.{◌≡◌}
use mathlib.Core.List.{List, [], ◌∷◌}
use Prim.Native.Nat.{ℕ, ◌+◌, ◌≤◌}
use native.Mathlib.Omega.{arith}
use lib.ListN.{length, length-append}
use Rattle.text.specs.Stored.{Puts}
use Rattle.std.proofs.Common.{Option, Some, None}
use Rattle.text.proofs.Stores.{puts_length, puts_then}
use Rattle.numerals.specs.Spelled.{hexadecimal}
use Rattle.fields.specs.Answers.{window_text}

-- how long a window's text is
pub window_length : (low high : ℕ) → length (window_text low high) ≡ length (hexadecimal low) + length (hexadecimal high) + 2
unfolding window_text
window_length low high = omega (arith, length-append (hexadecimal low) (46 ∷ (46 ∷ hexadecimal high)))

module _ (low high at : ℕ) (old : List ℕ) (h : at + (length (hexadecimal low) + length (hexadecimal high) + 2) ≤ length old) where
  -- the three parts make the window
  pub window_puts : (mid mid' new : List ℕ) (i j : ℕ) (r : Option ℕ) → Puts (hexadecimal low) at old mid (Some i) → Puts (46 ∷ (46 ∷ [])) i mid mid' (Some j) →
      Puts (hexadecimal high) j mid' new r → Puts (window_text low high) at old new r
  unfolding window_text
  window_puts mid mid' new i j (Some f) w v u =
      puts_then (hexadecimal low) (46 ∷ (46 ∷ hexadecimal high)) old mid new at i f w
      (puts_then (46 ∷ (46 ∷ [])) (hexadecimal high) mid mid' new i j f v u)
  window_puts mid mid' new i j None w v u =
      absurd (omega (arith, u.0, v.1, w.1, puts_length (hexadecimal low) old mid at i w, puts_length (46 ∷ (46 ∷ [])) mid mid' i j v))
