-- Worked examples of the definitions, computed.
use Rattle.std.specs.Prelude.{◌≡◌, refl, [], ◌∷◌, Ok, Err}
use Rattle.numerals.specs.Numeral.{digit, read}
use Rattle.numerals.specs.Spelled.{decimal, hexadecimal}
use Rattle.numerals.specs.declared.NoNumber.TheVariants.{NoDigit, TooLarge}

-- 0xd0_00
hexadecimal_read : read (48 ∷ 120 ∷ 100 ∷ 48 ∷ 95 ∷ 48 ∷ 48 ∷ []) ≡ Ok 0xd000
unfolding digit
hexadecimal_read = refl

-- 1_024
decimal_read : read (49 ∷ 95 ∷ 48 ∷ 50 ∷ 52 ∷ []) ≡ Ok 1024
unfolding digit
decimal_read = refl

-- 0x: a digit is wanted behind it
nothing_behind : read (48 ∷ 120 ∷ []) ≡ Err (NoDigit 2)
unfolding digit
nothing_behind = refl

-- _1: a digit comes first
underscore_first : read (95 ∷ 49 ∷ []) ≡ Err (NoDigit 0)
unfolding digit
underscore_first = refl

-- 12f: f is no decimal digit
not_decimal : read (49 ∷ 50 ∷ 102 ∷ []) ≡ Err (NoDigit 2)
unfolding digit
not_decimal = refl

-- 18446744073709551616 is 2^64
too_large : read (49 ∷ 56 ∷ 52 ∷ 52 ∷ 54 ∷ 55 ∷ 52 ∷ 52 ∷ 48 ∷ 55 ∷ 51 ∷ 55 ∷ 48 ∷ 57 ∷ 53 ∷ 53 ∷ 49 ∷ 54 ∷ 49 ∷ 54 ∷ []) ≡ Err TooLarge
unfolding digit
too_large = refl

-- 255 and 0xff
spelled_decimal : decimal 255 ≡ 50 ∷ 53 ∷ 53 ∷ []
unfolding decimal
spelled_decimal = refl

spelled_hexadecimal : hexadecimal 255 ≡ 48 ∷ 120 ∷ 102 ∷ 102 ∷ []
unfolding hexadecimal
spelled_hexadecimal = refl
