-- What a numeral means: decimal digits, or `0x` and hexadecimal ones, with `_` anywhere after the first digit.
use Rattle.std.specs.Prelude.{Bool, false, cond, List, [], ◌∷◌, ℕ, suc, ◌+◌, ◌-◌, ◌*◌, ◌^◌, ltb, eqb, drop, Result, Ok, Err}
use Rattle.numerals.specs.declared.NoNumber.{NoNumber}
use Rattle.numerals.specs.declared.NoNumber.TheVariants.{NoDigit, TooLarge}

-- the digit that a byte stands for, 0 to 9, a to f and A to F; 16 for a byte that is none
unfoldable pub digit : ℕ → ℕ
digit c =
    cond (ltb c 48) 16
    (cond (ltb c 58) (c - 48)
    (cond (ltb c 65) 16
    (cond (ltb c 71) (c - 55)
    (cond (ltb c 97) 16
    (cond (ltb c 103) (c - 87) 16)))))

-- a text means a number, or a digit is wanted at a place of it
pub data Meaning : Type 0 where
  means : ℕ → Meaning
  wrong : ℕ → Meaning

-- the bytes from place i on, in base b, after digits that mean n: `_` changes nothing, and a digit is added to b times what is before it
abbrev pub after : ℕ → ℕ → ℕ → List ℕ → Meaning
after b n i [] = means n
after b n i (c ∷ s) =
    cond (eqb c 95)
    (after b n (suc i) s)
    (cond (ltb (digit c) b) (after b (n * b + digit c) (suc i) s) (wrong i))

-- the bytes from place i on, of which the first is a digit
abbrev pub digits : ℕ → ℕ → List ℕ → Meaning
digits b i [] = wrong i
digits b i (c ∷ s) = cond (ltb (digit c) b) (after b (digit c) (suc i) s) (wrong i)

-- the text begins with `0x`
abbrev pub is_hex : List ℕ → Bool
is_hex [] = false
is_hex (c ∷ []) = false
is_hex (c ∷ (d ∷ s)) = cond (eqb c 48) (eqb d 120) false

-- what a text means
abbrev pub numeral : List ℕ → Meaning
numeral s = cond (is_hex s) (digits 16 2 (drop 2 s)) (digits 10 0 (drop 0 s))

-- a number fits 64 bits or is too large
abbrev pub fitted : Meaning → Result ℕ NoNumber
fitted (means n) = cond (ltb n (2 ^ 64)) (Ok n) (Err TooLarge)
fitted (wrong i) = Err (NoDigit i)

-- what reading a text answers
abbrev pub read : List ℕ → Result ℕ NoNumber
read s = fitted (numeral s)
