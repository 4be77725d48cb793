-- How many of the numbers below a bound have a property, told number by number from 0 up.
use Rattle.std.specs.Prelude.{ℕ, suc}

-- just n of the numbers below b have P: each of them has it and counts, or has it not and does not
pub data Count (P : ℕ → Type 0) : ℕ → ℕ → Type 0 where
  none : Count P 0 0
  one : {b n : ℕ} → P b → Count P b n → Count P (suc b) (suc n)
  skip : {b n : ℕ} → (¬ P b) → Count P b n → Count P (suc b) n
