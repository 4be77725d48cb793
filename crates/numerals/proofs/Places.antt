-- Where a digit is wanted lies in the text or just behind it. Assumes nothing.
use mathlib.Core.Path.{◌≡◌, refl, ap}
use mathlib.Core.Bool.{Bool, true, false, cond}
use mathlib.Core.List.{List, [], ◌∷◌}
use Prim.Native.Nat.{ℕ, suc, ◌+◌, ◌*◌, ◌^◌, ◌≤◌}
use native.Mathlib.Omega.{arith}
use lib.Dec.{ltb, eqb}
use lib.ListN.{length, drop}
use Rattle.numerals.specs.Numeral.{Meaning, means, wrong, digit, after, digits, is_hex, fitted, read}
use Rattle.std.proofs.Common.{Ok, Err}
use Rattle.numerals.specs.declared.NoNumber.TheVariants.{NoDigit, TooLarge}

after_place : (b n i j : ℕ) (s : List ℕ) → after b n i s ≡ wrong j → j ≤ i + length s
after_place b n i j [] e = absurd (let z : ◌≡◌ {A = ℕ} 0 1 = cc in omega arith)
after_place b n i j (c ∷ s) e = go (λ m q. after_place b m (suc i) j s q) (eqb c 95) (ltb (digit c) b) e
  where
    go : ((m : ℕ) → after b m (suc i) s ≡ wrong j → j ≤ suc i + length s) → (t u : Bool) →
        cond t (after b n (suc i) s) (cond u (after b (n * b + digit c) (suc i) s) (wrong i)) ≡ wrong j → j ≤ i + suc (length s)
    go ih true u e = omega (arith, ih n e)
    go ih false true e = omega (arith, ih (n * b + digit c) e)
    go ih false false e = let q : i ≡ j = cc in omega arith

digits_place : (b i j : ℕ) (s : List ℕ) → digits b i s ≡ wrong j → j ≤ i + length s
digits_place b i j [] e = let q : i ≡ j = cc in omega arith
digits_place b i j (c ∷ s) e = go (ltb (digit c) b) e
  where
    go : (t : Bool) → cond t (after b (digit c) (suc i) s) (wrong i) ≡ wrong j → j ≤ i + suc (length s)
    go true e = omega (arith, after_place b (digit c) (suc i) j s e)
    go false e = let q : i ≡ j = cc in omega arith

fitted_place : (m : Meaning) (j : ℕ) → fitted m ≡ Err (NoDigit j) → m ≡ wrong j
fitted_place (wrong i) j e = let q : i ≡ j = cc in ap wrong q
fitted_place (means n) j e = go (ltb n (2 ^ 64)) e
  where
    go : (t : Bool) → cond t (Ok n) (Err TooLarge) ≡ Err (NoDigit j) → means n ≡ wrong j
    go true e = absurd (let z : ◌≡◌ {A = ℕ} 0 1 = cc in omega arith)
    go false e = absurd (let z : ◌≡◌ {A = ℕ} 0 1 = cc in omega arith)

hex_place : (s : List ℕ) (j : ℕ) → is_hex s ≡ true → digits 16 2 (drop 2 s) ≡ wrong j → j ≤ length s
hex_place [] j h e = absurd (let z : ◌≡◌ {A = ℕ} 0 1 = cc in omega arith)
hex_place (c ∷ []) j h e = absurd (let z : ◌≡◌ {A = ℕ} 0 1 = cc in omega arith)
hex_place (c ∷ (d ∷ s)) j h e = omega (arith, digits_place 16 2 j s e)

pub read_place : (s : List ℕ) (j : ℕ) → read s ≡ Err (NoDigit j) → j ≤ length s
read_place s j e = go (is_hex s) refl (fitted_place _ j e)
  where
    go : (t : Bool) → is_hex s ≡ t → cond t (digits 16 2 (drop 2 s)) (digits 10 0 (drop 0 s)) ≡ wrong j → j ≤ length s
    go true h e = hex_place s j h e
    go false h e = omega (arith, digits_place 10 0 j s e)
