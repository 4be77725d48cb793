-- Laws of a number's digits: how many there are, and the last one first. Assumes nothing.
use mathlib.Core.Path.{◌≡◌, refl, sym, ap, ◌∙◌, subst}
use mathlib.Core.Bool.{Bool, true, false, cond}
use mathlib.Core.List.{List, [], ◌∷◌, ◌++◌}
use Prim.Native.Nat.{ℕ, zero, suc, ◌+◌, ◌-◌, ◌*◌, ◌/◌, ◌%◌, ◌^◌, ◌≤◌, ◌<◌}
use native.Mathlib.Nat.{div-lt_iff_lt-mul, mod-eq_of_lt, pow-zero, pow-suc, pow-le-pow_left, one-mul}
use native.Mathlib.Omega.{arith}
use lib.Dec.{ltb}
use lib.ListN.{length, length-append}
use borrow.Author.Tests.{ltb-true, lt-ltb, le-ltb}
use Rattle.numerals.specs.Spelled.{glyph, spell, hexadecimal}

-- the last k digits of n in base b
abbrev pub fixed : ℕ → ℕ → ℕ → List ℕ
fixed b zero n = []
fixed b (suc k) n = fixed b k (n / b) ++ (glyph (n % b) ∷ [])

-- one digit more, by the code's count
pub fixed_step : (b i n : ℕ) → 0 < i → fixed b i n ≡ fixed b (i - 1) (n / b) ++ (glyph (n % b) ∷ [])
fixed_step b zero n h = absurd (omega arith)
fixed_step b (suc j) n h = let e : suc j - 1 ≡ j = omega arith in rw e

-- a number below the base is one digit
pub spell_small : (b k n : ℕ) → n < b → spell b (suc k) n ≡ glyph n ∷ []
spell_small b k n h = rw (lt-ltb n b h)

-- another has one digit more than what division leaves
pub spell_large : (b k n : ℕ) → b ≤ n → spell b (suc k) n ≡ spell b k (n / b) ++ (glyph (n % b) ∷ [])
spell_large b k n h = rw (le-ltb n b h)

-- the digits of n are the last ones, as many as there are
pub spell_fixed : (b k n : ℕ) → spell b k n ≡ fixed b (length (spell b k n)) n
spell_fixed b zero n = refl
spell_fixed b (suc k) n = go (spell_fixed b k (n / b)) (ltb n b) refl
  where
    go : spell b k (n / b) ≡ fixed b (length (spell b k (n / b))) (n / b) → (t : Bool) → ltb n b ≡ t →
        cond t (glyph n ∷ []) (spell b k (n / b) ++ (glyph (n % b) ∷ []))
        ≡ fixed b (length (cond t (glyph n ∷ []) (spell b k (n / b) ++ (glyph (n % b) ∷ [])))) n
    go ih true e = ap (λ (x : ℕ). glyph x ∷ []) (sym (mod-eq_of_lt (ltb-true n b e)))
    go ih false e =
        let l : length (spell b k (n / b) ++ (glyph (n % b) ∷ [])) ≡ suc (length (spell b k (n / b))) = omega (arith, length-append (spell b k (n / b)) (glyph (n % b) ∷ [])) in
        rw l (ap (λ (x : List ℕ). x ++ (glyph (n % b) ∷ [])) ih)

-- the first power
pub first : (b : ℕ) → b ^ suc zero ≡ b
first b = pow-suc b zero ∙ ap (λ (x : ℕ). x * b) (pow-zero b) ∙ one-mul b

-- a 64-bit number has 20 digits at most, in base ten or above
pub twenty : (b n : ℕ) → 10 ≤ b → n < 2 ^ 64 → n < b ^ 20
twenty b n h l = omega (arith, pow-le-pow_left h 20)

-- what is left of a number after a division
pub quotient : (b f n : ℕ) → 0 < b → n < b ^ suc f → n / b < b ^ f
quotient b f n p h = (div-lt_iff_lt-mul {k = b} {x = n} {y = b ^ f} p).1 (subst (λ (x : ℕ). n < x) (pow-suc b f) h)

-- the count so far, and how many digits may still come
pub record Counting (b n k rest : ℕ) : Type 0 where
  pub left : ℕ
  pub count : length (spell b 20 n) + 1 ≡ k + length (spell b (suc left) rest)
  pub most : k + left ≡ 20
  pub below : rest < b ^ suc left

pub counting_start : (b n : ℕ) → 10 ≤ b → n < 2 ^ 64 → Counting b n 1 n
counting_start b n h l = record { left = 19; count = omega arith; most = omega arith; below = twenty b n h l }

pub counting_step : (b n k rest : ℕ) → 10 ≤ b → b ≤ rest → Counting b n k rest → Counting b n (k + 1) (rest / b)
counting_step b n k rest p h w = go w.left w.count w.most w.below
  where
    go : (f : ℕ) → length (spell b 20 n) + 1 ≡ k + length (spell b (suc f) rest) → k + f ≡ 20 → rest < b ^ suc f → Counting b n (k + 1) (rest / b)
    go zero count most below = absurd (omega (arith, below, first b))
    go (suc f) count most below =
        let l : length (spell b (suc (suc f)) rest) ≡ length (spell b (suc f) (rest / b)) + 1 = ap length (spell_large b (suc f) rest h) ∙ length-append (spell b (suc f) (rest / b)) (glyph (rest % b) ∷ []) in
        record { left = f; count = omega arith; most = omega arith; below = quotient b (suc f) rest (omega arith) below }

pub counting_end : (b n k rest : ℕ) → rest < b → Counting b n k rest → (k ≡ length (spell b 20 n)) × (k ≤ 20)
counting_end b n k rest h w =
    (omega (arith, w.count, ap length (spell_small b w.left rest h)), omega (arith, w.most))

-- no more digits than were enough
pub spell_most : (b k n : ℕ) → length (spell b k n) ≤ k
spell_most b zero n = omega arith
spell_most b (suc k) n = go (spell_most b k (n / b)) (ltb n b)
  where
    go : length (spell b k (n / b)) ≤ k → (t : Bool) → length (cond t (glyph n ∷ []) (spell b k (n / b) ++ (glyph (n % b) ∷ []))) ≤ suc k
    go ih true = omega arith
    go ih false = omega (arith, length-append (spell b k (n / b)) (glyph (n % b) ∷ []))

pub hexadecimal_most : (n : ℕ) → length (hexadecimal n) ≤ 22
unfolding hexadecimal
hexadecimal_most n = omega (arith, spell_most 16 20 n)
