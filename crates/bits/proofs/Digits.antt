-- The binary digits of a word: how many ones stand below the lowest zero, and one digit changed.
--     low_ones       `trailing_zeros(!w)`
--     full_digit     every digit of a full word is 1
--     toggle         `w ^ (1 << t)`
-- Assumes nothing.
use mathlib.Core.Path.{◌≡◌, refl, sym, ap, ◌∙◌, subst}
use mathlib.Core.Logic.{⊎_elim}
use Prim.Native.Nat.{ℕ, zero, suc, ◌-◌, ◌/◌, ◌%◌, ◌^◌, ◌<◌, zero-le, suc-le-suc}
use native.Mathlib.Nat.{eq-zero-or-pos, div-one, mod-lt, not-suc-le-zero, le_of_suc-le-suc, suc_inj}
use native.Mathlib.Numerals.{one-add}
use native.Mathlib.Omega.{arith}
use lib.Pow.{shr-shr, pow_pos}
use lib.Count.{count_trailing_zeros, under}
use lib.Bits.{bit_xor, xor_shr, xor_mod, xor_zero_r}
use Rattle.bits.specs.Bits.{digit, LowOnes, Toggled}

-- a digit by recursion on its place
pub digit_zero : (w : ℕ) → digit w 0 ≡ w % 2
unfolding digit
digit_zero w = ap (λ (x : ℕ). x % 2) (div-one w)

pub digit_suc : (w j : ℕ) → digit w (suc j) ≡ digit (w / 2) j
unfolding digit
digit_suc w j = ap (λ (x : ℕ). w / 2 ^ x % 2) (sym (one-add j)) ∙ ap (λ (x : ℕ). x % 2) (sym (shr-shr w 1 j))

-- every digit of 2 ^ k - 1 below k is 1
pub full_digit : (k j : ℕ) → j < k → digit (2 ^ k - 1) j ≡ 1
full_digit zero j h = absurd (not-suc-le-zero h)
full_digit (suc k) zero h = digit_zero (2 ^ suc k - 1) ∙ omega (arith, pow_pos k)
full_digit (suc k) (suc j) h =
    let e : (2 ^ suc k - 1) / 2 ≡ 2 ^ k - 1 = omega (arith, pow_pos k) in
    digit_suc (2 ^ suc k - 1) j ∙ ap (λ (x : ℕ). digit x j) e ∙ full_digit k j (le_of_suc-le-suc h)

-- the zeros below the lowest one of the complement are the ones below the lowest zero
pub low_ones : (k w : ℕ) → w < 2 ^ k → LowOnes k w (count_trailing_zeros k ((2 ^ k - 1) - w))
unfolding count_trailing_zeros
low_ones zero w h =
    record {
      within = zero-le;
      ones = λ j l. absurd (not-suc-le-zero l);
      then_zero = λ l. absurd (not-suc-le-zero l);
      all = λ e. omega arith;
    }
low_ones (suc k) w h = ⊎_elim even (odd (low_ones k (w / 2) (omega arith))) (eq-zero-or-pos (w % 2))
  where
    n : ℕ
    n = (2 ^ suc k - 1) - w

    even : w % 2 ≡ 0 → LowOnes (suc k) w (count_trailing_zeros (suc k) n)
    even z =
        let d : n % 2 ≡ 1 = omega arith in
        let t : count_trailing_zeros (suc k) n ≡ 0 = ap (λ (x : ℕ). under x (count_trailing_zeros k (n / 2))) d in
        subst (LowOnes (suc k) w) (sym t) record {
          within = zero-le;
          ones = λ j l. absurd (not-suc-le-zero l);
          then_zero = λ l. digit_zero w ∙ z;
          all = λ e. absurd (omega arith);
        }

    odd : LowOnes k (w / 2) (count_trailing_zeros k ((2 ^ k - 1) - w / 2)) → 0 < w % 2 → LowOnes (suc k) w (count_trailing_zeros (suc k) n)
    odd r p =
        let d : n % 2 ≡ 0 = omega arith in
        let s : n / 2 ≡ (2 ^ k - 1) - w / 2 = omega arith in
        let t : count_trailing_zeros (suc k) n ≡ suc (count_trailing_zeros k ((2 ^ k - 1) - w / 2)) =
        ap (λ (x : ℕ). under x (count_trailing_zeros k (n / 2))) d ∙ ap (λ (x : ℕ). suc (count_trailing_zeros k x)) s in
        subst (LowOnes (suc k) w) (sym t) record {
          within = suc-le-suc r.within;
          ones = λ j. elim j as (λ i. i < suc (count_trailing_zeros k ((2 ^ k - 1) - w / 2)) → digit w i ≡ 1) [ zero ↦ (λ l. digit_zero w ∙ omega arith) | suc i ↦ (λ l. digit_suc w i ∙ r.ones i (le_of_suc-le-suc l)) ];
          then_zero = λ l. digit_suc w (count_trailing_zeros k ((2 ^ k - 1) - w / 2)) ∙ r.then_zero (le_of_suc-le-suc l);
          all = λ e. omega (arith, r.all (suc_inj e));
        }

-- a last digit changed
flip_bit : (b : ℕ) → b < 2 → bit_xor b 1 ≡ 1 - b
flip_bit zero h = refl
flip_bit (suc zero) h = refl
flip_bit (suc (suc b)) h = absurd (omega arith)

pow_half : (t : ℕ) → 2 ^ suc t / 2 ≡ 2 ^ t
pow_half t = omega arith

pow_even : (t : ℕ) → 2 ^ suc t % 2 ≡ 0
pow_even t = omega arith

-- the digits of w ^ 2^(t + 1) are the last digit of w, and those of (w / 2) ^ 2^t
half : (w t : ℕ) → bit_xor w (2 ^ suc t) / 2 ≡ bit_xor (w / 2) (2 ^ t)
half w t = xor_shr w (2 ^ suc t) 1 ∙ ap (bit_xor (w / 2)) (pow_half t)

last_kept : (w t : ℕ) → bit_xor w (2 ^ suc t) % 2 ≡ w % 2
last_kept w t = xor_mod w (2 ^ suc t) 1 ∙ ap (bit_xor (w % 2)) (pow_even t) ∙ xor_zero_r (w % 2)

there : (t w : ℕ) → digit (bit_xor w (2 ^ t)) t ≡ 1 - digit w t
there zero w =
    digit_zero (bit_xor w 1) ∙ xor_mod w 1 1 ∙ flip_bit (w % 2) (mod-lt w (pow_pos 1)) ∙ ap (λ (x : ℕ). 1 - x) (sym (digit_zero w))
there (suc t) w =
    digit_suc (bit_xor w (2 ^ suc t)) t ∙ ap (λ (x : ℕ). digit x t) (half w t) ∙ there t (w / 2) ∙ ap (λ (x : ℕ). 1 - x) (sym (digit_suc w t))

elsewhere : (t w j : ℕ) → (j ≡ t → ⊥) → digit (bit_xor w (2 ^ t)) j ≡ digit w j
elsewhere zero w zero f = absurd (f refl)
elsewhere zero w (suc j) f =
    digit_suc (bit_xor w 1) j ∙ ap (λ (x : ℕ). digit x j) (xor_shr w 1 1 ∙ xor_zero_r (w / 2)) ∙ sym (digit_suc w j)
elsewhere (suc t) w zero f = digit_zero (bit_xor w (2 ^ suc t)) ∙ last_kept w t ∙ sym (digit_zero w)
elsewhere (suc t) w (suc j) f =
    digit_suc (bit_xor w (2 ^ suc t)) j ∙ ap (λ (x : ℕ). digit x j) (half w t) ∙ elsewhere t (w / 2) j (λ e. f (ap suc e)) ∙ sym (digit_suc w j)

-- digit t changed, and no other
pub toggle : (w t : ℕ) → Toggled w (bit_xor w (2 ^ t)) t
toggle w t = record { there = there t w; elsewhere = elsewhere t w }
