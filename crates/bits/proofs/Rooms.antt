-- How many words the bits and their summaries take: the number is one number, summaries that agree have as many words, and zeros agree.
-- Assumes nothing.
use mathlib.Core.Path.{◌≡◌, refl, ap, ◌∙◌}
use mathlib.Core.List.{List}
use Prim.Native.Nat.{ℕ, zero, suc, ◌+◌, ◌/◌, ◌%◌, ◌^◌, ◌≤◌, ◌<◌}
use native.Mathlib.Nat.{zero-div}
use native.Mathlib.Omega.{arith}
use lib.ListN.{length, get_or, drop, length-drop}
use lib.Seq.{get_or-drop}
use Rattle.bits.specs.Bits.{digit, bit, Summed, Words}
use Rattle.bits.specs.Bits.Words.{one, more}
use Rattle.bits.proofs.Levels.{bit_in}

pub words_unique : {l m n : ℕ} → Words l m → Words l n → m ≡ n
words_unique (one h) (one k) = refl
words_unique (one h) (more k w) = absurd (omega arith)
words_unique (more h v) (one k) = absurd (omega arith)
words_unique (more {last} h v) (more k w) = ap (λ (x : ℕ). last / 64 + 1 + x) (words_unique v w)

-- the level's own words are among them
pub words_level : {l n : ℕ} → Words l n → l / 64 < n
words_level (one h) = omega arith
words_level (more h w) = omega arith

-- summaries that agree have all their words
pub summed_words : {l n : ℕ} → Words l n → (d : ℕ) (ws : List ℕ) → Summed d ws l → n ≤ length ws
unfolding Summed
summed_words (one h) zero ws s = s.1
summed_words (one h) (suc d) ws s = absurd (omega (arith, s.0))
summed_words (more h w) zero ws s = absurd (omega (arith, s.0))
summed_words (more {last} {n} h w) (suc d) ws s =
    let up = summed_words w d (drop (last / 64 + 1) ws) s.4 in
    omega (arith, length-drop (last / 64 + 1) ws, s.1)

-- a bit of a word that is 0
pub zero_bit : (ws : List ℕ) (j : ℕ) → get_or ws (j / 64) 0 ≡ 0 → bit ws j ≡ 0
unfolding digit
zero_bit ws j e =
    bit_in ws j (j / 64) refl ∙ ap (λ (x : ℕ). x / 2 ^ (j % 64) % 2) e ∙ ap (λ (x : ℕ). x % 2) (zero-div (2 ^ (j % 64)))

-- zeros agree with their summaries
pub zeros_summed : {l n : ℕ} → Words l n → (ws : List ℕ) → n ≤ length ws → ((k : ℕ) → k < n → get_or ws k 0 ≡ 0) → (d : ℕ) × Summed d ws l
unfolding Summed
zeros_summed (one h) ws r z = (0, (h, r))
zeros_summed (more {last} {n} h w) ws r z =
    let a : ℕ = last / 64 + 1 in
    let tail : (k : ℕ) → k < n → get_or (drop a ws) k 0 ≡ 0 = λ k l. get_or-drop a ws k 0 ∙ z (a + k) (omega arith) in
    let up = zeros_summed w (drop a ws) (omega (arith, length-drop a ws)) tail in (
      suc up.0,
      (
        h,
        omega arith,
        (λ i l e. absurd (omega (arith, z i (omega arith)))),
        (λ i l e. absurd (omega (arith, zero_bit (drop a ws) i (tail (i / 64) (omega (arith, words_level w)))))),
        up.1,
      ),
    )
