-- Counting the zeros among the digits of a word, and among the bits of a run of words, a word or a bit at a time.
-- Assumes nothing.
use mathlib.Core.Path.{◌≡◌, sym, ap, ◌∙◌, subst}
use mathlib.Core.Logic.{⊎_elim}
use mathlib.Core.Bool.{Bool, true, false}
use mathlib.Core.List.{List}
use Prim.Native.Nat.{ℕ, zero, suc, ◌+◌, ◌-◌, ◌*◌, ◌/◌, ◌%◌, ◌^◌, ◌<◌}
use native.Mathlib.Nat.{add-zero, eq-zero-or-pos}
use native.Mathlib.Omega.{arith}
use lib.Count.{ones, ones_step, ones-le, ones-ones}
use lib.ListN.{get_or}
use Rattle.ranges.specs.Align.{Decides}
use Rattle.ranges.specs.Count.{Count, one, skip}
use Rattle.bits.specs.Bits.{digit, bit}
use Rattle.bits.proofs.Digits.{digit_zero, digit_suc}
use Rattle.bits.proofs.Levels.{bit_at, bit_lt}

-- k numbers more, of which those are counted where a digit of w is 0
pub digits_count : (P : ℕ → Type 0) (k w b n : ℕ) → w < 2 ^ k → ((j : ℕ) → j < k → digit w j ≡ 0 → P (b + j))
    → ((j : ℕ) → j < k → digit w j ≡ 1 → ¬ P (b + j)) → Count P b n → Count P (b + k) (n + (k - ones w))
digits_count P zero w b n h f g c = subst (λ (x : ℕ). Count P (b + 0) x) (let e : n ≡ n + (0 - ones w) = omega arith in e) (rw (add-zero b) c)
digits_count P (suc k) w b n h f g c =
    let l = ones-le k (w / 2) (omega arith) in
    let s = ones_step w in
    let here : suc b + k ≡ b + suc k = omega arith in
    ⊎_elim
    (λ (z : w % 2 ≡ 0).
    subst (λ (x : ℕ). Count P x (n + (suc k - ones w))) here
    (subst (λ (x : ℕ). Count P (suc b + k) x) (let e : suc n + (k - ones (w / 2)) ≡ n + (suc k - ones w) = omega arith in e)
    (digits_count P k (w / 2) (suc b) (suc n) (omega arith)
    (λ j m d. subst P (let e : b + suc j ≡ suc b + j = omega arith in e) (f (suc j) (omega arith) (digit_suc w j ∙ d)))
    (λ j m d p. g (suc j) (omega arith) (digit_suc w j ∙ d) (subst P (let e : suc b + j ≡ b + suc j = omega arith in e) p))
    (one (subst P (add-zero b) (f 0 (omega arith) (digit_zero w ∙ z))) c))))
    (λ (z : 0 < w % 2).
    subst (λ (x : ℕ). Count P x (n + (suc k - ones w))) here
    (subst (λ (x : ℕ). Count P (suc b + k) x) (let e : n + (k - ones (w / 2)) ≡ n + (suc k - ones w) = omega arith in e)
    (digits_count P k (w / 2) (suc b) n (omega arith)
    (λ j m d. subst P (let e : b + suc j ≡ suc b + j = omega arith in e) (f (suc j) (omega arith) (digit_suc w j ∙ d)))
    (λ j m d p. g (suc j) (omega arith) (digit_suc w j ∙ d) (subst P (let e : suc b + j ≡ b + suc j = omega arith in e) p))
    (skip (λ p. g 0 (omega arith) (digit_zero w ∙ omega arith) (subst P (sym (add-zero b)) p)) c))))
    (eq-zero-or-pos (w % 2))

-- the digits that are 1 in a number and those that are 1 in its complement are all k
pub ones_not : (k n : ℕ) → n < 2 ^ k → ones (2 ^ k - 1 - n) + ones n ≡ k
ones_not zero n h = let z : n ≡ 0 = omega arith in rw z (omega (arith, ones-ones 0))
ones_not (suc k) n h =
    let i = ones_not k (n / 2) (omega arith) in
    let m : ℕ = 2 ^ suc k - 1 - n in
    let e : m / 2 ≡ 2 ^ k - 1 - n / 2 = omega arith in
    omega (arith, i, ones_step n, ones_step m, ap ones e)

-- the zeros of one word more
pub word_zeros : (ws : List ℕ) (k n : ℕ) → get_or ws k 0 < 2 ^ 64 → Count (λ j. bit ws j ≡ 0) (k * 64) n
    → Count (λ j. bit ws j ≡ 0) ((k + 1) * 64) (n + (64 - ones (get_or ws k 0)))
word_zeros ws k n h c =
    subst (λ (x : ℕ). Count (λ j. bit ws j ≡ 0) x (n + (64 - ones (get_or ws k 0)))) (let e : k * 64 + 64 ≡ (k + 1) * 64 = omega arith in e)
    (digits_count (λ j. bit ws j ≡ 0) 64 (get_or ws k 0) (k * 64) n h
    (λ j l d. bit_at ws k j l ∙ d)
    (λ j l d z. let e : digit (get_or ws k 0) j ≡ 0 = sym (bit_at ws k j l) ∙ z in omega arith)
    c)

-- one bit more, that is not 1 or that is
pub bit_zero : (ws : List ℕ) (i n : ℕ) (b : Bool) → b ≡ false → Decides b (bit ws i ≡ 1) → Count (λ j. bit ws j ≡ 0) i n → Count (λ j. bit ws j ≡ 0) (i + 1) (n + 1)
bit_zero ws i n true e d c = absurd (let z : ◌≡◌ {A = ℕ} 0 1 = cc (e) in omega arith)
bit_zero ws i n false e d c =
    let z : bit ws i ≡ 0 = ⊎_elim (λ (q : bit ws i ≡ 0). q) (λ (q : 0 < bit ws i). absurd (d (omega (arith, bit_lt ws i)))) (eq-zero-or-pos (bit ws i)) in
    subst (λ (x : ℕ). Count (λ j. bit ws j ≡ 0) x (n + 1)) (let e : suc i ≡ i + 1 = omega arith in e)
    (subst (λ (x : ℕ). Count (λ j. bit ws j ≡ 0) (suc i) x) (let e : suc n ≡ n + 1 = omega arith in e) (one z c))

pub bit_one : (ws : List ℕ) (i n : ℕ) (b : Bool) → b ≡ true → Decides b (bit ws i ≡ 1) → Count (λ j. bit ws j ≡ 0) i n → Count (λ j. bit ws j ≡ 0) (i + 1) n
bit_one ws i n true e d c =
    subst (λ (x : ℕ). Count (λ j. bit ws j ≡ 0) x n) (let e : suc i ≡ i + 1 = omega arith in e) (skip (λ z. omega (arith, d)) c)
bit_one ws i n false e d c = absurd (let z : ◌≡◌ {A = ℕ} 0 1 = cc (e) in omega arith)
