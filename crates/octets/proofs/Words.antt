-- Words and their bytes. Assumes nothing.
--     word_below       a word of bytes is below 2^64
--     word_same        bytes that are alike from 8 i up to 8 i + 8 make the same word i
--     word_bytes       the same word i is made by the same bytes
--     put_word         after `put` every other word is as it was
use Rattle.std.proofs.Common.{◌≡◌, ℕ, zero, suc, ◌+◌, ◌*◌, ◌^◌, ◌<◌, ◌≤◌, ◌⊎◌, List, get_or, sym, subst, inl, inr, ⊎_elim, arith}
use Rattle.octets.specs.Octets.{two, four, eight, word, Bytes, Puts}

-- one of two numbers is below the other, or not
pub below_or_not : (a b : ℕ) → (a < b) ⊎ (b ≤ a)
below_or_not a zero = inr (omega arith)
below_or_not zero (suc b) = inl (omega arith)
below_or_not (suc a) (suc b) = ⊎_elim (λ h. inl (omega arith)) (λ h. inr (omega arith)) (below_or_not a b)

two_below : (bs : List ℕ) (k : ℕ) → Bytes bs → two bs k < 65536
unfolding two
two_below bs k b = omega (arith, b k, b (k + 1))

four_below : (bs : List ℕ) (k : ℕ) → Bytes bs → four bs k < 2 ^ 32
unfolding four
four_below bs k b = omega (arith, two_below bs k b, two_below bs (k + 2) b)

eight_below : (bs : List ℕ) (k : ℕ) → Bytes bs → eight bs k < 2 ^ 64
unfolding eight
eight_below bs k b = omega (arith, four_below bs k b, four_below bs (k + 4) b)

-- a rule that reads the n bytes from k on and nothing else
abbrev Local : (List ℕ → ℕ → ℕ) → ℕ → Type 0
Local value n = (a b : List ℕ) (k : ℕ) → ((j : ℕ) → k ≤ j → j < k + n → get_or a j 0 ≡ get_or b j 0) → value a k ≡ value b k

two_local : Local two 2
unfolding two
two_local a b k e = omega (arith, e k (omega arith) (omega arith), e (k + 1) (omega arith) (omega arith))

four_local : Local four 4
unfolding four
four_local a b k e = omega (arith, two_local a b k (λ j l h. e j l (omega arith)), two_local a b (k + 2) (λ j l h. e j (omega arith) (omega arith)))

eight_local : Local eight 8
unfolding eight
eight_local a b k e = omega (arith, four_local a b k (λ j l h. e j l (omega arith)), four_local a b (k + 4) (λ j l h. e j (omega arith) (omega arith)))

pub word_below : (bs : List ℕ) (i : ℕ) → Bytes bs → word bs i < 2 ^ 64
unfolding word
word_below bs i b = eight_below bs (8 * i) b

pub word_same : (a b : List ℕ) (i : ℕ) → ((j : ℕ) → 8 * i ≤ j → j < 8 * i + 8 → get_or a j 0 ≡ get_or b j 0) → word a i ≡ word b i
unfolding word
word_same a b i e = eight_local a b (8 * i) e

-- a number of two parts, the lower below its bound, has just one lower and one upper part
pub record Same (a b c d : ℕ) : Type 0 where
  pub low : a ≡ c
  pub high : b ≡ d

two_bytes : (a b : List ℕ) (k : ℕ) → Bytes a → Bytes b → two a k ≡ two b k → Same (get_or a k 0) (get_or a (k + 1) 0) (get_or b k 0) (get_or b (k + 1) 0)
unfolding two
two_bytes a b k p q e = record { low = omega (arith, p k, q k, e); high = omega (arith, p k, q k, e) }

four_bytes : (a b : List ℕ) (k : ℕ) → Bytes a → Bytes b → four a k ≡ four b k → Same (two a k) (two a (k + 2)) (two b k) (two b (k + 2))
unfolding four
four_bytes a b k p q e = record { low = omega (arith, two_below a k p, two_below b k q, e); high = omega (arith, two_below a k p, two_below b k q, e) }

eight_bytes : (a b : List ℕ) (k : ℕ) → Bytes a → Bytes b → eight a k ≡ eight b k → Same (four a k) (four a (k + 4)) (four b k) (four b (k + 4))
unfolding eight
eight_bytes a b k p q e = record { low = omega (arith, four_below a k p, four_below b k q, e); high = omega (arith, four_below a k p, four_below b k q, e) }

-- the bytes from k up to k + n are alike
abbrev Alike : List ℕ → List ℕ → ℕ → ℕ → Type 0
Alike a b k n = (j : ℕ) → k ≤ j → j < k + n → get_or a j 0 ≡ get_or b j 0

-- and so in two halves
halves : (a b : List ℕ) (k n m : ℕ) → Alike a b k n → Alike a b (k + n) m → Alike a b k (n + m)
halves a b k n m p q j l h = ⊎_elim (λ (i : j < k + n). p j l i) (λ (i : k + n ≤ j). q j i (omega arith)) (below_or_not j (k + n))

one : (a b : List ℕ) (k : ℕ) → get_or a k 0 ≡ get_or b k 0 → Alike a b k 1
one a b k e j l h = let s : j ≡ k = omega arith in subst (λ (x : ℕ). get_or a x 0 ≡ get_or b x 0) (sym s) e

two_alike : (a b : List ℕ) (k : ℕ) → Bytes a → Bytes b → two a k ≡ two b k → Alike a b k 2
two_alike a b k p q e = let s = two_bytes a b k p q e in halves a b k 1 1 (one a b k s.low) (one a b (k + 1) s.high)

four_alike : (a b : List ℕ) (k : ℕ) → Bytes a → Bytes b → four a k ≡ four b k → Alike a b k 4
four_alike a b k p q e = let s = four_bytes a b k p q e in halves a b k 2 2 (two_alike a b k p q s.low) (two_alike a b (k + 2) p q s.high)

eight_alike : (a b : List ℕ) (k : ℕ) → Bytes a → Bytes b → eight a k ≡ eight b k → Alike a b k 8
eight_alike a b k p q e = let s = eight_bytes a b k p q e in halves a b k 4 4 (four_alike a b k p q s.low) (four_alike a b (k + 4) p q s.high)

pub word_bytes : (a b : List ℕ) (i : ℕ) → Bytes a → Bytes b → word a i ≡ word b i → (j : ℕ) → 8 * i ≤ j → j < 8 * i + 8 → get_or a j 0 ≡ get_or b j 0
unfolding word
word_bytes a b i p q e = eight_alike a b (8 * i) p q e

pub put_word : (a b : List ℕ) (i x : ℕ) → Puts a i x b → (j : ℕ) → (j ≡ i → ⊥) → word b j ≡ word a j
put_word a b i x w j n =
    ⊎_elim
    (λ (h : j < i). word_same b a j (λ k l m. w.other k (inl (omega arith))))
    (λ (h : i ≤ j). word_same b a j (λ k l m. w.other k (inr (past h l))))
    (below_or_not j i)
  where
    past : {k : ℕ} → i ≤ j → 8 * j ≤ k → 8 * i + 8 ≤ k
    past h l = ⊎_elim (λ (s : i < j). omega arith) (λ (s : j ≤ i). absurd (n (omega arith))) (below_or_not i j)
