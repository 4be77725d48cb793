-- The check tells any two rows of words apart that differ in one word (check_differs), and goes by the words alone (check_same).
-- Assumes nothing.
use Rattle.std.proofs.Common.{◌≡◌, ℕ, zero, suc, ◌+◌, ◌-◌, ◌*◌, ◌/◌, ◌%◌, ◌^◌, ◌<◌, ◌≤◌, sym, refl, ap, ◌∙◌, ⊎_elim, div-add-mod', arith}
use Rattle.octets.specs.Octets.{check}
use Rattle.octets.proofs.Words.{below_or_not}

-- equal words have equal checks
pub check_same : (v w : ℕ → ℕ) (n : ℕ) → ((j : ℕ) → j < n → v j ≡ w j) → check v n ≡ check w n
unfolding check
check_same v w zero e = refl
check_same v w (suc n) e = rw (check_same v w n (λ j l. e j (omega arith)), e n (omega arith))

-- a check is below 2^64
pub check_below : (w : ℕ → ℕ) (n : ℕ) → check w n < 2 ^ 64
unfolding check
check_below w zero = omega arith
check_below w (suc n) = omega arith

-- 3 is odd: neither another check so far nor another word gives the same check
lifted : (a b d : ℕ) → a < 2 ^ 64 → 3 * a ≡ 3 * b + d * 2 ^ 64 → a ≡ b
lifted a b zero h e = omega arith
lifted a b (suc zero) h e = absurd (omega arith)
lifted a b (suc (suc zero)) h e = absurd (omega arith)
lifted a b (suc (suc (suc d))) h e = absurd (omega arith)

step_check : (a b x : ℕ) → a < 2 ^ 64 → b < 2 ^ 64 → (3 * a + x) % 2 ^ 64 ≡ (3 * b + x) % 2 ^ 64 → a ≡ b
step_check a b x h k e =
    let p = div-add-mod' (3 * a + x) (2 ^ 64) in
    let q = div-add-mod' (3 * b + x) (2 ^ 64) in
    ⊎_elim
    (λ (l : (3 * a + x) / 2 ^ 64 < (3 * b + x) / 2 ^ 64). sym (lifted b a ((3 * b + x) / 2 ^ 64 - (3 * a + x) / 2 ^ 64) k (omega arith)))
    (λ (l : (3 * b + x) / 2 ^ 64 ≤ (3 * a + x) / 2 ^ 64). lifted a b ((3 * a + x) / 2 ^ 64 - (3 * b + x) / 2 ^ 64) h (omega arith))
    (below_or_not ((3 * a + x) / 2 ^ 64) ((3 * b + x) / 2 ^ 64))

step_word : (a x y : ℕ) → x < 2 ^ 64 → y < 2 ^ 64 → (3 * a + x) % 2 ^ 64 ≡ (3 * a + y) % 2 ^ 64 → x ≡ y
step_word a x y h k e = omega arith

-- the theorem: words that differ in word i, and in no other, have different checks
pub check_differs : (v w : ℕ → ℕ) (n i : ℕ) → i < n → ((j : ℕ) → v j < 2 ^ 64) → ((j : ℕ) → w j < 2 ^ 64) → ((j : ℕ) → (j ≡ i → ⊥) → v j ≡ w j) → check v n ≡ check w n → v i ≡ w i
unfolding check
check_differs v w zero i h p q s e = absurd (omega arith)
check_differs v w (suc n) i h p q s e =
    ⊎_elim
    (λ (l : i < n).
    let t : v n ≡ w n = s n (λ (z : n ≡ i). omega arith) in
    check_differs v w n i l p q s (step_check (check v n) (check w n) (v n) (check_below v n) (check_below w n) (e ∙ ap (λ (x : ℕ). (3 * check w n + x) % 2 ^ 64) (sym t))))
    (λ (l : n ≤ i).
    let z : i ≡ n = omega arith in
    let t : check v n ≡ check w n = check_same v w n (λ j b. s j (λ (y : j ≡ i). omega arith)) in
    let r : v n ≡ w n = step_word (check v n) (v n) (w n) (p n) (q n) (e ∙ ap (λ (x : ℕ). (3 * x + w n) % 2 ^ 64) (sym t)) in
    ap v z ∙ r ∙ ap w (sym z))
    (below_or_not i n)
