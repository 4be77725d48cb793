-- Laws of counting.
--     count_more, count_skip      k numbers more that all have P, and k that all have it not
--     count_most                  where nothing below `from` has P, at most the numbers from there on are counted
--     count_same                  there is one count only
-- Assumes nothing.
use Rattle.std.proofs.Common.{◌≡◌, ℕ, zero, suc, ◌+◌, ◌-◌, ◌<◌, ◌≤◌, refl, ap, add-zero, add-suc, arith}
use native.Mathlib.Decide.{dec_le}
use Rattle.ranges.specs.Count.{Count, none, one, skip}

pub count_more : (P : ℕ → Type 0) (b n k : ℕ) → ((x : ℕ) → b ≤ x → x < b + k → P x) → Count P b n → Count P (b + k) (n + k)
count_more P b n zero f c = rw (add-zero b, add-zero n) c
count_more P b n (suc k) f c = rw (add-suc b k, add-suc n k) (one (f (b + k) (omega arith) (omega arith)) (count_more P b n k (λ x h l. f x h (omega arith)) c))

pub count_skip : (P : ℕ → Type 0) (b n k : ℕ) → ((x : ℕ) → b ≤ x → x < b + k → ¬ P x) → Count P b n → Count P (b + k) n
count_skip P b n zero f c = rw (add-zero b) c
count_skip P b n (suc k) f c = rw (add-suc b k) (skip (f (b + k) (omega arith) (omega arith)) (count_skip P b n k (λ x h l. f x h (omega arith)) c))

pub count_most : {P : ℕ → Type 0} {b n : ℕ} (from : ℕ) → ((x : ℕ) → x < from → ¬ P x) → Count P b n → n ≤ b - from
count_most from f none = omega arith
count_most from f (one {b} {n} p c) = elim (dec_le from b) [ yes h ↦ omega (arith, count_most from f c) | no h ↦ absurd (f b (omega arith) p) ]
count_most from f (skip {b} {n} q c) = omega (arith, count_most from f c)

pub count_same : {P : ℕ → Type 0} {b m n : ℕ} → Count P b m → Count P b n → m ≡ n
count_same none none = refl
count_same (one p c) (one q d) = ap suc (count_same c d)
count_same (skip p c) (skip q d) = count_same c d
count_same (one p c) (skip q d) = absurd (q p)
count_same (skip p c) (one q d) = absurd (p q)
