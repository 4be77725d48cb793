-- A search in two passes that has no branch, and needs no order: every by-th number up to the last that is at most a, and then those behind it one by one. Assumes nothing.
use Prim.Native.Nat.{ℕ, ◌+◌, ◌≤◌, ◌<◌, min}
use mathlib.Core.Path.{◌≡◌, refl}
use mathlib.Core.Logic.{◌⊎◌, inl, inr, ⊎_elim}
use native.Mathlib.Decide.{dec_le, dec_lt}
use native.Mathlib.Omega.{arith}
use mathlib.Core.List.{List}
use lib.ListN.{length, get_or}
use Rattle.cells.specs.Cells.{Stepped, Passed, Located}

-- the numbers before place k are passed; r is the last of them that is at most a
pub record Passing (f : ℕ → ℕ) (a to by k r : ℕ) : Type 0 where
  pub within : r < to
  pub low : f r ≤ a
  pub behind : r < k
  pub high : (r + by ≡ k) ⊎ (a < f (r + by))

module _ (f : ℕ → ℕ) (a to by : ℕ) where
  pub pass_start : (from : ℕ) → 0 < by → from < to → f from ≤ a → Passing f a to by (from + by) from
  pass_start from p h l = record { within = h; low = l; behind = omega arith; high = inl refl }

  pub pass_step : (k r s : ℕ) → k < to → 0 < by → Passing f a to by k r → Stepped (f k) a r k s → Passing f a to by (k + by) s
  pass_step k r s h z p w = elim (dec_le (f k) a) [ yes q ↦ taken q (w.up q) | no q ↦ left (omega arith) (w.down (omega arith)) ]
    where
      taken : f k ≤ a → s ≡ k → Passing f a to by (k + by) s
      taken q e = rw e (record { within = h; low = q; behind = omega arith; high = inl refl })

      left : a < f k → s ≡ r → Passing f a to by (k + by) s
      left q e = rw e (record { within = p.within; low = p.low; behind = omega (arith, p.behind); high = inr (⊎_elim (λ y. rw y q) (λ y. y) p.high) })

  pub pass_end : (k r : ℕ) → to ≤ k → Passing f a to by k r → Passed f a to by r
  pass_end k r h p = record { within = p.within; low = p.low; high = λ t. ⊎_elim (λ y. absurd (omega arith)) (λ y. y) p.high }

-- a pass from place to place, and one between the place that it found and the next: of all
pub two_passed : (f : ℕ → ℕ) (a n by near to r : ℕ) → Passed f a n by near → to ≡ min (near + by) n → Passed f a to 1 r → Passed f a n 1 r
two_passed f a n by near to r p e q =
    record { within = omega (arith, q.within); low = q.low; high = λ t. elim (dec_lt (r + 1) to) [ yes h ↦ q.high h | no h ↦ at t h ] }
  where
    at : r + 1 < n → (r + 1 < to → ⊥) → a < f (r + 1)
    at t h = let z : r + 1 ≡ near + by = omega (arith, q.within) in rw z (p.high (omega arith))

-- of a stretch of starts that is what is looked for
pub passed_located : (ss : List ℕ) (a r : ℕ) → Passed (λ p. get_or ss p 0) a (length ss) 1 r → Located ss a r
passed_located ss a r h = record { within = h.within; from = h.low; to = h.high }
