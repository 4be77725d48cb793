-- The lowest and the highest window in one range, by the remainder of an address. Assumes nothing.
use Rattle.std.proofs.Common.{◌≡◌, ℕ, ◌+◌, ◌-◌, ◌*◌, ◌/◌, ◌%◌, ◌<◌, ◌≤◌, mul-le-mul_right, lt_of_mul-lt-mul_right, div-add-mod', arith}
use lib.Bits.{bit_and}
use Rattle.ranges.specs.Align.{PowerOfTwo, Multiple}
use Rattle.ranges.proofs.Powers.{mask_mod, mod_multiple, down}
use Rattle.places.specs.Places.{Fits, Lowest, Highest}

-- a mask takes the remainder
pub over_mod : (s mask : ℕ) → PowerOfTwo (mask + 1) → bit_and s mask ≡ s % (mask + 1)
over_mod s mask p = let e : mask + 1 - 1 ≡ mask = omega arith in rw e at (mask_mod s (mask + 1) p)

-- the next multiple after s, which is none
pub next_multiple : (k s m : ℕ) → Multiple k m → s ≤ m → (s % k ≡ 0 → ⊥) → s + (k - s % k) ≤ m
next_multiple k s m (q, e) l n =
    let d : s / k * k + s % k ≡ s = div-add-mod' s k in
    let w : s / k < q = lt_of_mul-lt-mul_right k (omega arith) in
    omega (arith, mul-le-mul_right k w)

module _ (s to size k : ℕ) where
  -- s is a multiple
  pub low_here : s % k ≡ 0 → s + size ≤ to → Lowest s to size k s
  low_here e h = record { fits = record { multiple = mod_multiple s k e; above = omega arith; below = h }; least = λ b f. f.above }

  -- s is none
  pub low_next : (x : ℕ) → x ≡ s + (k - s % k) → s % k < k → (s % k ≡ 0 → ⊥) → x + size ≤ to → Lowest s to size k x
  low_next x e l n h =
      record {
        fits = record { multiple = (s / k + 1, omega (arith, div-add-mod' s k)); above = omega arith; below = h };
        least = λ b f. omega (arith, next_multiple k s b f.multiple f.above n);
      }

  pub low_none : (s % k ≡ 0 → ⊥) → to < s + (k - s % k) + size → (b : ℕ) → Fits s to size k b → ⊥
  low_none n h b f = omega (arith, next_multiple k s b f.multiple f.above n, f.below)

  -- the last multiple from which `size` addresses end by `to`
  pub high_some : (x : ℕ) → 0 < k → x + size ≡ to → s ≤ x - x % k → Highest s to size k (x - x % k)
  high_some x p h l =
      let g = down x k p in
      record {
        fits = record { multiple = g.multiple; above = l; below = omega (arith, g.not_above) };
        greatest = λ b f. g.greatest b f.multiple (omega (arith, f.below));
      }

  pub high_none : (x : ℕ) → 0 < k → x + size ≡ to → x - x % k < s → (b : ℕ) → Fits s to size k b → ⊥
  high_none x p h l b f = omega (arith, (down x k p).greatest b f.multiple (omega (arith, f.below)), f.above)
