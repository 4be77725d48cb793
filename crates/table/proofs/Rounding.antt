-- Laws of rounding to a multiple: `up` gives the least from an address on, `down` the greatest up to it. Assumes nothing.
use Prim.Native.Nat.{ℕ, suc, ◌+◌, ◌-◌, ◌/◌, ◌≤◌, ◌<◌}
use mathlib.Core.Path.{refl}
use native.Mathlib.Nat.{div-add-mod', mod-lt, mul-le-mul_right, le-div_iff_mul-le, div-lt_iff_lt-mul, div-mul-le_self}
use native.Mathlib.Omega.{arith}
use Rattle.ranges.specs.Align.{Multiple}
use Rattle.table.specs.Multiples.{down, up}

pub up_multiple : (k a : ℕ) → Multiple k (up k a)
unfolding up
up_multiple k a = ((a + (k - 1)) / k, refl)

pub up_above : (k a : ℕ) → 0 < k → a ≤ up k a
unfolding up
up_above k a h = omega (arith, div-add-mod' (a + (k - 1)) k, mod-lt (a + (k - 1)) h)

pub up_least : (k a m : ℕ) → 0 < k → Multiple k m → a ≤ m → up k a ≤ m
unfolding up
up_least k a m h (q, e) le =
    let w : (a + (k - 1)) / k < suc q = (div-lt_iff_lt-mul h).1 (omega arith) in
    omega (arith, mul-le-mul_right k w)

pub down_multiple : (k a : ℕ) → Multiple k (down k a)
unfolding down
down_multiple k a = (a / k, refl)

pub down_below : (k a : ℕ) → down k a ≤ a
unfolding down
down_below k a = div-mul-le_self a k

pub down_greatest : (k a m : ℕ) → 0 < k → Multiple k m → m ≤ a → m ≤ down k a
unfolding down
down_greatest k a m h (q, e) le = let w : q ≤ a / k = (le-div_iff_mul-le h).1 (omega arith) in omega (arith, mul-le-mul_right k w)
