-- Laws of multiples, and the rule of places that `allocate` has: a range starts at a multiple of k.
-- Assumes nothing.
use Rattle.std.proofs.Common.{ℕ, suc, ◌+◌, ◌-◌, ◌*◌, ◌/◌, ◌<◌, ◌≤◌, refl, mul-le-mul_right, mod-lt, div-lt_iff_lt-mul, div-add-mod', le-div_iff_mul-le, div-mul-le_self, arith}
use Rattle.ranges.specs.Align.{Multiple}
use Rattle.table.specs.Multiples.{down, up, below}
use Rattle.addresses.proofs.Places.{Answers}
use Rattle.addresses.specs.Meaning.{Least, Greatest}
use Rattle.addresses.proofs.Places.{Rule}

-- `up k a` is not below a, and not above any multiple of k that is not below a
pub up_above : (k a : ℕ) → 0 < k → a ≤ up k a
unfolding up
up_above k a h = omega (arith, div-add-mod' (a + (k - 1)) k, mod-lt (a + (k - 1)) h)

pub up_least : (k a m : ℕ) → 0 < k → a ≤ m * k → up k a ≤ m * k
unfolding up
up_least k a m h le =
    let q : (a + (k - 1)) / k < suc m = (div-lt_iff_lt-mul h).1 (omega arith) in
    mul-le-mul_right k (omega arith)

-- `down k a` is not above a, and not below any multiple of k that is not above a
pub down_below : (k a : ℕ) → down k a ≤ a
unfolding down
down_below k a = div-mul-le_self a k

pub down_greatest : (k a m : ℕ) → 0 < k → m * k ≤ a → m * k ≤ down k a
unfolding down
down_greatest k a m h le = mul-le-mul_right k ((le-div_iff_mul-le h).1 le)

-- both are multiples
pub up_multiple : (k a : ℕ) → Multiple k (up k a)
unfolding up
up_multiple k a = ((a + (k - 1)) / k, refl)

pub down_multiple : (k a : ℕ) → Multiple k (down k a)
unfolding down
down_multiple k a = (a / k, refl)

-- the rule
pub up_right : (k x : ℕ) → 0 < k → Least (λ a. Multiple k a × (x ≤ a)) (up k x)
unfolding Least
up_right k x h = ((up_multiple k x, up_above k x h), λ b w. omega (arith, w.0.1, up_least k x w.0.0 h (omega (arith, w.0.1))))

pub below_right : (k x : ℕ) → 0 < k → Answers Greatest (λ a. Multiple k a × (a ≤ x)) (below k x)
unfolding Answers Greatest below
below_right k x h = ((down_multiple k x, down_below k x), λ b w. omega (arith, w.0.1, down_greatest k x w.0.0 h (omega (arith, w.0.1))))

abbrev pub multiples : (k : ℕ) → 0 < k → Rule
multiples k h = record { Ok = Multiple k; least = up k; greatest = below k; least_right = λ x. up_right k x h; greatest_right = λ x. below_right k x h }
