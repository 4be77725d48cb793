-- Ranges that are passed over because they are too short. Assumes nothing.
use Rattle.std.proofs.Common.{◌≡◌, ℕ, ◌+◌, ◌-◌, ◌%◌, ◌^◌, ◌<◌, ◌≤◌, List, ◌∙◌, mod-eq_of_lt, div-add-mod', arith}
use native.Mathlib.Decide.{dec_le, dec_lt}
use lib.Bits.{bit_and, and_mask}
use Rattle.places.specs.Places.{Room, Narrow}
use Rattle.places.proofs.Searches.{NoneBelow, NoneFrom, get_d_any}

-- 0 - 1 wraps to all ones, and a difference that need not wrap does not
pub far : (s n t : ℕ) → s < 2 ^ 64 → n < 2 ^ 64 → t ≡ 0 → n ≤ s + bit_and ((n + (2 ^ 64 - s)) % 2 ^ 64) ((t + (2 ^ 64 - 1)) % 2 ^ 64)
far s n t k l e = elim (dec_le s n) [ yes h ↦ omega (arith, masked h) | no h ↦ omega arith ]
  where
    d : ℕ
    d = (n + (2 ^ 64 - s)) % 2 ^ 64

    masked : s ≤ n → bit_and d ((t + (2 ^ 64 - 1)) % 2 ^ 64) ≡ n - s
    masked h =
        let q = div-add-mod' (n + (2 ^ 64 - s)) (2 ^ 64) in
        let z : d ≡ n - s = omega arith in
        rw e (and_mask d 64 ∙ mod-eq_of_lt (omega arith) ∙ z)

module _ (ss ts : List ℕ) (more : ℕ) where
  -- they have no room
  module _ (last mask : ℕ) where
    no_room : (from to j b : ℕ) → Narrow ss ts more from to → from ≤ j → j < to → Room ss ts last (more + 1) (mask + 1) j b → ⊥
    unfolding Narrow
    no_room from to j b n p q r =
        let w = n j p q in
        omega (arith, w.1 r.free, get_d_any ss (j + 1) (last + 1) 0 w.0, r.fits.above, r.fits.below)

    pub below_more : (i k : ℕ) → NoneBelow ss ts last more mask i → Narrow ss ts more i k → NoneBelow ss ts last more mask k
    unfolding NoneBelow
    below_more i k n w p j b l r = elim (dec_lt j i) [ yes h ↦ n p j b h r | no h ↦ no_room i k j b w (omega arith) l r ]

    pub from_more : (i k : ℕ) → NoneFrom ss ts last more mask i → Narrow ss ts more k i → NoneFrom ss ts last more mask k
    unfolding NoneFrom
    from_more i k n w p j b l r = elim (dec_lt j i) [ yes h ↦ no_room k i j b w l h r | no h ↦ n p j b (omega arith) r ]
