-- Laws of the cells: they are the pool, one behind the other. Assumes nothing.
--     before_zero, before_all     the first cell starts with the pool, the last ends with it
--     before_suc                  each cell has its size: n / w addresses, the first n % w one more
--     before_most                 no cell reaches beyond the pool
--     cell_of                     every address of the pool is in a cell
use mathlib.Core.Path.{◌≡◌, refl}
use mathlib.Core.Logic.{◌⊎◌, inl, inr, ⊎_elim}
use mathlib.Core.Bool.{Bool, true, false, cond}
use Prim.Native.Nat.{ℕ, zero, suc, ◌+◌, ◌*◌, ◌/◌, ◌%◌, ◌≤◌, ◌<◌, min}
use native.Mathlib.Nat.{div-add-mod, mod-lt, mul-le-mul_right, suc-mul}
use native.Mathlib.Omega.{arith}
use lib.Dec.{ltb}
use borrow.Author.Tests.{ltb-true, ltb-false}
use Rattle.picture.specs.Bar.{size_of, before}

-- one number is below another, or it is not
pub below_or_not : (x y : ℕ) → (x < y) ⊎ (y ≤ x)
below_or_not x y = go (ltb x y) refl
  where
    go : (t : Bool) → ltb x y ≡ t → (x < y) ⊎ (y ≤ x)
    go true e = inl (ltb-true x y e)
    go false e = inr (ltb-false x y e)

pub before_zero : (n w : ℕ) → before n w 0 ≡ 0
unfolding before
before_zero n w = omega arith

pub before_suc : (n w i : ℕ) → before n w (suc i) ≡ before n w i + size_of (n / w) (n % w) i
unfolding before
before_suc n w i = go (ltb i (n % w)) refl
  where
    go : (t : Bool) → ltb i (n % w) ≡ t → suc i * (n / w) + min (suc i) (n % w) ≡ i * (n / w) + min i (n % w) + cond t (n / w + 1) (n / w)
    go true e = omega (arith, ltb-true i (n % w) e, suc-mul i (n / w))
    go false e = omega (arith, ltb-false i (n % w) e, suc-mul i (n / w))

pub before_most : (n w i : ℕ) → i ≤ w → before n w i ≤ n
unfolding before
before_most n w i h = omega (arith, mul-le-mul_right (n / w) h, div-add-mod n w)

pub before_all : (n w : ℕ) → 0 < w → before n w w ≡ n
unfolding before
before_all n w h = omega (arith, div-add-mod n w, mod-lt n {m = w} h)

-- a number below what stands before cell k is in a cell before it
below : (n w k x : ℕ) → x < before n w k → (i : ℕ) × (i < k) × (before n w i ≤ x) × (x < before n w (suc i))
below n w zero x h = absurd (omega (arith, before_zero n w))
below n w (suc k) x h =
    ⊎_elim
    (λ l. let b = below n w k x l in (b.0, omega (arith, b.1), b.2, b.3))
    (λ g. (k, omega arith, g, h))
    (below_or_not x (before n w k))

pub cell_of : (n w x : ℕ) → 0 < w → x < n → (i : ℕ) × (i < w) × (before n w i ≤ x) × (x < before n w (suc i))
cell_of n w x h l = below n w w x (omega (arith, before_all n w h))
