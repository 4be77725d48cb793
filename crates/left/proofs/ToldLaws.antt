-- What follows from the contract of `ask` for a caller.
--     always_told              a block that holds a pool is not refused
--     told_once                there is one answer only
--     free_fits, largest_fits  of a pool both numbers are at most 2^64 - 1
--     all_free                 a pool that is all free answers its size twice
--     none_free                one in which nothing is free answers 0 and 0
-- Assumes nothing.
use Prim.Native.Nat.{ℕ, ◌+◌, ◌≤◌, ◌<◌}
use mathlib.Core.Path.{◌≡◌, sym}
use mathlib.Core.List.Memᴰ
use mathlib.Core.List.{List}
use native.Mathlib.Decide.{dec_le}
use native.Mathlib.Nat.{zero-add, mul-one}
use native.Mathlib.Omega.{arith}
use Rattle.std.proofs.Common.{Ok, Err}
use Rattle.ranges.specs.declared.Error.{Error}
use Rattle.ranges.specs.Count.{Count, none}
use Rattle.ranges.proofs.CountLaws.{count_more, count_skip, count_most, count_same}
use Rattle.addresses.specs.Meaning.{State, Free, Greatest}
use Rattle.addresses.specs.Operations.{M, Pool, fresh}
use Rattle.addresses.specs.Runs.{Valid}
use Rattle.addresses.specs.Held.{Holds}
use Rattle.addresses.proofs.RowLaws.{greatest_unique}
use Rattle.addresses.proofs.StepLaws.{clear_within}
use Rattle.left.specs.declared.Left.{Left}
use Rattle.left.specs.Contract.{FreeAddresses, FitsSomewhere, LargestFree, Tells}

pub always_told : (m : List ℕ) (p : Pool) (y : Error) → Holds m p → Tells m (Err y) → ⊥
unfolding Tells
always_told m p y h t = t.1 p h

pub told_once : (m : List ℕ) (p : Pool) (l l' : Left) → Holds m p → Tells m (Ok l) → Tells m (Ok l') → (l.free ≡ l'.free) × (l.largest ≡ l'.largest)
unfolding Tells
told_once m p l l' h t t' = (count_same (t p h).0 (t' p h).0, greatest_unique (FitsSomewhere p.state) l.largest l'.largest (t p h).1 (t' p h).1)

-- ---- the highest numbers

pub free_fits : (p : Pool) (n : ℕ) → Valid p → FreeAddresses p.state n → n ≤ M
free_fits p n v c = omega (arith, count_most p.state.base (λ x l f. omega (arith, f.above)) c, v.within)

pub largest_fits : (p : Pool) (n : ℕ) → Valid p → LargestFree p.state n → n ≤ M
unfolding Greatest
largest_fits p n v g =
    elim (dec_le n 0) [
      | yes z ↦ omega arith
      | no z ↦
          let f = g.0.1.free in
          omega (arith, (f g.0.0 (omega arith) (omega arith)).above, clear_within p.state g.0.0 n (omega arith) f, v.within)
    ]

-- ---- the ends

-- in a new pool each address is free
new_free : (base size limit x : ℕ) → base ≤ x → x < base + size → Free (fresh base size limit).state x
new_free base size limit x l k = record { above = l; below = k; unheld = λ r m i. Memᴰ.not-nil m }

pub all_free : (base size limit f l : ℕ) → FreeAddresses (fresh base size limit).state f → LargestFree (fresh base size limit).state l → (f ≡ size) × (l ≡ size)
unfolding Greatest
all_free base size limit f l c g = (count_same c counted, greatest_unique (FitsSomewhere σ) l size g (some, most))
  where
    σ : State
    σ = (fresh base size limit).state

    counted : Count (Free (fresh base size limit).state) (base + size) size
    counted =
        let b : Count (Free (fresh base size limit).state) base 0 = rw (zero-add base) at (count_skip (Free (fresh base size limit).state) 0 0 base (λ x h k u. omega (arith, u.above)) none) in
        rw (zero-add size) at (count_more (Free (fresh base size limit).state) base 0 size (new_free base size limit) b)

    some : FitsSomewhere (fresh base size limit).state size
    some = (base, record { allowed = (base, sym (mul-one base)); free = new_free base size limit })

    most : (n : ℕ) → FitsSomewhere (fresh base size limit).state n → n ≤ size
    most n w =
        elim (dec_le n 0) [
          | yes z ↦ omega arith
          | no z ↦ omega (arith, (w.1.free w.0 (omega arith) (omega arith)).above, clear_within (fresh base size limit).state w.0 n (omega arith) w.1.free)
        ]

pub none_free : (σ : State) (f l : ℕ) → ((x : ℕ) → ¬ Free σ x) → FreeAddresses σ f → LargestFree σ l → (f ≡ 0) × (l ≡ 0)
unfolding Greatest
none_free σ f l n c g = (omega (arith, count_most σ.top (λ x k. n x) c), elim (dec_le l 0) [ yes z ↦ omega arith | no z ↦ absurd (n g.0.0 (g.0.1.free g.0.0 (omega arith) (omega arith))) ])
