-- A worked sample of the definition: of the pool 2 to 8 with 4 and 5 granted five addresses are free, 2, 3, 6, 7 and 8, and the largest free range has three.
-- Assumes nothing.
use Prim.Native.Nat.{ℕ, ◌≤◌, ◌<◌, max}
use mathlib.Core.Path.{◌≡◌, refl, ap}
use mathlib.Core.Logic.{⊎_elim}
use mathlib.Core.List.Memᴰ
use mathlib.Core.List.{[], ◌∷◌, Memᴰ}
use native.Mathlib.Decide.{dec_le}
use native.Mathlib.Omega.{arith}
use Rattle.ranges.specs.declared.RangeInclusive.{RangeInclusive}
use Rattle.ranges.specs.Count.{Count, none}
use Rattle.ranges.proofs.CountLaws.{count_more, count_skip}
use Rattle.addresses.specs.Meaning.{State, Free, Greatest}
use Rattle.addresses.proofs.StepLaws.{clear_within}
use Rattle.left.specs.Contract.{FreeAddresses, FitsSomewhere, LargestFree}

abbrev pub sample : State
sample = record { base = 2; top = 9; granted = record { start = 4; end = 5 } ∷ [] }

free_at : (x : ℕ) → 2 ≤ x → x < 9 → (4 ≤ x → x ≤ 5 → ⊥) → Free sample x
free_at x l k n = record {
  above = l;
  below = k;
  unheld = λ r m i.
      ⊎_elim
      (λ (e : r ≡ record { start = 4; end = 5 }). n (omega (arith, i, ap (λ (y : RangeInclusive). y.start) e)) (omega (arith, i, ap (λ (y : RangeInclusive). y.end) e)))
      (λ (w : Memᴰ r []). Memᴰ.not-nil w)
      (Memᴰ.cases_cons m);
}

not_held : (x : ℕ) → 4 ≤ x → x ≤ 5 → ¬ Free sample x
not_held x l k f = f.unheld (record { start = 4; end = 5 }) (Memᴰ.head refl) (l, k)

pub five_free : FreeAddresses sample 5
five_free =
    let a : Count (Free sample) 2 0 = count_skip (Free sample) 0 0 2 (λ x h l f. omega (arith, f.above)) none in
    let b : Count (Free sample) 4 2 = count_more (Free sample) 2 0 2 (λ x h l. free_at x h (omega arith) (λ u v. omega arith)) a in
    let c : Count (Free sample) 6 2 = count_skip (Free sample) 4 2 2 (λ x h l. not_held x h (omega arith)) b in
    count_more (Free sample) 6 2 3 (λ x h l. free_at x (omega arith) l (λ u v. omega arith)) c

pub three_together : LargestFree sample 3
unfolding Greatest
three_together = ((6, record { allowed = (6, refl); free = λ x h l. free_at x (omega arith) l (λ u v. omega arith) }), most)
  where
    most : (size : ℕ) → FitsSomewhere sample size → size ≤ 3
    most size w =
        let f = w.1.free in
        elim (dec_le size 3) [
          | yes h ↦ h
          | no h ↦
              elim (dec_le w.0 4) [
                | yes k ↦ absurd (not_held (max 4 w.0) (omega arith) (omega arith) (f (max 4 w.0) (omega arith) (omega (arith, (f w.0 (omega arith) (omega arith)).above))))
                | no k ↦
                    elim (dec_le w.0 5) [
                      | yes z ↦ absurd (not_held w.0 (omega arith) z (f w.0 (omega arith) (omega arith)))
                      | no z ↦ omega (arith, clear_within sample w.0 size (omega arith) f)
                    ]
              ]
        ]
