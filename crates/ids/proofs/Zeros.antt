-- Counting the free ids by the bits that are 0.
-- Assumes nothing.
use mathlib.Core.Path.{◌≡◌, sym, ap, ◌∙◌, subst}
use mathlib.Core.List.{List}
use Prim.Native.Nat.{ℕ, zero, suc, ◌+◌, ◌-◌, ◌<◌}
use native.Mathlib.Nat.{add-suc}
use native.Mathlib.Omega.{arith}
use lib.ListN.{length, drop}
use borrow.Rule.Slice.PartMut.{mid_of}
use Rattle.ranges.specs.Count.{Count, none, one, skip}
use Rattle.ranges.proofs.CountLaws.{count_skip}
use Rattle.bits.specs.Bits.{bit, Zeros}
use Rattle.bits.proofs.Levels.{mid_tail, summed_room}
use Rattle.ids.specs.State.{State, Free}
use Rattle.ids.specs.Layout.{as_digit, Laid}
use Rattle.ids.proofs.States.{digit_false}

-- a count below b is one below low + b, where below low there is nothing to count
pub count_from : (P Q : ℕ → Type 0) (low b n : ℕ) → ((x : ℕ) → x < low → ¬ Q x) → ((j : ℕ) → j < b → P j → Q (low + j))
    → ((j : ℕ) → j < b → Q (low + j) → P j) → Count P b n → Count Q (low + b) n
count_from P Q low zero zero f g h none = subst (λ (x : ℕ). Count Q x 0) (let e : 0 + low ≡ low + 0 = omega arith in e) (count_skip Q 0 0 low (λ x l k. f x (omega arith)) none)
count_from P Q low zero (suc n) f g h c = elim c [ ]
count_from P Q low (suc b) (suc n) f g h (one p c) =
    rw (add-suc low b) (one (g b (omega arith) p) (count_from P Q low b n f (λ j l. g j (omega arith)) (λ j l. h j (omega arith)) c))
count_from P Q low (suc b) n f g h (skip p c) =
    rw (add-suc low b) (skip (λ q. p (h b (omega arith) q)) (count_from P Q low b n f (λ j l. g j (omega arith)) (λ j l. h j (omega arith)) c))

-- the zeros among the bits are the free ids
pub zeros_free : (ws : List ℕ) (s : State) (last n : ℕ) → Laid ws s → last ≡ s.high - s.low → Zeros (mid_of 4 (length ws - 4) ws) last n
    → Count (Free s) (s.high + 1) n
zeros_free ws s last n h e z =
    let gap : ℕ = s.high - s.low in
    let ordered = h.head.ordered in
    let tail : Zeros (drop 4 ws) gap n = subst (λ (x : ℕ). Zeros (drop 4 ws) x n) e (rw (mid_tail 4 ws) at z) in
    subst (λ (x : ℕ). Count (Free s) x n) (let q : s.low + (gap + 1) ≡ s.high + 1 = omega arith in q)
    (count_from (λ j. bit (drop 4 ws) j ≡ 0) (Free s) s.low (gap + 1) n
    (λ x l f. omega (arith, f.0.0))
    (λ j l b. ((omega arith, omega arith), digit_false (s.granted (s.low + j)) (sym (h.bits j (omega arith)) ∙ b)))
    (λ j l f. h.bits j (omega arith) ∙ ap as_digit f.1)
    (tail (summed_room h.levels (drop 4 ws) gap h.summed)))
