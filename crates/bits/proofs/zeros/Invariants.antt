-- `bits::zeros` meets its contract. The first loop's invariant: n zeros among the bits of the words so far (`word_zeros`); the second's: n among
-- the bits below i (`bit_zero`, `bit_one`).
use Prim.Native.Nat.{◌*◌, ◌≤◌}
use mathlib.Core.Path.{◌≡◌}
use Rattle.ranges.specs.Count.{Count}
use Rattle.bits.specs.Bits.{bit}
use Rattle.bits.proofs.zeros.Given as goal

abbrev pub invariant-loop-w : goal.invariant-loop-w
invariant-loop-w l = (l.n ≤ l.w-index * 64) × Count (λ j. bit l.mem j ≡ 0) (l.w-index * 64) l.n

abbrev pub invariant-loop-i : goal.invariant-loop-i
invariant-loop-i l = (l.n ≤ l.i) × Count (λ j. bit l.mem j ≡ 0) l.i l.n
