-- The memory after a grant of just one id that is free. Assumes nothing.
use mathlib.Core.Path.{◌≡◌, sym, ap, ap₂, ◌∙◌, subst}
use mathlib.Core.Bool.{false}
use mathlib.Core.List.{List, ◌++◌}
use Prim.Native.Nat.{ℕ, ◌+◌, ◌-◌, ◌≤◌, max}
use native.Mathlib.Omega.{arith}
use lib.ListN.{length, get_or, set, take}
use borrow.Rule.Slice.PartMut.{mid_of}
use Rattle.bits.specs.Bits.{Summed, Flipped}
use Rattle.ids.specs.State.{State, Within, grant}
use Rattle.ids.specs.Layout.{Laid}
use Rattle.ids.proofs.States.{flipped, laid_grant}

pub taking : (ws : List ℕ) (s : State) (h : Laid ws s) (n i j x : ℕ) (up : List ℕ) → n ≡ s.high - s.low → Within s j → i ≡ j - s.low → s.granted j ≡ false
    → ((d : ℕ) → Summed d (mid_of 4 (length (set ws 3 x) - 4) (set ws 3 x)) n → i ≤ n
    → Flipped (mid_of 4 (length (set ws 3 x) - 4) (set ws 3 x)) up n i × Summed d up n)
    → x ≡ max (get_or ws 3 0) (j + 1)
    → Laid (take 4 (set ws 3 x) ++ up) (grant s j)
taking ws s h n i j x up e w a z said m =
    let k : i ≤ s.high - s.low = omega (arith, w.0, w.1) in
    let back : s.low + i ≡ j = omega (arith, w.0) in
    let f = flipped ws s h n i x up e (omega arith) said in
    subst (λ (y : ℕ). Laid (take 4 (set ws 3 x) ++ up) (grant s y)) back
    (laid_grant ws s h i x up k f.0 f.1 (ap s.granted back ∙ z) (m ∙ ap₂ (λ (p q : ℕ). max p (q + 1)) h.next (sym back)))
