-- A bound of free ranges, range by range. Assumes nothing.
use Prim.Native.Nat.{ℕ, ◌+◌, ◌-◌, ◌≤◌, ◌<◌}
use mathlib.Core.Path.{◌≡◌}
use native.Mathlib.Decide.{ℕ_discrete}
use native.Mathlib.Omega.{arith}
use mathlib.Core.List.{List}
use lib.ListN.{length, get_or, get_or-eq_default}
use Rattle.places.proofs.Searches.{get_d_any}
use Rattle.blocks.specs.Blocks.{Within}

-- the spans of the free ranges before range i are at most w
unfoldable pub Spans : List ℕ → List ℕ → ℕ → ℕ → Type 0
Spans ss ts w i = (k : ℕ) → k < i → get_or ts k 0 ≡ 0 → get_or ss (k + 1) 0 ≤ get_or ss k 0 + w

module _ (ss ts : List ℕ) where
  pub spans_none : (w : ℕ) → Spans ss ts w 0
  unfolding Spans
  spans_none w k l f = absurd (omega arith)

  pub spans_more : (w w' g i : ℕ) → Spans ss ts w i → w ≤ w' → g ≤ w' → (get_or ts i 0 ≡ 0 → get_or ss (i + 1) 0 ≤ get_or ss i 0 + g) → Spans ss ts w' (i + 1)
  unfolding Spans
  spans_more w w' g i s p q h k l f = elim (ℕ_discrete k i) [ yes z ↦ rw z (omega (arith, h (rw z at f))) | no z ↦ omega (arith, s k (omega arith) f) ]

  pub spans_all : (w w₁ g r last : ℕ) → 0 < length ss → Spans ss ts w (length ss - 1) → w ≤ w₁ + 1 → w₁ ≤ r → g ≤ r → (get_or ts (length ss - 1) 0 ≡ 0 → last ≤ get_or ss (length ss - 1) 0 + g) → Within (last + 1) ss ts r
  unfolding Spans Within
  spans_all w w₁ g r last p s a b d h i l f =
      elim (ℕ_discrete i (length ss - 1)) [
        | yes z ↦ let e : get_or ss (i + 1) (last + 1) ≡ last + 1 = get_or-eq_default ss (last + 1) (omega arith) in rw e (rw z (omega (arith, h (rw z at f))))
        | no z ↦ omega (arith, s i (omega arith) f, get_d_any ss (i + 1) (last + 1) 0 (omega arith))
      ]

  pub within_none : (top r : ℕ) → length ss ≡ 0 → Within top ss ts r
  unfolding Within
  within_none top r e i l f = absurd (omega arith)
