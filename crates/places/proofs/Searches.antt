-- From one range to the row of them: what a range answers, and what the ranges passed so far say. Assumes nothing.
use Rattle.std.proofs.Common.{◌≡◌, ℕ, zero, suc, ◌+◌, ◌<◌, ◌≤◌, Option, Some, None, List, [], ◌∷◌, length, get_or, refl, arith}
use native.Mathlib.Decide.{ℕ_discrete}
use Rattle.ranges.specs.Align.{PowerOfTwo}
use Rattle.places.specs.Places.{FitsLow, FitsHigh, Room, SearchUp, SearchDown, Spans, LowAt, HighAt}

module _ (ss ts : List ℕ) (last more mask i : ℕ) where
  -- a range that is granted, or has no end, has no room
  pub taken_low : Spans ss ts last i None → LowAt ss ts last more mask i None
  unfolding Spans LowAt
  taken_low u p b f = omega (arith, u f.free, f.fits.below)

  pub taken_high : Spans ss ts last i None → HighAt ss ts last more mask i None
  unfolding Spans HighAt
  taken_high u p b f = omega (arith, u f.free, f.fits.below)

  -- of a free one its own answer holds
  pub free_low : (s e : ℕ) (f : Option ℕ) → Spans ss ts last i (Some (s, e)) → FitsLow s e more mask f → LowAt ss ts last more mask i f
  unfolding Spans LowAt FitsLow
  free_low s e (Some a) u f = λ p. (u.0, rw (u.1, u.2) at (f p))
  free_low s e None u f = λ p b w. f p b (rw (u.1, u.2) w.fits)

  pub free_high : (s e : ℕ) (f : Option ℕ) → Spans ss ts last i (Some (s, e)) → FitsHigh s e more mask f → HighAt ss ts last more mask i f
  unfolding Spans HighAt FitsHigh
  free_high s e (Some a) u f = λ p. (u.0, rw (u.1, u.2) at (f p))
  free_high s e None u f = λ p b w. f p b (rw (u.1, u.2) w.fits)

-- no range below i has room, and none from i on
unfoldable pub NoneBelow : List ℕ → List ℕ → ℕ → ℕ → ℕ → ℕ → Type 0
NoneBelow ss ts last more mask i = PowerOfTwo (mask + 1) → (j b : ℕ) → j < i → Room ss ts last (more + 1) (mask + 1) j b → ⊥

unfoldable pub NoneFrom : List ℕ → List ℕ → ℕ → ℕ → ℕ → ℕ → Type 0
NoneFrom ss ts last more mask i = PowerOfTwo (mask + 1) → (j b : ℕ) → i ≤ j → Room ss ts last (more + 1) (mask + 1) j b → ⊥

module _ (ss ts : List ℕ) (last more mask : ℕ) where
  pub none_below_start : NoneBelow ss ts last more mask 0
  unfolding NoneBelow
  none_below_start p j b l f = omega arith

  pub none_from_start : (i : ℕ) → length ss ≤ i → NoneFrom ss ts last more mask i
  unfolding NoneFrom
  none_from_start i h p j b l f = let g = f in omega arith

  pub none_below_next : (i : ℕ) {f : Option ℕ} → NoneBelow ss ts last more mask i → LowAt ss ts last more mask i f → f ≡ None → NoneBelow ss ts last more mask (i + 1)
  unfolding NoneBelow LowAt
  none_below_next i n h e p j b l f =
      let u : LowAt ss ts last more mask i None = rw e at h in
      elim (ℕ_discrete j i) [
        | yes q ↦ u p b (rw q at f)
        | no q ↦ n p j b (omega arith) f
      ]

  pub none_from_next : (i k : ℕ) {f : Option ℕ} → k + 1 ≡ i → NoneFrom ss ts last more mask i → HighAt ss ts last more mask k f → f ≡ None → NoneFrom ss ts last more mask k
  unfolding NoneFrom HighAt
  none_from_next i k o n h e p j b l f =
      let u : HighAt ss ts last more mask k None = rw e at h in
      elim (ℕ_discrete j k) [
        | yes q ↦ u p b (rw q at f)
        | no q ↦ n p j b (omega arith) f
      ]

  -- the answers
  pub up_found : (i : ℕ) {a : ℕ} {f : Option ℕ} → i < length ss → NoneBelow ss ts last more mask i → LowAt ss ts last more mask i f → f ≡ Some a → SearchUp ss ts last more mask (Some a)
  unfolding NoneBelow LowAt SearchUp
  up_found i {a = a} w n h e q p =
      let u : LowAt ss ts last more mask i (Some a) = rw e at h in
      record { index = i; within = w; free = (u p).0; here = (u p).1; first = n p }

  pub up_none : (i : ℕ) → length ss ≤ i → NoneBelow ss ts last more mask i → SearchUp ss ts last more mask None
  unfolding NoneBelow SearchUp
  up_none i h n q p j b f = n p j b (omega (arith, f.within)) f

  pub down_found : (i : ℕ) {a : ℕ} {f : Option ℕ} → i < length ss → NoneFrom ss ts last more mask (i + 1) → HighAt ss ts last more mask i f → f ≡ Some a → SearchDown ss ts last more mask (Some a)
  unfolding NoneFrom HighAt SearchDown
  down_found i {a = a} w n h e q p =
      let u : HighAt ss ts last more mask i (Some a) = rw e at h in
      record { index = i; within = w; free = (u p).0; here = (u p).1; latest = λ j b l. n p j b (omega arith) }

  pub down_none : (i : ℕ) → i ≡ 0 → NoneFrom ss ts last more mask i → SearchDown ss ts last more mask None
  unfolding NoneFrom SearchDown
  down_none i e n q p j b f = n p j b (omega arith) f

  -- where there are more or fewer tags nothing is said
  pub up_uneven : (length ss ≡ length ts → ⊥) → SearchUp ss ts last more mask None
  unfolding SearchUp
  up_uneven n q = absurd (n q)

  pub down_uneven : (length ss ≡ length ts → ⊥) → SearchDown ss ts last more mask None
  unfolding SearchDown
  down_uneven n q = absurd (n q)

-- an element that is there is the same with any default
pub get_d_any : (l : List ℕ) (i a b : ℕ) → i < length l → get_or l i a ≡ get_or l i b
get_d_any [] i a b h = absurd (omega arith)
get_d_any (x ∷ l) zero a b h = refl
get_d_any (x ∷ l) (suc i) a b h = get_d_any l i a b (omega arith)
