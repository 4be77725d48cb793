-- What the searches over starts and tags find is what `lowest` and `highest` say of the row. Assumes nothing.
use Prim.Native.Nat.{ℕ, zero, suc, ◌+◌, ◌-◌, ◌≤◌, ◌<◌}
use mathlib.Core.Path.{◌≡◌, refl, sym, ap, ◌∙◌}
use mathlib.Core.List.{List, [], ◌∷◌}
use mathlib.Core.Bool.{cond}
use mathlib.Core.Option.{Option, none, some}
use native.Mathlib.Numerals.{add-one}
use native.Mathlib.Decide.{ℕ_discrete, dec_le}
use native.Mathlib.Omega.{arith}
use borrow.Author.Tests.{lt-leb, le-leb, eq-eqb, ne_eqb}
use lib.ListN.{length, get_or, drop, drop_of_length-le}
use lib.Dec.{leb, eqb}
use Rattle.places.specs.Places.{Fits, Lowest, Highest, past_at, Room, LowestIn, HighestIn}
use Rattle.table.specs.Row.{lowest, highest, highest_in, or, at_least}
use Rattle.table.specs.Multiples.{up, down, below}
use Rattle.table.specs.Layout.{row_of}
use Rattle.table.proofs.Rows.{past_row}
use Rattle.table.proofs.Rounding.{up_multiple, up_above, up_least, down_multiple, down_below, down_greatest}

-- ---- one range, from s up to, not including, `to`

module _ (s to size k : ℕ) (pos : 0 < k) where
  -- the lowest window starts at s rounded up
  up_is : (a : ℕ) → Lowest s to size k a → (a ≡ up k s) × (up k s + size ≤ to)
  up_is a w =
      let l : up k s ≤ a = up_least k s a pos w.fits.multiple w.fits.above in
      let g : a ≤ up k s = w.least (up k s) (record { multiple = up_multiple k s; above = up_above k s pos; below = omega (arith, w.fits.below) }) in
      (omega arith, omega (arith, w.fits.below))

  up_not : ((b : ℕ) → Fits s to size k b → ⊥) → to < up k s + size
  up_not n = elim (dec_le (up k s + size) to) [ yes l ↦ absurd (n (up k s) (record { multiple = up_multiple k s; above = up_above k s pos; below = l })) | no m ↦ omega arith ]

  -- the highest is what `highest_in` says
  high_is : (a : ℕ) → Highest s to size k a → highest_in size (below k) s to ≡ some a
  unfolding highest_in at_least below
  high_is a w =
      let f = w.fits in
      let x : ℕ = down k (to - size) in
      let l : a ≤ x = down_greatest k (to - size) a pos f.multiple (omega (arith, f.below)) in
      let d = down_below k (to - size) in
      let g : x ≤ a = w.greatest x (record { multiple = down_multiple k (to - size); above = omega (arith, f.above); below = omega (arith, f.below) }) in
      let e : x ≡ a = omega arith in
      rw (le-leb (s + size) to (omega (arith, f.above, f.below)), le-leb s x (omega (arith, f.above))) (ap some e)

  high_not : ((b : ℕ) → Fits s to size k b → ⊥) → highest_in size (below k) s to ≡ none
  unfolding highest_in at_least below
  high_not n =
      let x : ℕ = down k (to - size) in
      let d = down_below k (to - size) in
      elim (dec_le (s + size) to) [
        | yes l ↦
            elim (dec_le s x) [
              | yes m ↦ absurd (n x (record { multiple = down_multiple k (to - size); above = m; below = omega arith }))
              | no m ↦ rw (le-leb (s + size) to l, lt-leb s x (omega arith))
            ]
        | no m ↦ rw (lt-leb (s + size) to (omega arith))
      ]

-- ---- the row from index i on

module _ (last size k : ℕ) (pos : 0 < k) where
  abbrev top : ℕ
  top = last + 1

  abbrev low : List ℕ → List ℕ → ℕ → Option ℕ
  low ss ts i = lowest top size (up k) (row_of (drop i ss) (drop i ts))

  abbrev high : List ℕ → List ℕ → ℕ → Option ℕ
  high ss ts i = highest top size (below k) (row_of (drop i ss) (drop i ts))

  -- tile i decides, or the tiles behind it
  low_at : (ss ts : List ℕ) (i : ℕ) → i < length ss → length ss ≡ length ts → low ss ts i ≡ cond (eqb (get_or ts i 0) 0) (cond (leb (up k (get_or ss i 0) + size) (get_or ss (suc i) top)) (some (up k (get_or ss i 0))) (low ss ts (suc i))) (low ss ts (suc i))
  unfolding row_of lowest
  low_at [] ts i h e = absurd (omega arith)
  low_at (s ∷ ss) [] i h e = absurd (omega arith)
  low_at (s ∷ ss) (t ∷ ts) zero h e = rw (past_row ss ts top (omega arith))
  low_at (s ∷ ss) (t ∷ ts) (suc i) h e = low_at ss ts i (omega arith) (omega arith)

  -- the tiles behind tile i decide, or it does
  high_at : (ss ts : List ℕ) (i : ℕ) → i < length ss → length ss ≡ length ts → high ss ts i ≡ or (high ss ts (suc i)) (cond (eqb (get_or ts i 0) 0) (highest_in size (below k) (get_or ss i 0) (get_or ss (suc i) top)) none)
  unfolding row_of highest
  high_at [] ts i h e = absurd (omega arith)
  high_at (s ∷ ss) [] i h e = absurd (omega arith)
  high_at (s ∷ ss) (t ∷ ts) zero h e = rw (past_row ss ts top (omega arith))
  high_at (s ∷ ss) (t ∷ ts) (suc i) h e = high_at ss ts i (omega arith) (omega arith)

  -- what is found behind tile j is the highest of all
  high_keep : (ss ts : List ℕ) (j a : ℕ) → length ss ≡ length ts → high ss ts j ≡ some a → highest top size (below k) (row_of ss ts) ≡ some a
  unfolding row_of highest or
  high_keep ss ts zero a e h = h
  high_keep [] ts (suc j) a e h = h
  high_keep (s ∷ ss) [] (suc j) a e h = absurd (omega arith)
  high_keep (s ∷ ss) (t ∷ ts) (suc j) a e h = rw (high_keep ss ts j a (omega arith) h)

  module _ (ss ts : List ℕ) (e : length ss ≡ length ts) where
    past_end : (i : ℕ) → length ss ≤ i → low ss ts i ≡ none
    unfolding lowest row_of
    past_end i h = rw (drop_of_length-le ss h)

    high_end : (i : ℕ) → length ss ≤ i → high ss ts i ≡ none
    unfolding highest row_of
    high_end i h = rw (drop_of_length-le ss h)

    -- a tile with no room is passed over
    low_pass : (i : ℕ) → i < length ss → ((b : ℕ) → Room ss ts last size k i b → ⊥) → low ss ts i ≡ low ss ts (suc i)
    low_pass i h n =
        elim (ℕ_discrete (get_or ts i 0) 0) [
          | yes z ↦
              let f : past_at ss last i < up k (get_or ss i 0) + size = up_not (get_or ss i 0) (past_at ss last i) size k pos (λ b w. n b (record { within = h; free = z; fits = w })) in
              low_at ss ts i h e ∙ rw (eq-eqb (get_or ts i 0) 0 z, lt-leb (up k (get_or ss i 0) + size) (get_or ss (suc i) top) (rw add-one at f))
          | no z ↦ low_at ss ts i h e ∙ rw (ne_eqb (get_or ts i 0) 0 z)
        ]

    high_pass : (i : ℕ) → i < length ss → high ss ts (suc i) ≡ none → ((b : ℕ) → Room ss ts last size k i b → ⊥) → high ss ts i ≡ none
    unfolding or
    high_pass i h q n =
        elim (ℕ_discrete (get_or ts i 0) 0) [
          | yes z ↦
              let f : highest_in size (below k) (get_or ss i 0) (past_at ss last i) ≡ none = high_not (get_or ss i 0) (past_at ss last i) size k pos (λ b w. n b (record { within = h; free = z; fits = w })) in
              high_at ss ts i h e ∙ rw (q, eq-eqb (get_or ts i 0) 0 z) (rw add-one at f)
          | no z ↦ high_at ss ts i h e ∙ rw (q, ne_eqb (get_or ts i 0) 0 z)
        ]

    -- so are all below index i, and all from index i on
    low_from : (i : ℕ) → i ≤ length ss → ((j b : ℕ) → j < i → Room ss ts last size k j b → ⊥) → lowest top size (up k) (row_of ss ts) ≡ low ss ts i
    low_from zero h n = refl
    low_from (suc i) h n = low_from i (omega arith) (λ j b l. n j b (omega arith)) ∙ low_pass i (omega arith) (λ b. n i b (omega arith))

    high_from : (d i : ℕ) → d + i ≡ length ss → ((j b : ℕ) → i ≤ j → Room ss ts last size k j b → ⊥) → high ss ts i ≡ none
    high_from zero i h n = high_end i (omega arith)
    high_from (suc d) i h n = high_pass i (omega arith) (high_from d (suc i) (omega arith) (λ j b l. n j b (omega arith))) (λ b. n i b (omega arith))

    -- the four answers
    pub low_found : (a : ℕ) → LowestIn ss ts last size k a → lowest top size (up k) (row_of ss ts) ≡ some a
    low_found a w =
        let i : ℕ = w.index in
        let u = up_is (get_or ss i 0) (past_at ss last i) size k pos a w.here in
        low_from i (omega (arith, w.within)) w.first
        ∙ low_at ss ts i w.within e
        ∙ rw (eq-eqb (get_or ts i 0) 0 w.free, le-leb (up k (get_or ss i 0) + size) (get_or ss (suc i) top) (rw add-one at u.1)) (ap some (sym u.0))

    pub low_nowhere : ((j b : ℕ) → Room ss ts last size k j b → ⊥) → lowest top size (up k) (row_of ss ts) ≡ none
    low_nowhere n = low_from (length ss) (omega arith) (λ j b l. n j b) ∙ past_end (length ss) (omega arith)

    pub high_found : (a : ℕ) → HighestIn ss ts last size k a → highest top size (below k) (row_of ss ts) ≡ some a
    unfolding or
    high_found a w =
        let i : ℕ = w.index in
        let h = w.within in
        let q : high ss ts (suc i) ≡ none = high_from (length ss - suc i) (suc i) (omega arith) (λ j b l. w.latest j b (omega arith)) in
        let u = high_is (get_or ss i 0) (past_at ss last i) size k pos a w.here in
        high_keep ss ts i a e (high_at ss ts i h e ∙ rw (q, eq-eqb (get_or ts i 0) 0 w.free) (rw add-one at u))

    pub high_nowhere : ((j b : ℕ) → Room ss ts last size k j b → ⊥) → highest top size (below k) (row_of ss ts) ≡ none
    high_nowhere n = high_from (length ss) 0 (omega arith) (λ j b l. n j b)
