-- The pieces that a range is given up for. Assumes nothing.
use Prim.Native.Nat.{ℕ, ◌+◌, ◌≤◌, ◌<◌}
use mathlib.Core.Path.{◌≡◌}
use mathlib.Core.List.{List, [], ◌∷◌, ◌++◌}
use native.Mathlib.Decide.{dec_lt}
use native.Mathlib.Omega.{arith}
use borrow.Author.Tests.{lt-ltb, le-ltb}
use lib.ListN.{length, get_or}
use Rattle.splice.specs.Splice.{new_starts, new_tags}

-- the starts and the tags of the pieces, by what is left before the window and behind it
module _ (s to a size : ℕ) where
  pub starts_both : s < a → a + size < to → new_starts s to a size ≡ s ∷ a ∷ (a + size) ∷ []
  unfolding new_starts
  starts_both p q = rw (lt-ltb s a p, lt-ltb (a + size) to q)

  pub starts_before : s < a → to ≤ a + size → new_starts s to a size ≡ s ∷ a ∷ []
  unfolding new_starts
  starts_before p q = rw (lt-ltb s a p, le-ltb (a + size) to q)

  pub starts_after : a ≤ s → a + size < to → new_starts s to a size ≡ a ∷ (a + size) ∷ []
  unfolding new_starts
  starts_after p q = rw (le-ltb s a p, lt-ltb (a + size) to q)

  pub starts_whole : a ≤ s → to ≤ a + size → new_starts s to a size ≡ a ∷ []
  unfolding new_starts
  starts_whole p q = rw (le-ltb s a p, le-ltb (a + size) to q)

  module _ (tag : ℕ) where
    pub tags_both : s < a → a + size < to → new_tags s to a size tag ≡ 0 ∷ tag ∷ 0 ∷ []
    unfolding new_tags
    tags_both p q = rw (lt-ltb s a p, lt-ltb (a + size) to q)

    pub tags_before : s < a → to ≤ a + size → new_tags s to a size tag ≡ 0 ∷ tag ∷ []
    unfolding new_tags
    tags_before p q = rw (lt-ltb s a p, le-ltb (a + size) to q)

    pub tags_after : a ≤ s → a + size < to → new_tags s to a size tag ≡ tag ∷ 0 ∷ []
    unfolding new_tags
    tags_after p q = rw (le-ltb s a p, lt-ltb (a + size) to q)

    pub tags_whole : a ≤ s → to ≤ a + size → new_tags s to a size tag ≡ tag ∷ []
    unfolding new_tags
    tags_whole p q = rw (le-ltb s a p, le-ltb (a + size) to q)

  -- there are one to three, and the first one starts where the range does
  pub some_pieces : (0 < length (new_starts s to a size)) × (length (new_starts s to a size) ≤ 3)
  some_pieces =
      elim (dec_lt s a) [
        | yes p ↦ elim (dec_lt (a + size) to) [ yes q ↦ rw (starts_both p q) (omega arith, omega arith) | no q ↦ rw (starts_before p (omega arith)) (omega arith, omega arith) ]
        | no p ↦ elim (dec_lt (a + size) to) [ yes q ↦ rw (starts_after (omega arith) q) (omega arith, omega arith) | no q ↦ rw (starts_whole (omega arith) (omega arith)) (omega arith, omega arith) ]
      ]

  pub first_piece : s ≤ a → (r : List ℕ) (d : ℕ) → get_or (new_starts s to a size ++ r) 0 d ≡ s
  unfolding new_starts
  first_piece h r d = elim (dec_lt s a) [ yes p ↦ rw (lt-ltb s a p) | no p ↦ rw (le-ltb s a (omega arith)) (omega arith) ]
