-- A bound of free ranges is still one where a range is given up for its pieces. Assumes nothing.
use Prim.Native.Nat.{ℕ, zero, suc, ◌+◌, ◌≤◌, ◌<◌}
use mathlib.Core.Path.{◌≡◌, refl, sym, ◌∙◌}
use mathlib.Core.List.{List, [], ◌∷◌, ◌++◌}
use native.Mathlib.Decide.{dec_lt}
use native.Mathlib.Omega.{arith}
use lib.ListN.{length, get_or}
use Rattle.blocks.specs.Blocks.{Within}
use Rattle.splice.specs.Splice.{splice, new_starts, new_tags}
use Rattle.splice.proofs.Pieces.{starts_both, starts_before, starts_after, starts_whole, tags_both, tags_before, tags_after, tags_whole, first_piece}

-- a larger number is a bound too
pub within_more : (top : ℕ) (ss ts : List ℕ) (w x : ℕ) → w ≤ x → Within top ss ts w → Within top ss ts x
unfolding Within
within_more top ss ts w x l f i h e = omega (arith, f i h e)

-- a bound of a range and of those behind it is one of each, and the other way round
module _ (top w s t : ℕ) (ss ts : List ℕ) where
  within_cons : (t ≡ 0 → get_or ss 0 top ≤ s + w + 1) → Within top ss ts w → Within top (s ∷ ss) (t ∷ ts) w
  unfolding Within
  within_cons g f zero h e = g e
  within_cons g f (suc i) h e = let z : suc i + 1 ≡ suc (i + 1) = omega arith in rw z (f i (omega arith) e)

  within_head : Within top (s ∷ ss) (t ∷ ts) w → t ≡ 0 → get_or ss 0 top ≤ s + w + 1
  unfolding Within
  within_head f e = f 0 (omega arith) e

  within_tail : Within top (s ∷ ss) (t ∷ ts) w → Within top ss ts w
  unfolding Within
  within_tail f i h e = let z : suc i + 1 ≡ suc (i + 1) = omega arith in rw z at (f (suc i) (omega arith) e)

-- a range from s up to, not including, `to`, and the window of `size` addresses from a that lies in it
module _ (top s to a size tag w : ℕ) (from : s ≤ a) (upto : a + size ≤ to) where
  -- each free piece lies in the range, so it is no longer; behind the pieces are other ranges, the first of which starts at `to`
  within_pieces : (ss ts : List ℕ) → get_or ss 0 top ≡ to → to ≤ s + w + 1 → Within top ss ts w → Within top (new_starts s to a size ++ ss) (new_tags s to a size tag ++ ts) w
  within_pieces ss ts e l f =
      let one : Within top (a ∷ ss) (tag ∷ ts) w = within_cons top w a tag ss ts (λ z. omega arith) f in
      let two : Within top (a ∷ (a + size) ∷ ss) (tag ∷ 0 ∷ ts) w = within_cons top w a tag _ _ (λ z. omega arith) (within_cons top w (a + size) 0 ss ts (λ z. omega arith) f) in
      elim (dec_lt s a) [
        | yes p ↦ elim (dec_lt (a + size) to) [
          | yes q ↦ rw (starts_both s to a size p q, tags_both s to a size tag p q) (within_cons top w s 0 _ _ (λ z. omega arith) two)
          | no q ↦ rw (starts_before s to a size p (omega arith), tags_before s to a size tag p (omega arith)) (within_cons top w s 0 _ _ (λ z. omega arith) one)
        ]
        | no p ↦ elim (dec_lt (a + size) to) [
          | yes q ↦ rw (starts_after s to a size (omega arith) q, tags_after s to a size tag (omega arith) q) two
          | no q ↦ rw (starts_whole s to a size (omega arith) (omega arith), tags_whole s to a size tag (omega arith) (omega arith)) one
        ]
      ]

  -- the first start stays, since the first piece starts where the range did: so what stands before a range ends where it did
  start_kept : (i : ℕ) (ss : List ℕ) → i < length ss → get_or ss i 0 ≡ s → get_or (splice i 1 (new_starts s to a size) ss) 0 top ≡ get_or ss 0 top
  start_kept i [] h es = absurd (omega arith)
  start_kept zero (x ∷ ss) h es = first_piece s to a size from ss top ∙ sym es
  start_kept (suc i) (x ∷ ss) h es = refl

  -- range i among others
  pub within_carved : (i : ℕ) (ss ts : List ℕ) → length ts ≡ length ss → i < length ss → get_or ss i 0 ≡ s → get_or ss (i + 1) top ≡ to → get_or ts i 0 ≡ 0 → Within top ss ts w → Within top (splice i 1 (new_starts s to a size) ss) (splice i 1 (new_tags s to a size tag) ts) w
  within_carved i [] ts n h es ee et f = absurd (omega arith)
  within_carved i (x ∷ ss) [] n h es ee et f = absurd (omega arith)
  within_carved zero (x ∷ ss) (t ∷ ts) n h es ee et f = within_pieces ss ts ee (omega (arith, within_head top w x t ss ts f et)) (within_tail top w x t ss ts f)
  within_carved (suc i) (x ∷ ss) (t ∷ ts) n h es ee et f =
      let z : suc i + 1 ≡ suc (i + 1) = omega arith in
      let head : t ≡ 0 → get_or (splice i 1 (new_starts s to a size) ss) 0 top ≤ x + w + 1 = λ q. rw (start_kept i ss (omega arith) es) (within_head top w x t ss ts f q) in
      rw z (within_cons top w x t _ _ head (within_carved i ss ts (omega arith) (omega arith) es (rw z at ee) et (within_tail top w x t ss ts f)))
