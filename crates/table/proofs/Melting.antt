-- The row after a tile is given back, by what stands before the tile and behind it. Assumes nothing.
use Prim.Native.Nat.{ℕ, zero, suc, ◌+◌, ◌-◌, ◌<◌}
use mathlib.Core.Path.{◌≡◌, refl, sym, ap, ◌∙◌}
use mathlib.Core.List.{List, [], ◌∷◌, ◌++◌}
use mathlib.Core.Bool.{Bool, true, false, cond}
use native.Mathlib.Omega.{arith}
use borrow.Author.Tests.{eq-eqb, ne_eqb}
use lib.ListN.{length, get_or, take, drop, length-drop}
use lib.Seq.{drop-drop, get_or-take, get_or-drop, length-take-le}
use Rattle.ranges.specs.Align.{Decides}
use Rattle.blocks.specs.Blocks.{count_of, starts_of, tags_of, Settled}
use Rattle.splice.specs.Splice.{splice}
use Rattle.melting.specs.Melting.{Free}
use Rattle.table.specs.Row.{Tile, unfree}
use Rattle.table.specs.Layout.{row_of, row_in}
use Rattle.table.specs.Steps.{glue}
use Rattle.table.proofs.Rows.{row_get}
use Rattle.table.proofs.Lying.{starts_length, as_many, count_row, row_splice}

-- `glue` by the tag of the last tile before; j is its index
glue_free : (pre : List Tile) (t : Tile) (r : List Tile) (d : Tile) (j : ℕ) → suc j ≡ length pre → (get_or pre j d).tag ≡ 0 → glue pre t r ≡ pre ++ r
unfolding glue
glue_free [] t r d j e f = absurd (omega arith)
glue_free (x ∷ []) t r d zero e f = rw (eq-eqb x.tag 0 f)
glue_free (x ∷ []) t r d (suc j) e f = absurd (omega arith)
glue_free (x ∷ y ∷ pre) t r d zero e f = absurd (omega arith)
glue_free (x ∷ y ∷ pre) t r d (suc j) e f = ap (λ (l : List Tile). x ∷ l) (glue_free (y ∷ pre) t r d j (omega arith) f)

glue_used : (pre : List Tile) (t : Tile) (r : List Tile) (d : Tile) → ((j : ℕ) → suc j ≡ length pre → (get_or pre j d).tag ≡ 0 → ⊥) → glue pre t r ≡ pre ++ t ∷ r
unfolding glue
glue_used [] t r d f = refl
glue_used (x ∷ []) t r d f = rw (ne_eqb x.tag 0 (f 0 (omega arith)))
glue_used (x ∷ y ∷ pre) t r d f = ap (λ (l : List Tile). x ∷ l) (glue_used (y ∷ pre) t r d (λ j e z. f (suc j) (omega arith) z))

-- `unfree` by the tag of the first tile
unfree_free : (l : List Tile) (d : Tile) → 0 < length l → (get_or l 0 d).tag ≡ 0 → unfree l ≡ drop 1 l
unfolding unfree
unfree_free [] d h f = absurd (omega arith)
unfree_free (x ∷ l) d h f = rw (eq-eqb x.tag 0 f)

unfree_used : (l : List Tile) (d : Tile) → (0 < length l → (get_or l 0 d).tag ≡ 0 → ⊥) → unfree l ≡ l
unfolding unfree
unfree_used [] d f = refl
unfree_used (x ∷ l) d f = rw (ne_eqb x.tag 0 (f (omega arith)))

-- the tag of a tile of a row in memory
tag_in : (m : List ℕ) → Settled m → (j : ℕ) (d : Tile) → j < count_of m → (get_or (row_in m) j d).tag ≡ get_or (tags_of m) j 0
unfolding row_in
tag_in m s j d h = ap (λ (t : Tile). t.tag) (row_get (starts_of m) (tags_of m) j d (as_many m s) (omega (arith, starts_length m s)))

module _ (m : List ℕ) (sound : Settled m) (i : ℕ) (h : i < count_of m) where
  abbrev row : List Tile
  row = row_in m

  abbrev tile : Tile
  tile = record { start = get_or (starts_of m) i 0; tag = 0 }

  inside : (j : ℕ) → Free m j → j < count_of m
  inside j f = omega (arith, f.within, sound.total)

  front_length : length (take i row) ≡ i
  front_length = length-take-le i row (omega (arith, count_row m sound))

  -- what is before it, and what is behind it
  pub before_free : (0 < i) × Free m (i - 1) → (r : List Tile) → glue (take i row) tile r ≡ take i row ++ r
  before_free f r =
      glue_free (take i row) tile r tile (i - 1) (omega (arith, f.0, front_length))
      (ap (λ (t : Tile). t.tag) (get_or-take i row (i - 1) tile (omega (arith, f.0))) ∙ tag_in m sound (i - 1) tile (inside (i - 1) f.1) ∙ f.1.free)

  pub before_used : ((0 < i) × Free m (i - 1) → ⊥) → (r : List Tile) → glue (take i row) tile r ≡ take i row ++ tile ∷ r
  before_used f r =
      glue_used (take i row) tile r tile
      (λ j e z.
      let e' : i - 1 ≡ j = omega (arith, front_length) in
      let w : j < count_of m = omega (arith, front_length) in
      f (omega (arith, front_length), record { within = omega (arith, w, e', sound.total); free = rw e' (sym (tag_in m sound j tile w) ∙ ap (λ (t : Tile). t.tag) (sym (get_or-take i row j tile (omega (arith, front_length)))) ∙ z) }))

  behind_tag : (j : ℕ) → get_or (drop (i + 1) row) 0 tile ≡ get_or row (i + 1) tile
  behind_tag j = let z : i + 1 + 0 ≡ i + 1 = omega arith in get_or-drop (i + 1) row 0 tile ∙ rw z

  pub behind_free : Free m (i + 1) → unfree (drop (i + 1) row) ≡ drop (i + 1 + 1) row
  behind_free f =
      unfree_free (drop (i + 1) row) tile (simp length-drop (omega (arith, count_row m sound, inside (i + 1) f)))
      (ap (λ (t : Tile). t.tag) (behind_tag 0) ∙ tag_in m sound (i + 1) tile (inside (i + 1) f) ∙ f.free)
      ∙ drop-drop 1 (i + 1) row

  pub behind_used : (Free m (i + 1) → ⊥) → unfree (drop (i + 1) row) ≡ drop (i + 1) row
  behind_used f =
      unfree_used (drop (i + 1) row) tile
      (λ l z.
      let w : i + 1 < count_of m = omega (arith, count_row m sound, simp length-drop at l) in
      f (record { within = omega (arith, w, sound.total); free = sym (tag_in m sound (i + 1) tile w) ∙ ap (λ (t : Tile). t.tag) (sym (behind_tag 0)) ∙ z }))

  -- the lists after it was given back, as a row
  pub melt_row : (after before : Bool) → Decides after (Free m (i + 1)) → Decides before ((0 < i) × Free m (i - 1)) → row_of (splice i (cond after 2 1) (cond before [] (get_or (starts_of m) i 0 ∷ [])) (starts_of m)) (splice i (cond after 2 1) (cond before [] (0 ∷ [])) (tags_of m)) ≡ glue (take i row) tile (unfree (drop (i + 1) row))
  unfolding row_in row_of
  melt_row true true f g =
      let e : i + 1 + 1 ≡ i + 2 = omega arith in
      row_splice (starts_of m) (tags_of m) [] [] i 2 (as_many m sound) refl ∙ sym (before_free g (unfree (drop (i + 1) row)) ∙ rw (behind_free f, e))
  melt_row true false f g =
      let e : i + 1 + 1 ≡ i + 2 = omega arith in
      row_splice (starts_of m) (tags_of m) (get_or (starts_of m) i 0 ∷ []) (0 ∷ []) i 2 (as_many m sound) refl ∙ sym (before_used g (unfree (drop (i + 1) row)) ∙ rw (behind_free f, e))
  melt_row false true f g = row_splice (starts_of m) (tags_of m) [] [] i 1 (as_many m sound) refl ∙ sym (before_free g (unfree (drop (i + 1) row)) ∙ rw (behind_used f))
  melt_row false false f g = row_splice (starts_of m) (tags_of m) (get_or (starts_of m) i 0 ∷ []) (0 ∷ []) i 1 (as_many m sound) refl ∙ sym (before_used g (unfree (drop (i + 1) row)) ∙ rw (behind_used f))
