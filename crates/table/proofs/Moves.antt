-- What `cut` and `melt` do to a row that covers its pool, around the tile that they change: and that it covers the pool again. Assumes nothing.
use Prim.Native.Nat.{ℕ, ◌+◌, ◌≤◌, ◌<◌}
use mathlib.Core.Path.{◌≡◌, refl, sym, ap, subst, ◌∙◌}
use mathlib.Core.List.{List, [], ◌∷◌, ◌++◌}
use mathlib.Core.Bool.{Bool, true, false, cond}
use native.Mathlib.Omega.{arith}
use native.Mathlib.Decide.{ℕ_discrete, dec_lt}
use borrow.Author.Tests.{lt-ltb, le-ltb, eq-eqb, ne_eqb}
use lib.Dec.{eqb, ltb}
use lib.ListN.{drop}
use Rattle.table.specs.Row.{Tile, past, Covers, pieces, cut, unmark, unfree, melted, melt}
use Rattle.table.specs.Steps.{glue}
use Rattle.table.proofs.Order.{first_start, covers_from, start_ge}

-- ---- another tile in the place of one, with the same start

covers_swap : (top g : ℕ) (t : Tile) (post rest : List Tile) → (g ≡ 0 → t.tag ≡ 0) → Covers t.start top (record { start = t.start; tag = g } ∷ rest) → (pre : List Tile) (from : ℕ) → Covers from top (pre ++ t ∷ post) → Covers from top (pre ++ record { start = t.start; tag = g } ∷ rest)
unfolding Covers
covers_swap top g t post rest f d [] from c = subst (λ (x : ℕ). Covers x top (record { start = t.start; tag = g } ∷ rest)) (first_start top from t post c) d
covers_swap top g t post rest f d (x ∷ []) from c = (c.0, c.1, λ y z. c.2 y (f z), d)
covers_swap top g t post rest f d (x ∷ y ∷ pre) from c = (c.0, c.1, c.2, covers_swap top g t post rest f d (y ∷ pre) y.start c.3)

-- ---- cut

module _ (top : ℕ) (t : Tile) (post : List Tile) (a size tag : ℕ) where
  -- the tile that has a is cut
  pub cut_at : (pre : List Tile) (from : ℕ) → Covers from top (pre ++ t ∷ post) → t.start ≤ a → a < past post top → cut top a size tag (pre ++ t ∷ post) ≡ pre ++ (pieces (past post top) a size tag t ++ post)
  unfolding cut Covers
  cut_at [] from c p q = rw (lt-ltb a (past post top) q)
  cut_at (x ∷ []) from c p q = rw (le-ltb a t.start p) (ap (λ (l : List Tile). x ∷ l) (cut_at [] t.start c.3 p q))
  cut_at (x ∷ y ∷ pre) from c p q =
      let s : y.start ≤ t.start = start_ge top t post (y ∷ pre) y.start c.3 in
      rw (le-ltb a y.start (omega arith)) (ap (λ (l : List Tile). x ∷ l) (cut_at (y ∷ pre) y.start c.3 p q))

  abbrev window : Tile
  window = record { start = a; tag = tag }

  abbrev rest : Tile
  rest = record { start = a + size; tag = 0 }

  module _ (free : t.tag ≡ 0) (some : 0 < size) (named : 0 < tag) (low : t.start ≤ a) (high : a + size ≤ past post top) where
    -- what is left behind the window
    covers_rest : (l : List Tile) → Covers t.start top (t ∷ l) → a + size < past l top → Covers (a + size) top (rest ∷ l)
    unfolding Covers past
    covers_rest [] c h = (refl, h)
    covers_rest (u ∷ l) c h = (refl, h, λ z y. c.2 free y, c.3)

    -- the window, with what is left behind it or with nothing
    covers_more : Covers t.start top (t ∷ post) → a + size < past post top → Covers a top (window ∷ rest ∷ post)
    unfolding Covers
    covers_more c h = (refl, omega arith, λ z y. omega arith, covers_rest post c h)

    covers_flush : (l : List Tile) → Covers t.start top (t ∷ l) → past l top ≡ a + size → Covers a top (window ∷ l)
    unfolding Covers past
    covers_flush [] c h = (refl, omega arith)
    covers_flush (u ∷ l) c h = (refl, omega arith, λ z y. omega arith, c.3)

    -- both with what is left before the window
    covers_before : (l : List Tile) → t.start < a → Covers a top (window ∷ l) → Covers t.start top (t ∷ window ∷ l)
    unfolding Covers
    covers_before l h d = (refl, h, λ z y. omega arith, d)

    -- the theorem: the row is again one that covers the pool
    pub cut_covers : (pre : List Tile) (from : ℕ) → Covers from top (pre ++ t ∷ post) → Covers from top (pre ++ (pieces (past post top) a size tag t ++ post))
    unfolding pieces
    cut_covers pre from c = by_rest (dec_lt (a + size) (past post top))
      where
        own : Covers t.start top (t ∷ post)
        own = covers_from top t post pre from c

        by_start : (l : List Tile) → Covers a top (window ∷ l) → Covers from top (pre ++ ((cond (ltb t.start a) (t ∷ []) [] ++ window ∷ []) ++ l))
        by_start l d =
            elim (dec_lt t.start a) [
              | yes h ↦ rw (lt-ltb t.start a h) (covers_swap top t.tag t post (window ∷ l) (λ z. z) (covers_before l h d) pre from c)
              | no n ↦
                  let e : a ≡ t.start = omega arith in
                  rw (le-ltb t.start a (omega arith)) (subst (λ (x : ℕ). Covers from top (pre ++ record { start = x; tag = tag } ∷ l)) (sym e) (covers_swap top tag t post l (λ z. free) (subst (λ (x : ℕ). Covers x top (record { start = x; tag = tag } ∷ l)) e d) pre from c))
            ]

        same : (b : Bool) (l : List Tile) → (cond b (t ∷ []) [] ++ window ∷ []) ++ l ≡ cond b (t ∷ []) [] ++ window ∷ l
        same true l = refl
        same false l = refl

        whole : (b : Bool) (l : List Tile) → (cond b (t ∷ []) [] ++ window ∷ l) ++ post ≡ cond b (t ∷ []) [] ++ window ∷ (l ++ post)
        whole true l = refl
        whole false l = refl

        by_rest : Dec (a + size < past post top) → Covers from top (pre ++ ((cond (ltb t.start a) (t ∷ []) [] ++ window ∷ cond (ltb (a + size) (past post top)) (rest ∷ []) []) ++ post))
        by_rest (yes h) = rw (lt-ltb (a + size) (past post top) h) (rw (whole (ltb t.start a) (rest ∷ []), ← same (ltb t.start a) (rest ∷ post)) (by_start (rest ∷ post) (covers_more own h)))
        by_rest (no n) = rw (le-ltb (a + size) (past post top) (omega arith)) (rw (whole (ltb t.start a) [], ← same (ltb t.start a) post) (by_start post (covers_flush post own (omega arith))))

-- ---- melt

same : (b : Bool) (l : List Tile) → cond b l l ≡ l
same true l = refl
same false l = refl

-- of two neighbours one is granted, so nothing melts
apart : (t u : Tile) (l : List Tile) → (t.tag ≡ 0 → u.tag ≡ 0 → ⊥) → cond (eqb t.tag 0) (unfree (u ∷ l)) (u ∷ l) ≡ u ∷ l
unfolding unfree
apart t u l f = elim (ℕ_discrete t.tag 0) [ yes e ↦ rw (eq-eqb t.tag 0 e, ne_eqb u.tag 0 (f e)) | no n ↦ rw (ne_eqb t.tag 0 n) ]

melted_id : (top from : ℕ) (row : List Tile) → Covers from top row → melted row ≡ row
unfolding melted Covers
melted_id top from [] c = refl
melted_id top from (t ∷ []) c = ap (λ (l : List Tile). t ∷ l) (same (eqb t.tag 0) [])
melted_id top from (t ∷ u ∷ l) c = ap (λ (z : List Tile). t ∷ cond (eqb t.tag 0) (unfree z) z) (melted_id top u.start (u ∷ l) c.3) ∙ ap (λ (z : List Tile). t ∷ z) (apart t u l c.2)

glue_head : (y : Tile) (pre : List Tile) (t : Tile) (r : List Tile) → glue (y ∷ pre) t r ≡ y ∷ drop 1 (glue (y ∷ pre) t r)
unfolding glue
glue_head y [] t r = refl
glue_head y (z ∷ pre) t r = refl

module _ (top : ℕ) (t : Tile) (post : List Tile) where
  abbrev freed : Tile
  freed = record { start = t.start; tag = 0 }

  unmark_at : (pre : List Tile) (from : ℕ) → Covers from top (pre ++ t ∷ post) → unmark t.start (pre ++ t ∷ post) ≡ pre ++ freed ∷ post
  unfolding unmark Covers
  unmark_at [] from c = rw (eq-eqb t.start t.start refl)
  unmark_at (x ∷ []) from c = rw (ne_eqb x.start t.start (λ e. omega (arith, c.0, c.1))) (ap (λ (l : List Tile). x ∷ l) (unmark_at [] t.start c.3))
  unmark_at (x ∷ y ∷ pre) from c =
      let s : y.start ≤ t.start = start_ge top t post (y ∷ pre) y.start c.3 in
      rw (ne_eqb x.start t.start (λ e. omega (arith, c.0, c.1))) (ap (λ (l : List Tile). x ∷ l) (unmark_at (y ∷ pre) y.start c.3))

  behind_id : (l : List Tile) (from : ℕ) → Covers from top (t ∷ l) → melted l ≡ l
  unfolding melted Covers
  behind_id [] from c = refl
  behind_id (u ∷ l) from c = melted_id top u.start (u ∷ l) c.3

  melted_at : (pre : List Tile) (from : ℕ) → Covers from top (pre ++ t ∷ post) → melted (pre ++ freed ∷ post) ≡ glue pre freed (unfree post)
  unfolding melted glue Covers unfree
  melted_at [] from c = rw (behind_id post from c)
  melted_at (x ∷ []) from c = ap (λ (l : List Tile). x ∷ cond (eqb x.tag 0) (unfree l) l) (melted_at [] t.start c.3)
  melted_at (x ∷ y ∷ pre) from c =
      ap (λ (l : List Tile). x ∷ l)
      (ap (λ (l : List Tile). cond (eqb x.tag 0) (unfree l) l) (melted_at (y ∷ pre) y.start c.3 ∙ glue_head y pre freed (unfree post))
      ∙ apart x y (drop 1 (glue (y ∷ pre) freed (unfree post))) c.2 ∙ sym (glue_head y pre freed (unfree post)))

  -- the tile is free, and one with the free ones beside it
  pub melt_glue : (pre : List Tile) (from : ℕ) → Covers from top (pre ++ t ∷ post) → melt t.start (pre ++ t ∷ post) ≡ glue pre freed (unfree post)
  unfolding melt
  melt_glue pre from c = ap melted (unmark_at pre from c) ∙ melted_at pre from c

  -- from the tile on
  covers_freed : (l : List Tile) → Covers t.start top (t ∷ l) → Covers t.start top (freed ∷ unfree l)
  unfolding Covers unfree
  covers_freed [] c = (refl, c.1)
  covers_freed (u ∷ l) c = elim (ℕ_discrete u.tag 0) [ yes e ↦ rw (eq-eqb u.tag 0 e) (past_free l e c.3) | no n ↦ rw (ne_eqb u.tag 0 n) (refl, c.1, λ z. n, c.3) ]
    where
      past_free : (r : List Tile) → u.tag ≡ 0 → Covers u.start top (u ∷ r) → Covers t.start top (freed ∷ r)
      past_free [] e d = (refl, omega (arith, d.1))
      past_free (v ∷ r) e d = (refl, omega (arith, d.1), λ z. d.2 e, d.3)

  -- and from the tile before it on
  covers_glued : (x : Tile) (from : ℕ) (r : List Tile) → x.start ≡ from → from < t.start → Covers t.start top (freed ∷ r) → Covers from top (x ∷ cond (eqb x.tag 0) r (freed ∷ r))
  unfolding Covers
  covers_glued x from r e h d = elim (ℕ_discrete x.tag 0) [ yes z ↦ rw (eq-eqb x.tag 0 z) (into r d) | no n ↦ rw (ne_eqb x.tag 0 n) (e, h, λ z. absurd (n z), d) ]
    where
      into : (l : List Tile) → Covers t.start top (freed ∷ l) → Covers from top (x ∷ l)
      into [] w = (e, omega (arith, w.1))
      into (v ∷ l) w = (e, omega (arith, w.1), λ y. w.2 refl, w.3)

  -- the theorem: the row is again one that covers the pool
  pub melt_covers : (pre : List Tile) (from : ℕ) → Covers from top (pre ++ t ∷ post) → Covers from top (glue pre freed (unfree post))
  unfolding Covers glue
  melt_covers [] from c = subst (λ (x : ℕ). Covers x top (freed ∷ unfree post)) (first_start top from t post c) (covers_freed post (covers_from top t post [] from c))
  melt_covers (x ∷ []) from c = covers_glued x from (unfree post) c.0 c.1 (covers_freed post c.3)
  melt_covers (x ∷ y ∷ pre) from c =
      let d : Covers y.start top (y ∷ drop 1 (glue (y ∷ pre) freed (unfree post))) = rw (glue_head y pre freed (unfree post)) at (melt_covers (y ∷ pre) y.start c.3) in
      rw (glue_head y pre freed (unfree post)) (c.0, c.1, c.2, d)
