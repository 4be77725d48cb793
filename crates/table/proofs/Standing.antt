-- The tile that an address lies in decides what stands there: whether it is open, granted, and what range has it. Assumes nothing.
use Prim.Native.Nat.{ℕ, ◌+◌, ◌≤◌, ◌<◌}
use mathlib.Core.Path.{◌≡◌, refl}
use mathlib.Core.List.{List, [], ◌∷◌, ◌++◌}
use mathlib.Core.Logic.{inl, inr, ⊎_elim}
use native.Mathlib.Omega.{arith}
use lib.ListN.{length}
use Rattle.table.specs.Row.{Tile, past, Covers}
use Rattle.table.specs.Tiles.{Open, Granted, Has}
use Rattle.table.proofs.Order.{start_ge}

-- nothing stands below the first tile
module _ (top : ℕ) where
  pub open_above : (a size from : ℕ) (row : List Tile) → Covers from top row → a < from → Open top a size row → ⊥
  unfolding Covers Open
  open_above a size from [] c h o = o
  open_above a size from (t ∷ []) c h o = ⊎_elim (λ (w : (t.tag ≡ 0) × (t.start ≤ a) × (a + size ≤ past [] top)). omega (arith, w.1, c.0)) (λ (w : ⊥). w) o
  open_above a size from (t ∷ u ∷ row) c h o = ⊎_elim (λ (w : (t.tag ≡ 0) × (t.start ≤ a) × (a + size ≤ past (u ∷ row) top)). omega (arith, w.1, c.0)) (open_above a size u.start (u ∷ row) c.3 (omega (arith, c.1))) o

  pub granted_above : (s from : ℕ) (row : List Tile) → Covers from top row → s < from → Granted s row → ⊥
  unfolding Covers Granted
  granted_above s from [] c h o = o
  granted_above s from (t ∷ []) c h o = ⊎_elim (λ (w : (t.start ≡ s) × (t.tag ≡ 0 → ⊥)). omega (arith, w.0, c.0)) (λ (w : ⊥). w) o
  granted_above s from (t ∷ u ∷ row) c h o = ⊎_elim (λ (w : (t.start ≡ s) × (t.tag ≡ 0 → ⊥)). omega (arith, w.0, c.0)) (granted_above s u.start (u ∷ row) c.3 (omega (arith, c.1))) o

-- a tile of the row, with what is before it and what is behind it
module _ (top : ℕ) (t : Tile) (post : List Tile) where
  -- what it is, stands in the row
  pub open_in : (a size : ℕ) (pre : List Tile) → t.tag ≡ 0 → t.start ≤ a → a + size ≤ past post top → Open top a size (pre ++ t ∷ post)
  unfolding Open
  open_in a size [] f l h = inl (f, l, h)
  open_in a size (x ∷ pre) f l h = inr (open_in a size pre f l h)

  pub granted_in : (s : ℕ) (pre : List Tile) → t.start ≡ s → (t.tag ≡ 0 → ⊥) → Granted s (pre ++ t ∷ post)
  unfolding Granted
  granted_in s [] e n = inl (e, n)
  granted_in s (x ∷ pre) e n = inr (granted_in s pre e n)

  pub has_in : (a e : ℕ) (pre : List Tile) → t.start ≤ a → a ≤ e → e + 1 ≡ past post top → Has top a t.start e t.tag (pre ++ t ∷ post)
  unfolding Has
  has_in a e [] l h q = inl (refl, q, refl, l, h)
  has_in a e (x ∷ pre) l h q = inr (has_in a e pre l h q)

  -- it is the only one: a lies in it, or past it and before the next one
  module _ (a : ℕ) (low : t.start ≤ a) (next : 0 < length post → a < past post top) where
    open_behind : (size from : ℕ) (row : List Tile) → Covers from top (t ∷ row) → (0 < length row → a < past row top) → Open top a size row → ⊥
    unfolding Covers past Open
    open_behind size from [] c h o = o
    open_behind size from (u ∷ row) c h o = open_above top a size u.start (u ∷ row) c.3 (h (omega arith)) o

    granted_behind : (from : ℕ) (row : List Tile) → Covers from top (t ∷ row) → (0 < length row → a < past row top) → Granted a row → ⊥
    unfolding Covers past Granted
    granted_behind from [] c h o = o
    granted_behind from (u ∷ row) c h o = granted_above top a u.start (u ∷ row) c.3 (h (omega arith)) o

    pub open_only : (size : ℕ) → 0 < size → (pre : List Tile) (from : ℕ) → Covers from top (pre ++ t ∷ post) → Open top a size (pre ++ t ∷ post) → (t.tag ≡ 0) × (a + size ≤ past post top)
    unfolding Covers Open past
    open_only size p [] from c o = ⊎_elim (λ (w : (t.tag ≡ 0) × (t.start ≤ a) × (a + size ≤ past post top)). (w.0, w.2)) (λ w. absurd (open_behind size from post c next w)) o
    open_only size p (x ∷ []) from c o = ⊎_elim (λ (w : (x.tag ≡ 0) × (x.start ≤ a) × (a + size ≤ t.start)). absurd (omega (arith, w.2))) (open_only size p [] t.start c.3) o
    open_only size p (x ∷ y ∷ pre) from c o =
        let g = start_ge top t post (y ∷ pre) y.start c.3 in
        ⊎_elim (λ (w : (x.tag ≡ 0) × (x.start ≤ a) × (a + size ≤ y.start)). absurd (omega (arith, w.2))) (open_only size p (y ∷ pre) y.start c.3) o

    pub granted_only : (pre : List Tile) (from : ℕ) → Covers from top (pre ++ t ∷ post) → Granted a (pre ++ t ∷ post) → (t.start ≡ a) × (t.tag ≡ 0 → ⊥)
    unfolding Covers Granted past
    granted_only [] from c o = ⊎_elim (λ (w : (t.start ≡ a) × (t.tag ≡ 0 → ⊥)). w) (λ w. absurd (granted_behind from post c next w)) o
    granted_only (x ∷ []) from c o = ⊎_elim (λ (w : (x.start ≡ a) × (x.tag ≡ 0 → ⊥)). absurd (omega (arith, w.0, c.0, c.1))) (granted_only [] t.start c.3) o
    granted_only (x ∷ y ∷ pre) from c o =
        let g = start_ge top t post (y ∷ pre) y.start c.3 in
        ⊎_elim (λ (w : (x.start ≡ a) × (x.tag ≡ 0 → ⊥)). absurd (omega (arith, w.0, c.0, c.1))) (granted_only (y ∷ pre) y.start c.3) o
