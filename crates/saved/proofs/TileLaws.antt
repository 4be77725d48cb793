-- Laws of rows in words. Assumes nothing.
--     tiles_same       equal words say equal rows
--     tiles_more       one range more at the end
--     tiles_one        words say one row of a length at most
--     tiles_words      one row is said by the same words
use Rattle.std.proofs.Common.{◌≡◌, ℕ, ◌+◌, ◌*◌, ◌<◌, ◌≤◌, List, [], ◌∷◌, ◌++◌, length, sym, refl, ap, ◌∙◌, subst, ⊎_elim, arith}
use Rattle.octets.proofs.Words.{below_or_not}
use Rattle.table.specs.Row.{Tile}
use Rattle.saved.specs.Format.{Tiles}

pub tiles_same : (v w : ℕ → ℕ) (k : ℕ) (row : List Tile) → ((j : ℕ) → k ≤ j → j < k + 2 * length row → v j ≡ w j) → Tiles w k row → Tiles v k row
unfolding Tiles
tiles_same v w k [] e t = t
tiles_same v w k (x ∷ row) e t = (e k (omega arith) (omega arith) ∙ t.0, e (k + 1) (omega arith) (omega arith) ∙ t.1, tiles_same v w (k + 2) row (λ j l h. e j (omega arith) (omega arith)) t.2)

pub tiles_more : (w : ℕ → ℕ) (k s g : ℕ) (row : List Tile) → Tiles w k row → w (k + 2 * length row) ≡ s → w (k + 1 + 2 * length row) ≡ g → Tiles w k (row ++ record { start = s; tag = g } ∷ [])
unfolding Tiles
tiles_more w k s g [] t p q = (ap w (omega arith) ∙ p, ap w (omega arith) ∙ q, _)
tiles_more w k s g (x ∷ row) t p q = (t.0, t.1, tiles_more w (k + 2) s g row t.2 (ap w (omega arith) ∙ p) (ap w (omega arith) ∙ q))

pub tiles_one : (w : ℕ → ℕ) (k : ℕ) (row col : List Tile) → Tiles w k row → Tiles w k col → length row ≡ length col → row ≡ col
unfolding Tiles
tiles_one w k [] [] t u e = refl
tiles_one w k [] (y ∷ col) t u e = absurd (omega arith)
tiles_one w k (x ∷ row) [] t u e = absurd (omega arith)
tiles_one w k (x ∷ row) (y ∷ col) t u e =
    let p : x ≡ y = λ i. record { start = (sym t.0 ∙ u.0) i; tag = (sym t.1 ∙ u.1) i } in
    let q : row ≡ col = tiles_one w (k + 2) row col t.2 u.2 (omega arith) in
    cc

pub tiles_words : (v w : ℕ → ℕ) (k : ℕ) (row : List Tile) → Tiles v k row → Tiles w k row → (i : ℕ) → k ≤ i → i < k + 2 * length row → v i ≡ w i
unfolding Tiles
tiles_words v w k [] t u i l h = absurd (omega arith)
tiles_words v w k (x ∷ row) t u i l h =
    ⊎_elim
    (λ (d : i < k + 1). let z : k ≡ i = omega arith in subst (λ (y : ℕ). v y ≡ w y) z (t.0 ∙ sym u.0))
    (λ (d : k + 1 ≤ i).
    ⊎_elim
    (λ (e : i < k + 2). let z : k + 1 ≡ i = omega arith in subst (λ (y : ℕ). v y ≡ w y) z (t.1 ∙ sym u.1))
    (λ (e : k + 2 ≤ i). tiles_words v w (k + 2) row t.2 u.2 i e (omega arith))
    (below_or_not i (k + 2)))
    (below_or_not i (k + 1))
