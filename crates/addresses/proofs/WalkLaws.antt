-- Laws of walking a row from tile to tile, by asking what stands at an address.
--     walk-start, walk_step       from the start of a tile, what stands there is that tile, and the next one starts past its end
--     has_move                    what stands at one address of a tile stands at each
-- Assumes nothing.
use Rattle.std.proofs.Common.{◌≡◌, ℕ, ◌+◌, ◌<◌, ◌≤◌, List, [], ◌∷◌, ◌++◌, sym, inl, inr, arith}
use Rattle.table.specs.Row.{Tile, past}
use Rattle.table.specs.Tiles.{Has}
use Rattle.addresses.proofs.RowLaws.{Behind}
use Rattle.addresses.proofs.Tiles.{covers_cons}
use Rattle.addresses.proofs.StepLaws.{has_in}

-- what stands at one address of a tile stands at each
pub has_move : (top a b s e g : ℕ) (row : List Tile) → Has top a s e g row → s ≤ b → b ≤ e → Has top b s e g row
unfolding Has
has_move top a b s e g [] h l k = h
has_move top a b s e g (t ∷ row) (inl w) l k = inl (w.0, w.1, w.2, l, k)
has_move top a b s e g (t ∷ row) (inr w) l k = inr (has_move top a b s e g row w l k)

-- a row starts where it is to, and ends by the top
pub behind_past : (from top : ℕ) (row : List Tile) → Behind from top row → past row top ≡ from
unfolding Behind past
behind_past from top [] b = sym b
behind_past from top (t ∷ row) b = (covers_cons from top t row b).0

pub behind_top : (from top : ℕ) (row : List Tile) → Behind from top row → from ≤ top
unfolding Behind
behind_top from top [] b = omega (arith, b)
behind_top from top (t ∷ row) b =
    let c = covers_cons from top t row b in
    omega (arith, c.1, behind_top (past row top) top row c.3)

-- each tile of it starts not below that, and ends below the top
pub has_from : (from top a s e g : ℕ) (row : List Tile) → Behind from top row → Has top a s e g row → from ≤ s
unfolding Behind Has
has_from from top a s e g [] b h = absurd h
has_from from top a s e g (t ∷ row) b (inl w) = omega (arith, (covers_cons from top t row b).0, w.0)
has_from from top a s e g (t ∷ row) b (inr w) =
    let c = covers_cons from top t row b in
    omega (arith, c.1, has_from (past row top) top a s e g row c.3 w)

pub has_to : (from top a s e g : ℕ) (row : List Tile) → Behind from top row → Has top a s e g row → e < top
unfolding Behind Has
has_to from top a s e g [] b h = absurd h
has_to from top a s e g (t ∷ row) b (inl w) = omega (arith, w.1, behind_top (past row top) top row (covers_cons from top t row b).3)
has_to from top a s e g (t ∷ row) b (inr w) = has_to (past row top) top a s e g row (covers_cons from top t row b).3 w

-- a later tile starts later
past_later : (from top : ℕ) (xs ys : List Tile) → Behind from top (xs ++ ys) → from ≤ past ys top
unfolding Behind
past_later from top [] ys b = omega (arith, behind_past from top ys b)
past_later from top (x ∷ xs) ys b =
    let c = covers_cons from top x (xs ++ ys) b in
    omega (arith, c.1, past_later (past (xs ++ ys) top) top xs ys c.3)

-- the tile that starts at an address is what stands there
pub record Next (top s e g : ℕ) (ys : List Tile) : Type 0 where
  pub rest : List Tile
  pub tile : ys ≡ record { start = past ys top; tag = g } ∷ rest
  pub starts : s ≡ past ys top
  pub ends : e + 1 ≡ past rest top

pub walk_step : (from top s e g : ℕ) (xs ys : List Tile) → Behind from top (xs ++ ys) → Has top (past ys top) s e g (xs ++ ys) → Next top s e g ys
unfolding Behind Has past
walk_step from top s e g [] [] b h = absurd h
walk_step from top s e g [] (t ∷ ys) b (inl w) =
    record { rest = ys; tile = λ i. record { start = t.start; tag = w.2 i } ∷ ys; starts = sym w.0; ends = w.1 }
walk_step from top s e g [] (t ∷ ys) b (inr w) =
    let c = covers_cons from top t ys b in
    absurd (omega (arith, c.0, c.1, has_from (past ys top) top t.start s e g ys c.3 w, has_in top t.start s e g ys w))
walk_step from top s e g (x ∷ xs) ys b (inl w) =
    let c = covers_cons from top x (xs ++ ys) b in
    absurd (omega (arith, w.1, w.4, past_later (past (xs ++ ys) top) top xs ys c.3))
walk_step from top s e g (x ∷ xs) ys b (inr w) = walk_step (past (xs ++ ys) top) top s e g xs ys (covers_cons from top x (xs ++ ys) b).3 w
