-- What stands in a row: a free stretch, a granted tile, the tile of an address.
use Rattle.std.specs.Prelude.{ℕ, ◌+◌, ◌≤◌, ◌≡◌, ◌⊎◌, List, [], ◌∷◌}
use Rattle.table.specs.Row.{Tile, past}

-- the `size` addresses from a lie in one free tile
unfoldable pub Open : ℕ → ℕ → ℕ → List Tile → Type 0
unfolding past
Open top a size [] = ⊥
Open top a size (t ∷ row) = ((t.tag ≡ 0) × (t.start ≤ a) × (a + size ≤ past row top)) ⊎ Open top a size row

-- a granted tile starts at s
unfoldable pub Granted : ℕ → List Tile → Type 0
Granted s [] = ⊥
Granted s (t ∷ row) = ((t.start ≡ s) × (t.tag ≡ 0 → ⊥)) ⊎ Granted s row

-- a tile that starts at s, has e as its last address, and the tag g, has the address a
unfoldable pub Has : ℕ → ℕ → ℕ → ℕ → ℕ → List Tile → Type 0
unfolding past
Has top a s e g [] = ⊥
Has top a s e g (t ∷ row) = ((t.start ≡ s) × (e + 1 ≡ past row top) × (t.tag ≡ g) × (s ≤ a) × (a ≤ e)) ⊎ Has top a s e g row
