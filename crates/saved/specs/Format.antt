-- How an address allocator is saved in bytes (docs/FORMAT.md has an example byte by byte).
use Rattle.std.specs.Prelude.{◌≡◌, ℕ, ◌+◌, ◌-◌, ◌*◌, List, [], ◌∷◌, length}
use Rattle.octets.specs.Octets.{word}
use Rattle.frame.specs.Frame.{Frame}
use Rattle.table.specs.Row.{Tile}
use Rattle.addresses.specs.Meaning.{row_of}
use Rattle.addresses.specs.Operations.{Pool}

-- the kind: the eight letters RKsavedA
abbrev pub kind : ℕ
kind = 0x4164_6576_6173_4b52

-- the words w from word k on say a row of ranges, two words each: the first address, and 0 for a free range, 1 for a granted one
unfoldable pub Tiles : (ℕ → ℕ) → ℕ → List Tile → Type 0
Tiles w k [] = Unit {0}
Tiles w k (t ∷ row) = (w k ≡ t.start) × (w (k + 1) ≡ t.tag) × Tiles w (k + 2) row

-- the bytes begin with the pool p: a frame with its first and last address and its limit, around its ranges in order
pub record Message (bs : List ℕ) (p : Pool) : Type 0 where
  pub frame : Frame kind p.state.base (p.state.top - 1) p.limit (2 * length (row_of p.state)) bs
  pub row : Tiles (word bs) 7 (row_of p.state)

-- how many bytes that takes
abbrev pub size : Pool → ℕ
size p = 64 + 16 * length (row_of p.state)
