-- What is left of lent words by a new bound, by copying, and by spreading the ranges over the blocks anew.
use Rattle.std.specs.Prelude.{ℕ, ◌+◌, ◌*◌, ◌≤◌, ◌<◌, ◌≡◌, List, length, get_or, take, drop, set}
use Rattle.blocks.specs.Blocks.{count_of, blocks_of, limit_of, size_at, bound_at, starts_at, tags_at, past_at, sizes, cells, starts_of, tags_of, Within, Settled, Bounded}

-- m' is m but for the words from `from` on and below `to`
pub record Same (m m' : List ℕ) (from to : ℕ) : Type 0 where
  pub len : length m' ≡ length m
  pub below : (i : ℕ) → i < from → get_or m' i 0 ≡ get_or m i 0
  pub above : (i : ℕ) → to ≤ i → get_or m' i 0 ≡ get_or m i 0

-- what `tighten` leaves: a new bound of block b, which is one
pub record Tightened (m m' : List ℕ) (b : ℕ) : Type 0 where
  pub bound : ℕ
  pub is : m' ≡ set m (8 + b) bound
  pub within : Within (past_at b m) (starts_at b m) (tags_at b m) bound

-- what `trim` leaves: the blocks from `lo` on and before `hi` have bounds, and all else is as it was
pub record Trimmed (m m' : List ℕ) (lo hi : ℕ) : Type 0 where
  pub same : Same m m' 8 136
  pub within : (c : ℕ) → lo ≤ c → c < hi → Within (past_at c m) (starts_at c m) (tags_at c m) (bound_at c m')
  pub before : (c : ℕ) → c < lo → bound_at c m' ≡ bound_at c m
  pub behind : (c : ℕ) → hi ≤ c → bound_at c m' ≡ bound_at c m

-- n words from `from` on are also at `to`, and all else is as it was
pub record Copied (m m' : List ℕ) (from to n : ℕ) : Type 0 where
  pub len : length m' ≡ length m
  pub there : (k : ℕ) → k < n → get_or m' (to + k) 0 ≡ get_or m (from + k) 0
  pub below : (j : ℕ) → j < to → get_or m' j 0 ≡ get_or m j 0
  pub above : (j : ℕ) → to + n ≤ j → get_or m' j 0 ≡ get_or m j 0

-- no word is in both of two parts of n words
unfoldable pub Apart : ℕ → ℕ → ℕ → Type 0
Apart from to n = (k j : ℕ) → k < n → j < n → from + k ≡ to + j → ⊥

-- the ranges of the first b blocks, n of them, stand one after another in the room behind the blocks: the starts, and 32 words for each block further the tags
pub record Gathered (m m' : List ℕ) (room b n : ℕ) : Type 0 where
  pub many : sizes 0 b m ≡ n
  pub same : Same m m' (136 + room * 129) (136 + room * 193)
  pub starts : take n (drop (136 + room * 129) m') ≡ cells 137 0 b m
  pub tags : take n (drop (136 + room * 161) m') ≡ cells 201 0 b m

-- the first n of those ranges are in the first b blocks, at most 32 in each
pub record Dealt (m m' : List ℕ) (room b n : ℕ) : Type 0 where
  pub len : length m' ≡ length m
  pub head : (j : ℕ) → j < 8 → (j ≡ 4 → ⊥) → get_or m' j 0 ≡ get_or m j 0
  pub behind : (j : ℕ) → 136 + room * 129 ≤ j → get_or m' j 0 ≡ get_or m j 0
  pub many : sizes 0 b m' ≡ n
  pub starts : cells 137 0 b m' ≡ take n (drop (136 + room * 129) m)
  pub tags : cells 201 0 b m' ≡ take n (drop (136 + room * 161) m)
  pub some : (c : ℕ) → c < b → 0 < size_at c m'
  pub few : (c : ℕ) → c < b → size_at c m' ≤ 32

-- the same pool and limit, with these starts and tags in blocks none of which is empty or full
pub record Laid (m m' : List ℕ) (ss ts : List ℕ) : Type 0 where
  pub settled : Settled m'
  pub limit : limit_of m' ≡ limit_of m
  pub first : get_or m' 2 0 ≡ get_or m 2 0
  pub last : get_or m' 3 0 ≡ get_or m 3 0
  pub starts : starts_of m' ≡ ss
  pub tags : tags_of m' ≡ ts

-- and each block's bound is one: what a change of a table leaves
pub record Turned (m m' : List ℕ) (ss ts : List ℕ) : Type 0 where
  pub laid : Laid m m' ss ts
  pub bounded : Bounded m'

-- a table but for the bounds from block lo on and before block hi, and but for block b, which may be empty or full, and block hi - 1, which may be empty
pub record Nearly (m : List ℕ) (lo b hi : ℕ) : Type 0 where
  pub many : 0 < count_of m
  pub total : sizes 0 (blocks_of m) m ≡ count_of m
  pub some : (c : ℕ) → c < blocks_of m → (c ≡ b → ⊥) → (c + 1 ≡ hi → ⊥) → 0 < size_at c m
  pub spare : (c : ℕ) → c < blocks_of m → (c ≡ b → ⊥) → size_at c m ≤ 61
  pub low : (c : ℕ) → c < blocks_of m → c < lo → Within (past_at c m) (starts_at c m) (tags_at c m) (bound_at c m)
  pub high : (c : ℕ) → c < blocks_of m → hi ≤ c → Within (past_at c m) (starts_at c m) (tags_at c m) (bound_at c m)

-- each number that is neither below block b's bound nor below w is a bound of block b
unfoldable pub Covered : List ℕ → ℕ → ℕ → Type 0
Covered m b w = (x : ℕ) → bound_at b m ≤ x → w ≤ x → Within (past_at b m) (starts_at b m) (tags_at b m) x
