-- What is left of lent words where a granted range is given back.
use Rattle.std.specs.Prelude.{ℕ, ◌+◌, ◌-◌, ◌≤◌, ◌<◌, ◌≡◌, Bool, cond, List, [], ◌∷◌, get_or}
use Rattle.ranges.specs.Align.{Decides}
use Rattle.blocks.specs.Blocks.{count_of, blocks_of, limit_of, size_at, bound_at, starts_at, tags_at, past_at, sizes, starts_of, tags_of, index, Within, Sound, Ready}
use Rattle.spread.specs.Spread.{Turned}
use Rattle.splice.specs.Splice.{splice}

-- range j of the table is there, and free
pub record Free (m : List ℕ) (j : ℕ) : Type 0 where
  pub within : j < sizes 0 (blocks_of m) m
  pub free : get_or (tags_of m) j 0 ≡ 0

-- what `free_before` answers, where the block before block b is not empty: whether the range before range i of block b is there, and free
abbrev pub FreeBefore : List ℕ → ℕ → ℕ → Bool → Type 0
FreeBefore m b i r = (0 < b → 0 < size_at (b - 1) m) → Decides r ((0 < index b i m) × Free m (index b i m - 1))

-- a table but for the bounds of the blocks from b on and before hi, the last of which may be empty
pub record Almost (m : List ℕ) (b hi : ℕ) : Type 0 where
  pub total : sizes 0 (blocks_of m) m ≡ count_of m
  pub some : (c : ℕ) → c < blocks_of m → (c + 1 ≡ hi → ⊥) → 0 < size_at c m
  pub spare : (c : ℕ) → c < blocks_of m → size_at c m ≤ 61
  pub low : (c : ℕ) → c < blocks_of m → c < b → Within (past_at c m) (starts_at c m) (tags_at c m) (bound_at c m)
  pub high : (c : ℕ) → c < blocks_of m → hi ≤ c → Within (past_at c m) (starts_at c m) (tags_at c m) (bound_at c m)

-- range k given up, or made free where the one before it is not
pub record Given (m m' : List ℕ) (k : ℕ) : Type 0 where
  pub before : Bool
  pub told : Decides before ((0 < k) × Free m (k - 1))
  pub turned : Turned m m' (splice k 1 (cond before [] (get_or (starts_of m) k 0 ∷ [])) (starts_of m)) (splice k 1 (cond before [] (0 ∷ [])) (tags_of m))

-- the range behind range i of block b given up, if it is free
pub record Gone (m m' : List ℕ) (b i hi : ℕ) : Type 0 where
  pub after : Bool
  pub told : Decides after (Free m (index b i m + 1))
  pub almost : Almost m' b hi
  pub limit : limit_of m' ≡ limit_of m
  pub first : get_or m' 2 0 ≡ get_or m 2 0
  pub last : get_or m' 3 0 ≡ get_or m 3 0
  pub place : index b i m' ≡ index b i m
  pub starts : starts_of m' ≡ splice (index b i m + 1) (cond after 1 0) [] (starts_of m)
  pub tags : tags_of m' ≡ splice (index b i m + 1) (cond after 1 0) [] (tags_of m)

-- what `absorb` leaves
pub record Absorbed (m m' : List ℕ) (b i hi : ℕ) : Type 0 where
  pub sound : Sound m'
  pub blocks : blocks_of m' ≡ blocks_of m
  pub tile : i < size_at b m'
  pub from : b < hi
  pub to : hi ≤ blocks_of m
  pub gone : Ready m → Gone m m' b i hi

-- range k given back: it is free, and one with the free ones beside it
pub record Melted (m m' : List ℕ) (k : ℕ) : Type 0 where
  pub after : Bool
  pub before : Bool
  pub told_after : Decides after (Free m (k + 1))
  pub told_before : Decides before ((0 < k) × Free m (k - 1))
  pub turned : Turned m m' (splice k (cond after 2 1) (cond before [] (get_or (starts_of m) k 0 ∷ [])) (starts_of m)) (splice k (cond after 2 1) (cond before [] (0 ∷ [])) (tags_of m))
