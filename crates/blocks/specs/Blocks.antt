-- How a table's ranges lie in lent words, as blocks.
-- Words: 0 how many blocks there is room for, 1 the number of ranges, 2 and 3 the pool's first and last address, 4 the blocks in use, 5 the limit, 6 a mark, 7 nothing;
-- 8 to 135 a bound for each block; then a block every 129 words: its number of ranges, 64 starts, 64 tags;
-- behind the blocks 32 words for each block's starts and 32 for its tags, in which all are gathered when they are spread anew.
use Rattle.std.specs.Prelude.{ℕ, zero, suc, ◌+◌, ◌-◌, ◌*◌, ◌%◌, ◌≤◌, ◌<◌, ◌≡◌, cond, List, [], ◌++◌, length, get_or, take, drop, ltb}

-- the mark of lent words that hold a table: the letters RKtable2
abbrev pub mark : ℕ
mark = 0x524b_7461_626c_6532

abbrev pub room_of : List ℕ → ℕ
room_of m = get_or m 0 0

abbrev pub count_of : List ℕ → ℕ
count_of m = get_or m 1 0

abbrev pub blocks_of : List ℕ → ℕ
blocks_of m = get_or m 4 0

abbrev pub limit_of : List ℕ → ℕ
limit_of m = get_or m 5 0

-- the first address past the pool
abbrev pub top_of : List ℕ → ℕ
top_of m = get_or m 3 0 + 1

-- how many ranges block b has: whatever stands in its word, fewer than 64
abbrev pub size_at : ℕ → List ℕ → ℕ
size_at b m = get_or m (136 + b * 129) 0 % 64

-- block b's bound, starts and tags
abbrev pub bound_at : ℕ → List ℕ → ℕ
bound_at b m = get_or m (8 + b) 0

abbrev pub starts_at : ℕ → List ℕ → List ℕ
starts_at b m = take (size_at b m) (drop (137 + b * 129) m)

abbrev pub tags_at : ℕ → List ℕ → List ℕ
tags_at b m = take (size_at b m) (drop (201 + b * 129) m)

-- the last address of block b: before the next block's first start, or the pool's last one
unfoldable pub last_at : ℕ → List ℕ → ℕ
last_at b m = cond (ltb (b + 1) (blocks_of m)) (get_or m (137 + (b + 1) * 129) 0 - 1) (get_or m 3 0)

abbrev pub past_at : ℕ → List ℕ → ℕ
past_at b m = last_at b m + 1

-- k blocks from block b on: how many ranges they have, and their starts (o is 137) or their tags (o is 201)
unfoldable pub sizes : ℕ → ℕ → List ℕ → ℕ
sizes b zero m = 0
sizes b (suc k) m = size_at b m + sizes (suc b) k m

unfoldable pub cells : ℕ → ℕ → ℕ → List ℕ → List ℕ
cells o b zero m = []
cells o b (suc k) m = take (size_at b m) (drop (o + b * 129) m) ++ cells o (suc b) k m

-- the starts and the tags of the table
unfoldable pub starts_of : List ℕ → List ℕ
starts_of m = cells 137 0 (blocks_of m) m

unfoldable pub tags_of : List ℕ → List ℕ
tags_of m = cells 201 0 (blocks_of m) m

-- where range i of block b stands among all
unfoldable pub index : ℕ → ℕ → List ℕ → ℕ
index b i m = sizes 0 b m + i

-- the header is that of a table, for which the words suffice: this is tested, and is all that safety needs
pub record Sound (m : List ℕ) : Type 0 where
  pub marked : get_or m 6 0 ≡ mark
  pub few : room_of m ≤ 128
  pub used : blocks_of m ≤ room_of m
  pub one : 0 < blocks_of m
  pub long : 136 + room_of m * 193 ≤ length m
  pub count : count_of m ≤ limit_of m
  pub limit : limit_of m ≤ room_of m * 32

-- the blocks have the ranges that the header counts, and none is empty or full
pub record Settled (m : List ℕ) : Type 0 where
  pub sound : Sound m
  pub some : (b : ℕ) → b < blocks_of m → 0 < size_at b m
  pub spare : (b : ℕ) → b < blocks_of m → size_at b m ≤ 61
  pub total : sizes 0 (blocks_of m) m ≡ count_of m

-- w is a bound of free ranges that end before `top`: from the first address of each to its last it is at most w
unfoldable pub Within : ℕ → List ℕ → List ℕ → ℕ → Type 0
Within top ss ts w = (i : ℕ) → i < length ss → get_or ts i 0 ≡ 0 → get_or ss (i + 1) top ≤ get_or ss i 0 + w + 1

-- each block's bound is one
unfoldable pub Bounded : List ℕ → Type 0
Bounded m = (b : ℕ) → b < blocks_of m → Within (past_at b m) (starts_at b m) (tags_at b m) (bound_at b m)

-- no block but the first starts at address 0
unfoldable pub Risen : List ℕ → Type 0
Risen m = (b : ℕ) → b + 1 < blocks_of m → 0 < get_or m (137 + (b + 1) * 129) 0

-- what holds of lent words between two operations
pub record Ready (m : List ℕ) : Type 0 where
  pub settled : Settled m
  pub bounded : Bounded m
  pub risen : Risen m
