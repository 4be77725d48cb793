-- What is left of lent words where ranges of one block are given up for others.
use Rattle.std.specs.Prelude.{ℕ, ◌+◌, ◌-◌, ◌*◌, ◌≤◌, ◌<◌, ◌≡◌, Bool, true, false, cond, List, [], ◌∷◌, ◌++◌, ltb, length, get_or, take, drop}
use Rattle.blocks.specs.Blocks.{count_of, limit_of, size_at, starts_at, tags_at, past_at, starts_of, tags_of, index, Ready}
use Rattle.blocks.specs.Looks.{There}
use Rattle.spread.specs.Spread.{Turned}

-- a list whose `by` cells at i are given up for others
abbrev pub splice : ℕ → ℕ → List ℕ → List ℕ → List ℕ
splice i by new x = take i x ++ (new ++ drop (i + by) x)

-- what `widen` leaves of a block of n ranges whose starts lie from p on, and whose tags 64 words further: from range i on they are `by` words higher
pub record Widened (m m' : List ℕ) (p n i by : ℕ) : Type 0 where
  pub len : length m' ≡ length m
  pub starts : (k : ℕ) → i ≤ k → k < n → get_or m' (p + k + by) 0 ≡ get_or m (p + k) 0
  pub tags : (k : ℕ) → i ≤ k → k < n → get_or m' (p + 64 + k + by) 0 ≡ get_or m (p + 64 + k) 0
  pub below : (j : ℕ) → j < p + i + by → get_or m' j 0 ≡ get_or m j 0
  pub between : (j : ℕ) → p + n + by ≤ j → j < p + 64 + i + by → get_or m' j 0 ≡ get_or m j 0
  pub above : (j : ℕ) → p + 64 + n + by ≤ j → get_or m' j 0 ≡ get_or m j 0

-- what `narrow` leaves: from range i on and before range e they are those that were `by` words higher
pub record Narrowed (m m' : List ℕ) (p e i by : ℕ) : Type 0 where
  pub len : length m' ≡ length m
  pub starts : (k : ℕ) → i ≤ k → k < e → get_or m' (p + k) 0 ≡ get_or m (p + k + by) 0
  pub tags : (k : ℕ) → i ≤ k → k < e → get_or m' (p + 64 + k) 0 ≡ get_or m (p + 64 + k + by) 0
  pub below : (j : ℕ) → j < p + i → get_or m' j 0 ≡ get_or m j 0
  pub between : (j : ℕ) → p + e ≤ j → j < p + 64 + i → get_or m' j 0 ≡ get_or m j 0
  pub above : (j : ℕ) → p + 64 + e ≤ j → get_or m' j 0 ≡ get_or m j 0

-- m' is m but for block b and the number of ranges
pub record Touched (b : ℕ) (m m' : List ℕ) : Type 0 where
  pub len : length m' ≡ length m
  pub below : (j : ℕ) → j < 136 + b * 129 → (j ≡ 1 → ⊥) → get_or m' j 0 ≡ get_or m j 0
  pub above : (j : ℕ) → 136 + b * 129 + 129 ≤ j → get_or m' j 0 ≡ get_or m j 0

-- in block b, the `by` ranges at range i are given up for others
pub record Spliced (m m' : List ℕ) (b i by : ℕ) (ns nt : List ℕ) : Type 0 where
  pub touched : Touched b m m'
  pub size : size_at b m' + by ≡ size_at b m + length ns
  pub count : count_of m' ≡ count_of m + length ns - by
  pub starts : starts_at b m' ≡ splice i by ns (starts_at b m)
  pub tags : tags_at b m' ≡ splice i by nt (tags_at b m)

-- in block b, `by` ranges more at range i
pub record Grown (m m' : List ℕ) (b i by : ℕ) : Type 0 where
  pub ns : List ℕ
  pub nt : List ℕ
  pub many : length ns ≡ by
  pub as_many : length nt ≡ by
  pub spliced : Spliced m m' b i 0 ns nt

-- a window of `size` addresses from a within range i of block b, which is free
pub record Window (m : List ℕ) (b i a size : ℕ) : Type 0 where
  pub there : There m b i
  pub free : get_or (tags_at b m) i 0 ≡ 0
  pub some : 0 < size
  pub from : get_or (starts_at b m) i 0 ≤ a
  pub to : a + size ≤ get_or (starts_at b m) (i + 1) (past_at b m)

-- the starts and tags of what a free range from s up to, not including, `to` becomes: what is left before the window, the window, what is left behind
unfoldable pub new_starts : ℕ → ℕ → ℕ → ℕ → List ℕ
new_starts s to a size = cond (ltb s a) (s ∷ []) [] ++ a ∷ cond (ltb (a + size) to) ((a + size) ∷ []) []

unfoldable pub new_tags : ℕ → ℕ → ℕ → ℕ → ℕ → List ℕ
new_tags s to a size tag = cond (ltb s a) (0 ∷ []) [] ++ tag ∷ cond (ltb (a + size) to) (0 ∷ []) []

abbrev pub start_in : List ℕ → ℕ → ℕ → ℕ
start_in m b i = get_or (starts_at b m) i 0

abbrev pub past_in : List ℕ → ℕ → ℕ → ℕ
past_in m b i = get_or (starts_at b m) (i + 1) (past_at b m)

-- what `carve` leaves: range i is given up for its pieces, or the words as they were, where there is no room for so many ranges
unfoldable pub Carved : List ℕ → List ℕ → ℕ → ℕ → ℕ → ℕ → ℕ → Bool → Type 0
Carved m m' b i a size tag true = Spliced m m' b i 1 (new_starts (start_in m b i) (past_in m b i) a size) (new_tags (start_in m b i) (past_in m b i) a size tag) × (count_of m + length (new_starts (start_in m b i) (past_in m b i) a size) ≤ limit_of m + 1)
Carved m m' b i a size tag false = (m' ≡ m) × (limit_of m + 1 < count_of m + length (new_starts (start_in m b i) (past_in m b i) a size))

-- what `cut` leaves, of a table
unfoldable pub Cut : List ℕ → List ℕ → ℕ → ℕ → ℕ → ℕ → ℕ → Bool → Type 0
Cut m m' b i a size tag true = Ready m → Turned m m' (splice (index b i m) 1 (new_starts (start_in m b i) (past_in m b i) a size) (starts_of m)) (splice (index b i m) 1 (new_tags (start_in m b i) (past_in m b i) a size tag) (tags_of m)) × (count_of m + length (new_starts (start_in m b i) (past_in m b i) a size) ≤ limit_of m + 1)
Cut m m' b i a size tag false = (m' ≡ m) × (limit_of m + 1 < count_of m + length (new_starts (start_in m b i) (past_in m b i) a size))
