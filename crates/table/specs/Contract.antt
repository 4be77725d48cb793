-- What each function answers: m is the block before, m' the block after. What is said of a table is said of each that the block holds.
use Rattle.std.specs.Prelude.{ℕ, ◌≤◌, ◌<◌, ◌≡◌, List, length, Result, Ok, Err}
use Rattle.std.proofs.Math.Option.{none, some}
use Rattle.ranges.specs.Align.{PowerOfTwo}
use Rattle.blocks.specs.Blocks.{blocks_of, Sound}
use Rattle.table.specs.Row.{lowest, highest, cut, melt}
use Rattle.table.specs.Multiples.{up, below}
use Rattle.table.specs.Tiles.{Open, Granted, Has}
use Rattle.table.specs.Table.{Table, with_row, fresh}
use Rattle.table.specs.Held.{Holds, words_for}
use Rattle.table.specs.declared.MakeError.{MakeError}
use Rattle.table.specs.declared.PlaceError.{PlaceError}
use Rattle.table.specs.declared.ChangeError.{ChangeError}
use Rattle.table.specs.declared.Stands.{Stands}
use Rattle.table.specs.declared.AtError.{AtError}

-- P of each table that the block holds
abbrev pub Of : List ℕ → (Table → Type 0) → Type 0
Of m P = (t : Table) → Holds m t → P t

-- a pool from base to last can be made, with the limit
abbrev pub Makeable : ℕ → ℕ → ℕ → Type 0
Makeable base last limit = (base ≤ last) × (0 < limit) × (limit ≤ 4096)

-- what `make` answers and leaves
unfoldable pub Makes : List ℕ → ℕ → ℕ → ℕ → Result Unit MakeError → List ℕ → Type 0
Makes m base last limit (Ok tt) m' = Holds m' (fresh base last limit)
Makes m base last limit (Err MakeError.Unfit) m' = (m' ≡ m) × (Makeable base last limit → ⊥)
Makes m base last limit (Err MakeError.Short) m' = (m' ≡ m) × Makeable base last limit × (length m < words_for limit)

-- a window of `size` addresses at a multiple of `align` can be asked for
abbrev pub Searchable : ℕ → ℕ → Type 0
Searchable size align = (0 < size) × PowerOfTwo align

-- what `askable` answers: the blocks in use
unfoldable pub Askable : List ℕ → ℕ → ℕ → Result ℕ PlaceError → Type 0
Askable m size align (Ok nb) = Searchable size align × Sound m × (nb ≡ blocks_of m)
Askable m size align (Err PlaceError.Nowhere) = ⊥
Askable m size align (Err PlaceError.Unfit) = Searchable size align → ⊥
Askable m size align (Err PlaceError.NoTable) = Searchable size align × (Sound m → ⊥)

-- what `lowest` answers
unfoldable pub FindsLowest : List ℕ → ℕ → ℕ → Result ℕ PlaceError → Type 0
FindsLowest m size align (Ok a) = Searchable size align × Of m (λ t. lowest t.top size (up align) t.row ≡ some a)
FindsLowest m size align (Err PlaceError.Nowhere) = Searchable size align × Of m (λ t. lowest t.top size (up align) t.row ≡ none)
FindsLowest m size align (Err PlaceError.Unfit) = Searchable size align → ⊥
FindsLowest m size align (Err PlaceError.NoTable) = Searchable size align × Of m (λ t. ⊥)

-- what `highest` answers
unfoldable pub FindsHighest : List ℕ → ℕ → ℕ → Result ℕ PlaceError → Type 0
FindsHighest m size align (Ok a) = Searchable size align × Of m (λ t. highest t.top size (below align) t.row ≡ some a)
FindsHighest m size align (Err PlaceError.Nowhere) = Searchable size align × Of m (λ t. highest t.top size (below align) t.row ≡ none)
FindsHighest m size align (Err PlaceError.Unfit) = Searchable size align → ⊥
FindsHighest m size align (Err PlaceError.NoTable) = Searchable size align × Of m (λ t. ⊥)

-- a window of `size` addresses with the tag `tag` can be cut out
abbrev pub Cuttable : ℕ → ℕ → Type 0
Cuttable size tag = (0 < size) × (0 < tag)

-- what `cut` answers and leaves
unfoldable pub Cuts : List ℕ → ℕ → ℕ → ℕ → Result Unit ChangeError → List ℕ → Type 0
Cuts m a size tag (Ok tt) m' = Cuttable size tag × Of m (λ t. Open t.top a size t.row × Holds m' (with_row t (cut t.top a size tag t.row)))
Cuts m a size tag (Err ChangeError.Absent) m' = (m' ≡ m) × Cuttable size tag × Of m (λ t. Open t.top a size t.row → ⊥)
Cuts m a size tag (Err ChangeError.Full) m' = (m' ≡ m) × Cuttable size tag × Of m (λ t. Open t.top a size t.row × (t.limit < length (cut t.top a size tag t.row)))
Cuts m a size tag (Err ChangeError.Unfit) m' = (m' ≡ m) × (Cuttable size tag → ⊥)
Cuts m a size tag (Err ChangeError.NoTable) m' = (m' ≡ m) × Cuttable size tag × Of m (λ t. ⊥)

-- what `melt` answers and leaves; two of the answers it never gives
unfoldable pub Melts : List ℕ → ℕ → Result Unit ChangeError → List ℕ → Type 0
Melts m s (Ok tt) m' = Of m (λ t. Granted s t.row × Holds m' (with_row t (melt s t.row)))
Melts m s (Err ChangeError.Absent) m' = (m' ≡ m) × Of m (λ t. Granted s t.row → ⊥)
Melts m s (Err ChangeError.Full) m' = ⊥
Melts m s (Err ChangeError.Unfit) m' = ⊥
Melts m s (Err ChangeError.NoTable) m' = (m' ≡ m) × Of m (λ t. ⊥)

-- what `at` answers
unfoldable pub Shows : List ℕ → ℕ → Result Stands AtError → Type 0
Shows m a (Ok x) = Of m (λ t. Has t.top a x.start x.end x.tag t.row)
Shows m a (Err AtError.Outside) = Of m (λ t. t.base ≤ a → a < t.top → ⊥)
Shows m a (Err AtError.NoTable) = Of m (λ t. ⊥)

-- a number that a table has: its count, its limit, an end of its pool
abbrev pub Says : List ℕ → (Table → ℕ) → ℕ → Type 0
Says m f r = Of m (λ t. r ≡ f t)
