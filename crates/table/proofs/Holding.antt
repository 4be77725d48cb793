-- What a block holds: one table, which is proper; and what follows from the header and the row in the block. Assumes nothing.
use Prim.Native.Nat.{ℕ, ◌+◌, ◌<◌}
use mathlib.Core.Path.{◌≡◌, sym, ap, subst, ◌∙◌}
use mathlib.Core.List.{List, ◌∷◌, ◌++◌}
use native.Mathlib.Omega.{arith}
use native.Mathlib.Numerals.{add-one}
use lib.ListN.{length, get_or, take, drop, length-drop}
use lib.Seq.{split_at, get_or-drop}
use Rattle.cells.specs.Cells.{Located}
use Rattle.places.proofs.Searches.{get_d_any}
use Rattle.table.specs.Row.{Tile, past, Covers}
use Rattle.table.specs.Table.{Table, Proper, with_row}
use Rattle.blocks.specs.Blocks.{count_of, limit_of, top_of, size_at, starts_of, tags_of, index, Sound, Settled, Risen, Ready}
use Rattle.blocks.proofs.Parts.{sizes_snoc}
use Rattle.blocks.proofs.Flat.{flat_first, flat_within, all_starts}
use Rattle.spread.specs.Spread.{Turned}
use Rattle.table.specs.Layout.{row_of, row_in, Lies, Holds}
use Rattle.table.specs.Contract.{Of}
use Rattle.table.proofs.Rows.{row_get, row_drop, row_length, past_row}
use Rattle.table.proofs.Lying.{starts_length, as_many, count_row, many}
use Rattle.table.proofs.Order.{tile_at, first_start, rising}

-- the table that a block says
abbrev pub own : List ℕ → Table
own m = record { base = get_or m 2 0; top = top_of m; limit = limit_of m; row = row_in m }

pub own_is : (m : List ℕ) (t : Table) → Lies m t → own m ≡ t
own_is m t l = λ i. record { base = l.base_is i; top = l.top_is i; limit = l.limit_is i; row = l.row_is i }

-- the theorems: a block holds one table at most, and that is proper
pub holds_one : (m : List ℕ) (t u : Table) → Holds m t → Holds m u → t ≡ u
unfolding Holds
holds_one m t u h k = sym (own_is m t h.0) ∙ own_is m u k.0

pub holds_proper : (m : List ℕ) (t : Table) → Holds m t → Proper t
unfolding Holds
holds_proper m t h = h.1

-- no block but the first starts at 0, since the starts rise
risen : (m : List ℕ) → Settled m → Proper (own m) → Risen m
unfolding Risen row_in index
risen m u p b h =
    let k : ℕ = index b (size_at b m) m in
    let some = u.some b (omega arith) in
    let here : k < length (starts_of m) = omega (arith, all_starts m u.sound, flat_within m u.sound (b + 1) h 0 (u.some (b + 1) h), sizes_snoc b m) in
    let start : (j : ℕ) → j < length (starts_of m) → (tile_at (row_of (starts_of m) (tags_of m)) j).start ≡ get_or (starts_of m) j 0 = λ j l. ap (λ (t : Tile). t.start) (row_get (starts_of m) (tags_of m) j (record { start = 0; tag = 0 }) (as_many m u) l) in
    omega (arith, rising (top_of m) (get_or m 2 0) (row_of (starts_of m) (tags_of m)) p.covers 0 k (omega arith) (omega (arith, here, row_length (starts_of m) (tags_of m) (as_many m u))), start k here, flat_first m u b (omega arith) 0 h)

-- what is so of the block's own table is so of each that it holds
pub of_own : (m : List ℕ) (P : Table → Type 0) → (Ready m → Proper (own m) → P (own m)) → Of m P
unfolding Holds
of_own m P f t h =
    let e = own_is m t h.0 in
    let p = subst Proper (sym e) h.1 in
    subst P e (f (record { settled = h.0.settled; bounded = h.0.bounded; risen = risen m h.0.settled p }) p)

-- lent words whose header is not a table's hold none
pub of_none : (m : List ℕ) → (Sound m → ⊥) → Of m (λ t. ⊥)
unfolding Holds
of_none m n t h = n h.0.settled.sound

-- a row is split at index i
module _ (m : List ℕ) (sound : Settled m) (i : ℕ) (h : i < count_of m) where
  abbrev pub tile_in : Tile
  tile_in = record { start = get_or (starts_of m) i 0; tag = get_or (tags_of m) i 0 }

  row_tile : get_or (row_in m) i tile_in ≡ tile_in
  unfolding row_in
  row_tile = row_get (starts_of m) (tags_of m) i tile_in (as_many m sound) (omega (arith, starts_length m sound))

  pub split_in : row_in m ≡ take i (row_in m) ++ tile_in ∷ drop (i + 1) (row_in m)
  split_in = split_at (row_in m) i tile_in (omega (arith, count_row m sound)) ∙ rw (row_tile, add-one)

  -- the first address past tile i
  pub past_in_lem : past (drop (i + 1) (row_in m)) (top_of m) ≡ get_or (starts_of m) (i + 1) (top_of m)
  unfolding row_in
  past_in_lem =
      let e : length (drop (i + 1) (starts_of m)) ≡ length (drop (i + 1) (tags_of m)) = simp length-drop (omega (arith, as_many m sound)) in
      let z : i + 1 + 0 ≡ i + 1 = omega arith in
      rw (row_drop (i + 1) (starts_of m) (tags_of m), past_row (drop (i + 1) (starts_of m)) (drop (i + 1) (tags_of m)) (top_of m) e, get_or-drop (i + 1) (starts_of m) 0 (top_of m), z)

  -- the same row, split, covers the pool
  pub covers_split : Proper (own m) → Covers (get_or m 2 0) (top_of m) (take i (row_in m) ++ tile_in ∷ drop (i + 1) (row_in m))
  covers_split p = subst (Covers (get_or m 2 0) (top_of m)) split_in p.covers

  -- an address located at i lies before the next tile
  pub located_next : (a : ℕ) → Located (starts_of m) a i → 0 < length (drop (i + 1) (row_in m)) → a < past (drop (i + 1) (row_in m)) (top_of m)
  located_next a l q =
      let w : i + 1 < count_of m = omega (arith, count_row m sound, length-drop (i + 1) (row_in m)) in
      rw past_in_lem (omega (arith, l.to (omega (arith, starts_length m sound)), get_d_any (starts_of m) (i + 1) (top_of m) 0 (omega (arith, starts_length m sound))))

-- the first start is the base
pub first_in : (m : List ℕ) → Settled m → Proper (own m) → get_or (starts_of m) 0 0 ≡ get_or m 2 0
first_in m sound p = first_start (top_of m) (get_or m 2 0) (tile_in m sound 0 (many m sound)) (drop (0 + 1) (row_in m)) (covers_split m sound 0 (many m sound) p)

-- a change of the row, to one that covers the pool, is a table held
pub turned_holds : (m m' : List ℕ) (ss ts : List ℕ) (row : List Tile) → Proper (own m) → Turned m m' ss ts → row_of ss ts ≡ row → Covers (get_or m 2 0) (top_of m) row → Holds m' (with_row (own m) row)
unfolding Holds row_in
turned_holds m m' ss ts row p t e c =
    let l = t.laid in
    let r : row_of (starts_of m') (tags_of m') ≡ row = rw (l.starts, l.tags) e in (
      record { settled = l.settled; bounded = t.bounded; limit_is = l.limit; base_is = l.first; top_is = ap (λ (x : ℕ). x + 1) l.last; row_is = r },
      record { covers = c; room = omega (arith, l.settled.sound.count, l.limit, count_row m' l.settled, ap length r); some = p.some; most = p.most; below = p.below },
    )
