-- What the functions that only read answer: the searches, what stands at an address, and the numbers of the header. Assumes nothing.
use Prim.Native.Nat.{ℕ, ◌+◌, ◌-◌, ◌≤◌, ◌<◌}
use mathlib.Core.Path.{◌≡◌, sym, subst, ◌∙◌}
use mathlib.Core.List.{List}
use mathlib.Core.Option.{none, some}
use native.Mathlib.Omega.{arith}
use native.Mathlib.Decide.{dec_lt}
use lib.ListN.{get_or, take, drop}
use Rattle.ranges.proofs.Powers.{power_pos}
use Rattle.cells.specs.Cells.{Located}
use Rattle.blocks.specs.Blocks.{count_of, blocks_of, top_of, starts_at, tags_at, past_at, starts_of, tags_of, index, Sound, Settled, Ready}
use Rattle.std.proofs.Common.{Option, Some, None, Ok, Err, ok_or}
use Rattle.blocks.specs.Looks.{Headed, There, Finds}
use Rattle.blocks.proofs.Flat.{flat_start, flat_tag, flat_next}
use Rattle.places.specs.Places.{SearchUp, SearchDown}
use Rattle.places.proofs.Searches.{get_d_any}
use Rattle.table.specs.Row.{lowest, highest}
use Rattle.table.specs.Multiples.{up, below}
use Rattle.table.specs.Tiles.{Has}
use Rattle.table.specs.Table.{Table}
use Rattle.table.specs.Layout.{row_in}
use Rattle.table.specs.Contract.{Says, Searchable, Askable, FindsLowest, FindsHighest, Shows}
use Rattle.table.specs.declared.PlaceError.{PlaceError}
use Rattle.table.specs.declared.AtError.{AtError}
use Rattle.table.proofs.Lying.{starts_length, as_many, start_past}
use Rattle.table.proofs.Searching.{low_found, low_nowhere, high_found, high_nowhere}
use Rattle.table.proofs.Standing.{has_in}
use Rattle.table.proofs.Holding.{own, of_own, of_none, tile_in, split_in, past_in_lem}
use Rattle.table.proofs.Cuts.{bad_head, found_before}

-- ---- the searches; the code has size - 1 and align - 1

-- what `askable` answers where such a window can be asked for
pub askable_told : (m : List ℕ) (size align : ℕ) → Searchable size align → (o : Option ℕ) → Headed m o → Askable m size align (ok_or o PlaceError.NoTable)
unfolding Askable Headed
askable_told m size align ask (Some nb) h = (ask, h.0, h.1)
askable_told m size align ask None h = (ask, h)

-- what `askable` refused is refused
pub low_refused : (m : List ℕ) (size align : ℕ) (e : PlaceError) → Askable m size align (Err e) → FindsLowest m size align (Err e)
unfolding Askable FindsLowest
low_refused m size align PlaceError.Nowhere h = absurd h
low_refused m size align PlaceError.Unfit h = h
low_refused m size align PlaceError.NoTable h = (h.0, of_none m h.1)

pub high_refused : (m : List ℕ) (size align : ℕ) (e : PlaceError) → Askable m size align (Err e) → FindsHighest m size align (Err e)
unfolding Askable FindsHighest
high_refused m size align PlaceError.Nowhere h = absurd h
high_refused m size align PlaceError.Unfit h = h
high_refused m size align PlaceError.NoTable h = (h.0, of_none m h.1)

-- what it did not refuse can be asked
pub asked : (m : List ℕ) (size align nb : ℕ) → Askable m size align (Ok nb) → Searchable size align × Sound m × (nb ≡ blocks_of m)
unfolding Askable
asked m size align nb h = h

module _ (m : List ℕ) (size align : ℕ) (ask : Searchable size align) where
  pos : 0 < align
  pos = power_pos align ask.1

  more : size - 1 + 1 ≡ size
  more = let p = ask.0 in omega arith

  mask : align - 1 + 1 ≡ align
  mask = let p = pos in omega arith

  pub low_told : (o : Option ℕ) → (Ready m → SearchUp (starts_of m) (tags_of m) (get_or m 3 0) (size - 1) (align - 1) o) → FindsLowest m size align (ok_or o PlaceError.Nowhere)
  unfolding FindsLowest SearchUp row_in
  low_told (Some a) h = (
    ask,
    of_own m (λ t. lowest t.top size (up align) t.row ≡ some a) (λ q p.
        let w = h q (as_many m q.settled) (rw mask ask.1) in
        low_found (get_or m 3 0) size align pos (starts_of m) (tags_of m) (as_many m q.settled) a (rw (more, mask) at w)),
  )
  low_told None h = (
    ask,
    of_own m (λ t. lowest t.top size (up align) t.row ≡ none) (λ q p.
        let w = h q (as_many m q.settled) (rw mask ask.1) in
        low_nowhere (get_or m 3 0) size align pos (starts_of m) (tags_of m) (as_many m q.settled) (λ j b f. w j b (rw (more, mask) f))),
  )

  pub high_told : (o : Option ℕ) → (Ready m → SearchDown (starts_of m) (tags_of m) (get_or m 3 0) (size - 1) (align - 1) o) → FindsHighest m size align (ok_or o PlaceError.Nowhere)
  unfolding FindsHighest SearchDown row_in
  high_told (Some a) h = (
    ask,
    of_own m (λ t. highest t.top size (below align) t.row ≡ some a) (λ q p.
        let w = h q (as_many m q.settled) (rw mask ask.1) in
        high_found (get_or m 3 0) size align pos (starts_of m) (tags_of m) (as_many m q.settled) a (rw (more, mask) at w)),
  )
  high_told None h = (
    ask,
    of_own m (λ t. highest t.top size (below align) t.row ≡ none) (λ q p.
        let w = h q (as_many m q.settled) (rw mask ask.1) in
        high_nowhere (get_or m 3 0) size align pos (starts_of m) (tags_of m) (as_many m q.settled) (λ j b f. w j b (rw (more, mask) f))),
  )

-- ---- what stands at an address

module _ (m : List ℕ) (a : ℕ) where
  pub at_before : {r : Option (ℕ × ℕ)} → Finds m a r → r ≡ None → Shows m a (Err AtError.Outside)
  unfolding Shows
  at_before f e = of_own m (λ t. t.base ≤ a → a < t.top → ⊥) (λ r p b h. omega (arith, found_before m a f e r.settled p))

  module _ (b i : ℕ) (there : There m b i) (located : Settled m → Located (starts_of m) a (index b i m)) (e : ℕ) (ends : e + 1 ≡ get_or (starts_at b m) (i + 1) (past_at b m)) where
    abbrev k : ℕ
    k = index b i m

    inside : (u : Settled m) → k < count_of m
    inside u = omega (arith, (located u).within, starts_length m u)

    end : (r : Ready m) → e + 1 ≡ get_or (starts_of m) (k + 1) (top_of m)
    end r = ends ∙ sym (flat_next m r.settled b there.block r.risen i there.tile)

    -- past the last tile
    pub at_past : e < a → Shows m a (Err AtError.Outside)
    unfolding Shows
    at_past h = of_own m (λ t. t.base ≤ a → a < t.top → ⊥) (λ r p b q. go r q (dec_lt (k + 1) (count_of m)))
      where
        go : Ready m → a < top_of m → Dec (k + 1 < count_of m) → ⊥
        go r q (yes w) = let u = r.settled in omega (arith, end r, (located u).to (omega (arith, starts_length m u)), get_d_any (starts_of m) (k + 1) (top_of m) 0 (omega (arith, starts_length m u)))
        go r q (no n) = omega (arith, end r, start_past m r.settled (k + 1) (top_of m) (omega arith))

    pub at_in : (s g : ℕ) → s ≡ get_or (starts_at b m) i 0 → g ≡ get_or (tags_at b m) i 0 → a ≤ e → Shows m a (Ok (record { start = s; end = e; tag = g }))
    unfolding Shows
    at_in s g es eg h =
        of_own m (λ t. Has t.top a s e g t.row)
        (λ r p.
        let u = r.settled in
        let ss : get_or (starts_of m) k 0 ≡ s = flat_start m u.sound b there.block i 0 there.tile ∙ sym es in
        let gg : get_or (tags_of m) k 0 ≡ g = flat_tag m u.sound b there.block i 0 there.tile ∙ sym eg in
        rw (ss, gg) at (subst (Has (top_of m) a (get_or (starts_of m) k 0) e (get_or (tags_of m) k 0)) (sym (split_in m u k (inside u))) (has_in (top_of m) (tile_in m u k (inside u)) (drop (k + 1) (row_in m)) a e (take k (row_in m)) (located u).from h (end r ∙ sym (past_in_lem m u k (inside u))))))

pub at_no_table : (m : List ℕ) (a : ℕ) {r : Option ℕ} → Headed m r → r ≡ None → Shows m a (Err AtError.NoTable)
unfolding Shows
at_no_table m a h e = of_none m (bad_head m h e)

-- ---- the header's numbers

pub says : (m : List ℕ) (f : Table → ℕ) (r : ℕ) → (Settled m → r ≡ f (own m)) → Says m f r
says m f r e = of_own m (λ t. r ≡ f t) (λ q p. e q.settled)

pub says_nothing : (m : List ℕ) (f : Table → ℕ) (x : ℕ) {r : Option ℕ} → Headed m r → r ≡ None → Says m f x
says_nothing m f x h e t k = absurd (of_none m (bad_head m h e) t k)
