-- What `cut` answers, from where the address was found and what the block's change left. Assumes nothing.
use Prim.Native.Nat.{ℕ, ◌+◌, ◌≤◌, ◌<◌}
use mathlib.Core.Path.{◌≡◌, refl, sym, ap, subst, ◌∙◌}
use mathlib.Core.Bool.{Bool, true, false, cond}
use mathlib.Core.List.{List, [], ◌∷◌, ◌++◌}
use native.Mathlib.Omega.{arith}
use lib.Dec.{ltb}
use lib.ListN.{length, get_or, take, drop, length-append, length-take, length-drop}
use Rattle.cells.specs.Cells.{Located}
use Rattle.blocks.specs.Blocks.{count_of, blocks_of, top_of, size_at, starts_at, tags_at, starts_of, tags_of, index, Sound, Settled, Ready}
use Rattle.std.proofs.Common.{Option, Some, None, Result, Ok, Err, ok_or}
use Rattle.blocks.specs.Looks.{Headed, There, Finds}
use Rattle.blocks.proofs.Flat.{flat_start, flat_tag, flat_next}
use Rattle.splice.specs.Splice.{splice, Window, new_starts, new_tags, start_in, past_in, Cut}
use Rattle.table.specs.Row.{Tile, past, Covers, pieces, cut}
use Rattle.table.specs.Tiles.{Open}
use Rattle.table.specs.Table.{Proper, with_row}
use Rattle.table.specs.Layout.{row_of, row_in, Holds}
use Rattle.table.specs.Contract.{Cuts}
use Rattle.table.specs.declared.ChangeError.TheVariants.{Absent, Full, NoTable}
use Rattle.table.proofs.Rows.{row_length}
use Rattle.table.proofs.Lying.{starts_length, as_many, count_row, row_splice}
use Rattle.table.proofs.Moves.{cut_at, cut_covers}
use Rattle.table.proofs.Standing.{open_above, open_in, open_only}
use Rattle.table.proofs.Holding.{own, of_own, of_none, tile_in, split_in, past_in_lem, covers_split, located_next, first_in, turned_holds}

-- a `?` after `ok_or e` hands e on
pub passed_up : {A B E : Type 0} {o : Option A} {r : Result B E} {x e : E} → Err x ≡ ok_or o e → o ≡ None → (y : E) × (r ≡ Err y) × (y ≡ x) → r ≡ Err e
passed_up {x = x} {e = e} v n p = let w : x ≡ e = cc (v, n) in p.1 ∙ ap Err (p.2 ∙ w)

-- what `header` and `find` answered
pub good_head : (m : List ℕ) {r : Option ℕ} {n : ℕ} → Headed m r → r ≡ Some n → Sound m × (n ≡ blocks_of m)
unfolding Headed
good_head m {n = n} h e = let u : Headed m (Some n) = rw e at h in u

pub bad_head : (m : List ℕ) {r : Option ℕ} → Headed m r → r ≡ None → Sound m → ⊥
unfolding Headed
bad_head m h e = let u : Headed m None = rw e at h in u

pub found_in : (m : List ℕ) (a b i : ℕ) {r : Option (ℕ × ℕ)} → Finds m a r → r ≡ Some (b, i) → There m b i × (get_or (starts_at b m) i 0 ≤ a) × (Settled m → Located (starts_of m) a (index b i m))
unfolding Finds
found_in m a b i f e = let u : Finds m a (Some (b, i)) = rw e at f in u

pub found_before : (m : List ℕ) (a : ℕ) {r : Option (ℕ × ℕ)} → Finds m a r → r ≡ None → Settled m → Proper (own m) → a < get_or m 2 0
unfolding Finds
found_before m a f e s p = let u : Finds m a None = rw e at f in omega (arith, u s, first_in m s p)

-- the pieces of a range, as a row
pieces_row : (s to a size tag : ℕ) → row_of (new_starts s to a size) (new_tags s to a size tag) ≡ pieces to a size tag (record { start = s; tag = 0 })
unfolding new_starts new_tags pieces row_of
pieces_row s to a size tag = go (ltb s a) (ltb (a + size) to)
  where
    go : (p q : Bool) → row_of (cond p (s ∷ []) [] ++ a ∷ cond q ((a + size) ∷ []) []) (cond p (0 ∷ []) [] ++ tag ∷ cond q (0 ∷ []) []) ≡ cond p (record { start = s; tag = 0 } ∷ []) [] ++ record { start = a; tag = tag } ∷ cond q (record { start = a + size; tag = 0 } ∷ []) []
    go true true = refl
    go true false = refl
    go false true = refl
    go false false = refl

as_many_new : (s to a size tag : ℕ) → length (new_starts s to a size) ≡ length (new_tags s to a size tag)
unfolding new_starts new_tags
as_many_new s to a size tag = go (ltb s a) (ltb (a + size) to)
  where
    go : (p q : Bool) → length (cond p (s ∷ []) [] ++ a ∷ cond q ((a + size) ∷ []) []) ≡ length (cond p (0 ∷ []) [] ++ tag ∷ cond q (0 ∷ []) [])
    go true true = refl
    go true false = refl
    go false true = refl
    go false false = refl

module _ (m : List ℕ) (a size tag : ℕ) (pos : 0 < size) (named : 0 < tag) where
  abbrev top : ℕ
  top = top_of m

  absent : (Ready m → Proper (own m) → Open top a size (row_in m) → ⊥) → Cuts m a size tag (Err Absent) m
  unfolding Cuts
  absent f = (refl, (pos, named), of_own m (λ t. Open t.top a size t.row → ⊥) f)

  pub cut_before : {r : Option (ℕ × ℕ)} → Finds m a r → r ≡ None → Cuts m a size tag (Err Absent) m
  cut_before f e = absent (λ r p. open_above top a size (get_or m 2 0) (row_in m) p.covers (found_before m a f e r.settled p))

  pub cut_unsettled : (b : ℕ) → b < blocks_of m → 61 < size_at b m → Cuts m a size tag (Err NoTable) m
  unfolding Cuts
  cut_unsettled b h l = (refl, (pos, named), of_own m (λ t. ⊥) (λ r p. omega (arith, r.settled.spare b h)))

  module _ (b i : ℕ) (there : There m b i) (from : get_or (starts_at b m) i 0 ≤ a) (located : Settled m → Located (starts_of m) a (index b i m)) where
    inside : (u : Settled m) → index b i m < count_of m
    inside u = omega (arith, (located u).within, starts_length m u)

    -- the tile that has a is the only one that could have the window
    here : (r : Ready m) → Proper (own m) → Open top a size (row_in m) → (get_or (tags_at b m) i 0 ≡ 0) × (a + size ≤ past_in m b i)
    here r p o =
        let u = r.settled in
        let k : ℕ = index b i m in
        let l = located u in
        let w = open_only top (tile_in m u k (inside u)) (drop (k + 1) (row_in m)) a l.from (located_next m u k (inside u) a l) size pos (take k (row_in m)) (get_or m 2 0) (covers_split m u k (inside u) p) (subst (Open top a size) (split_in m u k (inside u)) o) in
        (sym (flat_tag m u.sound b there.block i 0 there.tile) ∙ w.0, rw (flat_next m u b there.block r.risen i there.tile) at (rw (past_in_lem m u k (inside u)) at w.1))

    pub cut_used : (get_or (tags_at b m) i 0 ≡ 0 → ⊥) → Cuts m a size tag (Err Absent) m
    cut_used n = absent (λ r p o. n (here r p o).0)

    pub cut_short : past_in m b i < a + size → Cuts m a size tag (Err Absent) m
    cut_short s = absent (λ r p o. omega (arith, (here r p o).1))

  pub cut_window : (b i : ℕ) → There m b i → get_or (starts_at b m) i 0 ≤ a → get_or (tags_at b m) i 0 ≡ 0 → a + size ≤ past_in m b i → Window m b i a size
  cut_window b i there from free to = record { there = there; free = free; some = pos; from = from; to = to }

  module _ (b i : ℕ) (w : Window m b i a size) (located : Settled m → Located (starts_of m) a (index b i m)) where
    abbrev k : ℕ
    k = index b i m

    within : (u : Settled m) → k < count_of m
    within u = omega (arith, (located u).within, starts_length m u)

    free : (u : Settled m) → get_or (tags_of m) k 0 ≡ 0
    free u = flat_tag m u.sound b w.there.block i 0 w.there.tile ∙ w.free

    start : (u : Settled m) → get_or (starts_of m) k 0 ≡ start_in m b i
    start u = flat_start m u.sound b w.there.block i 0 w.there.tile

    behind : (r : Ready m) → past (drop (k + 1) (row_in m)) top ≡ past_in m b i
    behind r = past_in_lem m r.settled k (within r.settled) ∙ flat_next m r.settled b w.there.block r.risen i w.there.tile

    -- the window is cut out of that tile
    cut_split : (r : Ready m) → Proper (own m) → cut top a size tag (row_in m) ≡ take k (row_in m) ++ (pieces (past (drop (k + 1) (row_in m)) top) a size tag (tile_in m r.settled k (within r.settled)) ++ drop (k + 1) (row_in m))
    cut_split r p =
        let u = r.settled in
        ap (cut top a size tag) (split_in m u k (within u)) ∙ cut_at top (tile_in m u k (within u)) (drop (k + 1) (row_in m)) a size tag (take k (row_in m)) (get_or m 2 0) (covers_split m u k (within u) p) (located u).from (omega (arith, behind r, w.to, pos))

    abbrev carved : List Tile
    carved = take k (row_in m) ++ (pieces (past_in m b i) a size tag (record { start = start_in m b i; tag = 0 }) ++ drop (k + 1) (row_in m))

    cut_carved : (r : Ready m) → Proper (own m) → cut top a size tag (row_in m) ≡ carved
    cut_carved r p =
        cut_split r p
        ∙ (λ j. take k (row_in m) ++ (pieces (behind r j) a size tag (record { start = start r.settled j; tag = free r.settled j }) ++ drop (k + 1) (row_in m)))

    covers_cut : (r : Ready m) → Proper (own m) → Covers (get_or m 2 0) top (cut top a size tag (row_in m))
    covers_cut r p =
        let u = r.settled in
        subst (Covers (get_or m 2 0) top) (sym (cut_split r p))
        (cut_covers top (tile_in m u k (within u)) (drop (k + 1) (row_in m)) a size tag (free u) pos named (located u).from (rw (behind r) w.to) (take k (row_in m)) (get_or m 2 0) (covers_split m u k (within u) p))

    is_open : (r : Ready m) → Open top a size (row_in m)
    is_open r =
        let u = r.settled in
        subst (Open top a size) (sym (split_in m u k (within u))) (open_in top (tile_in m u k (within u)) (drop (k + 1) (row_in m)) a size (take k (row_in m)) (free u) (located u).from (rw (behind r) w.to))

    -- the lists after the cut, as a row
    new_row : (u : Settled m) → row_of (splice k 1 (new_starts (start_in m b i) (past_in m b i) a size) (starts_of m)) (splice k 1 (new_tags (start_in m b i) (past_in m b i) a size tag) (tags_of m)) ≡ carved
    unfolding row_in
    new_row u =
        row_splice (starts_of m) (tags_of m) (new_starts (start_in m b i) (past_in m b i) a size) (new_tags (start_in m b i) (past_in m b i) a size tag) k 1 (as_many m u) (as_many_new (start_in m b i) (past_in m b i) a size tag)
        ∙ ap (λ (l : List Tile). take k (row_of (starts_of m) (tags_of m)) ++ (l ++ drop (k + 1) (row_of (starts_of m) (tags_of m)))) (pieces_row (start_in m b i) (past_in m b i) a size tag)

    many_new : (u : Settled m) → length carved + 1 ≡ count_of m + length (new_starts (start_in m b i) (past_in m b i) a size)
    many_new u =
        let c = count_row m u in
        let h = within u in
        let e : length (pieces (past_in m b i) a size tag (record { start = start_in m b i; tag = 0 })) ≡ length (new_starts (start_in m b i) (past_in m b i) a size) = ap length (sym (pieces_row (start_in m b i) (past_in m b i) a size tag)) ∙ row_length (new_starts (start_in m b i) (past_in m b i) a size) (new_tags (start_in m b i) (past_in m b i) a size tag) (as_many_new (start_in m b i) (past_in m b i) a size tag) in
        simp (length-append, length-take, length-drop) (omega arith)

    pub cut_done : (m' : List ℕ) {r : Bool} → Cut m m' b i a size tag r → r ≡ true → Cuts m a size tag (Ok tt) m'
    unfolding Cuts Cut
    cut_done m' c e =
        let u : Cut m m' b i a size tag true = rw e at c in (
          (pos, named),
          of_own m (λ t. Open t.top a size t.row × Holds m' (with_row t (cut t.top a size tag t.row))) (λ r p. (is_open r, turned_holds m m' _ _ (cut top a size tag (row_in m)) p (u r).0 (new_row r.settled ∙ sym (cut_carved r p)) (covers_cut r p))),
        )

    pub cut_full : (m' : List ℕ) {r : Bool} → Cut m m' b i a size tag r → r ≡ false → Cuts m a size tag (Err Full) m'
    unfolding Cuts Cut
    cut_full m' c e =
        let u : Cut m m' b i a size tag false = rw e at c in
        (u.0, (pos, named), of_own m (λ t. Open t.top a size t.row × (t.limit < length (cut t.top a size tag t.row))) (λ r p. (is_open r, rw (cut_carved r p) (omega (arith, u.1, many_new r.settled)))))

pub cut_no_table : (m : List ℕ) (a size tag : ℕ) → 0 < size → 0 < tag → {r : Option ℕ} → Headed m r → r ≡ None → Cuts m a size tag (Err NoTable) m
unfolding Cuts
cut_no_table m a size tag pos named h e = (refl, (pos, named), of_none m (bad_head m h e))
