-- The two moves are right: `cut` makes of a state's table the table of the state with one more range, and `melt` that with one less; both states are sound.
-- Assumes nothing.
use Rattle.std.proofs.Common.{◌≡◌, ℕ, suc, ◌+◌, ◌-◌, ◌<◌, ◌≤◌, Bool, true, false, cond, eqb, ltb, List, [], ◌∷◌, ◌++◌, sym, refl, ap, ⊎_elim, append_assoc, append-nil, arith, ltb-false, ltb-true, le-ltb, lt-ltb, eq-eqb, ne_eqb}
use mathlib.Core.List.Memᴰ
use mathlib.Core.List.{Memᴰ}
use Rattle.table.specs.Row.{Tile, past, cut, unmark, unfree, melted, melt}
use Rattle.ranges.specs.declared.RangeInclusive.{RangeInclusive}
use Rattle.addresses.specs.Meaning.{State, Fits, Ordered, Sound, insert, remove, window, granting, releasing, gap, row_from, row_of}
use Rattle.addresses.proofs.Room.{Inside, Room, ordered_mem, room_within, fits_room}

-- ---- gaps

-- a free tile, and a granted one
abbrev pub free : ℕ → Tile
free s = record { start = s; tag = 0 }

abbrev pub held : ℕ → Tile
held s = record { start = s; tag = 1 }

-- a gap with an address is one free tile, and one without is no tile
pub gap_some : (from to : ℕ) → from < to → gap from to ≡ free from ∷ []
unfolding gap
gap_some from to h = rw (lt-ltb from to h)

pub gap_none : (from to : ℕ) → to ≤ from → gap from to ≡ []
unfolding gap
gap_none from to h = rw (le-ltb from to h)

-- a row that starts with a gap starts where the gap does
past_gap : (from to top : ℕ) (row : List Tile) → from ≤ to → past row top ≡ to → past (gap from to ++ row) top ≡ from
unfolding past gap
past_gap from to top row h e = go (ltb from to) refl
  where
    go : (b : Bool) → ltb from to ≡ b → past (cond b (free from ∷ []) [] ++ row) top ≡ from
    go true t = refl
    go false t = omega (arith, ltb-false from to t)

-- the table of ranges in order starts at `from`
pub past_row : (from top : ℕ) (rs : List RangeInclusive) → Ordered from top rs → past (row_from from top rs) top ≡ from
unfolding row_from Ordered past
past_row from top [] o = rw append-nil at (past_gap from top top [] o refl)
past_row from top (r ∷ rs) o = past_gap from r.start top (held r.start ∷ row_from (suc r.end) top rs) o.0 refl

-- ---- cut

-- a window that lies inside the gap in front of a row is cut out of it
cut_gap : (top a size from to : ℕ) (row : List Tile) → 0 < size → from ≤ a → a + size ≤ to → past row top ≡ to → cut top a size 1 (gap from to ++ row) ≡ gap from a ++ held a ∷ (gap (a + size) to ++ row)
unfolding cut gap
cut_gap top a size from to row s h l e = rw (lt-ltb from to (omega arith), e, lt-ltb a to (omega arith), append_assoc)

-- a window that lies past the gap leaves it
cut_past : (top a size from to : ℕ) (row : List Tile) → to ≤ a → past row top ≡ to → cut top a size 1 (gap from to ++ row) ≡ gap from to ++ cut top a size 1 row
unfolding cut gap
cut_past top a size from to row h e = go (ltb from to)
  where
    go : (b : Bool) → cut top a size 1 (cond b (free from ∷ []) [] ++ row) ≡ cond b (free from ∷ []) [] ++ cut top a size 1 row
    go true = rw (e, le-ltb a to h)
    go false = refl

-- where a window has room, its cut is the row with its range
cut_room : (size : ℕ) (Ok : ℕ → Type 0) (from top : ℕ) (rs : List RangeInclusive) (a : ℕ) → 0 < size → Ordered from top rs → Room size Ok from top rs a → cut top a size 1 (row_from from top rs) ≡ row_from from top (insert (window a size) rs)
unfolding row_from Ordered Room insert past cut
cut_room size Ok from top [] a s o w =
    let e : suc (a + size - 1) ≡ a + size = omega arith in
    rw e (simp append-nil at (cut_gap top a size from top [] s w.above w.below refl))
cut_room size Ok from top (r ∷ rs) a s o w = ⊎_elim here (λ (n : Room size Ok (suc r.end) top rs a). there n (cut_room size Ok (suc r.end) top rs a s o.2 n)) w
  where
    rest : List Tile
    rest = row_from (suc r.end) top rs

    here : Inside size Ok from r.start a → cut top a size 1 (row_from from top (r ∷ rs)) ≡ row_from from top (insert (window a size) (r ∷ rs))
    here i =
        let e : suc (a + size - 1) ≡ a + size = omega arith in
        rw (lt-ltb a r.start (omega arith), e) (cut_gap top a size from r.start (held r.start ∷ rest) s i.above i.below refl)

    there : Room size Ok (suc r.end) top rs a → cut top a size 1 rest ≡ row_from (suc r.end) top (insert (window a size) rs) → cut top a size 1 (row_from from top (r ∷ rs)) ≡ row_from from top (insert (window a size) (r ∷ rs))
    there n e =
        let l : suc r.end ≤ a = (room_within size Ok (suc r.end) top rs a o.2 n).0 in
        let skip : cut top a size 1 (held r.start ∷ rest) ≡ held r.start ∷ cut top a size 1 rest = rw (past_row (suc r.end) top rs o.2, le-ltb a (suc r.end) l) in
        rw (le-ltb a r.start (omega arith), cut_past top a size from r.start (held r.start ∷ rest) (omega arith) refl, skip, e)

-- the ranges with that of the window are in order
insert_ordered : (size : ℕ) (Ok : ℕ → Type 0) (from top : ℕ) (rs : List RangeInclusive) (a : ℕ) → 0 < size → Ordered from top rs → Room size Ok from top rs a → Ordered from top (insert (window a size) rs)
unfolding Ordered Room insert
insert_ordered size Ok from top [] a s o w = omega arith
insert_ordered size Ok from top (r ∷ rs) a s o w =
    ⊎_elim
    (λ (i : Inside size Ok from r.start a). rw (lt-ltb a r.start (omega arith)) (i.above, omega arith, (omega arith, o.1, o.2)))
    (λ (n : Room size Ok (suc r.end) top rs a).
    rw (le-ltb a r.start (omega (arith, room_within size Ok (suc r.end) top rs a o.2 n)))
    (o.0, o.1, insert_ordered size Ok (suc r.end) top rs a s o.2 n))
    w

-- ---- melt

-- the tile to be freed lies past the gap in front of a row
unmark_gap : (s from to : ℕ) (row : List Tile) → to ≤ s → unmark s (gap from to ++ row) ≡ gap from to ++ unmark s row
unfolding unmark gap
unmark_gap s from to row h = go (ltb from to) refl
  where
    go : (b : Bool) → ltb from to ≡ b → unmark s (cond b (free from ∷ []) [] ++ row) ≡ cond b (free from ∷ []) [] ++ unmark s row
    go true e = rw (ne_eqb from s (λ q. omega (arith, ltb-true from to e)))
    go false e = refl

-- a gap in front of a granted tile, and one in front of a free tile
melted_held : (from to x : ℕ) (row : List Tile) → melted (gap from to ++ held x ∷ row) ≡ gap from to ++ held x ∷ melted row
unfolding melted gap
melted_held from to x row = go (ltb from to)
  where
    go : (b : Bool) → melted (cond b (free from ∷ []) [] ++ held x ∷ row) ≡ cond b (free from ∷ []) [] ++ held x ∷ melted row
    go true = refl
    go false = refl

melted_free : (from x : ℕ) (row : List Tile) → from ≤ x → melted (gap from x ++ free x ∷ row) ≡ free from ∷ unfree (melted row)
unfolding melted gap
melted_free from x row h = go (ltb from x) refl
  where
    go : (b : Bool) → ltb from x ≡ b → melted (cond b (free from ∷ []) [] ++ free x ∷ row) ≡ free from ∷ unfree (melted row)
    go true e = refl
    go false e =
        let q : x ≡ from = omega (arith, ltb-false from x e) in
        ap (λ (y : ℕ). free y ∷ unfree (melted row)) q

-- a state's table has nothing to melt
melted_row : (from top : ℕ) (rs : List RangeInclusive) → melted (row_from from top rs) ≡ row_from from top rs
unfolding row_from melted
melted_row from top [] = go (ltb from top)
  where
    go : (b : Bool) → melted (cond b (free from ∷ []) []) ≡ cond b (free from ∷ []) []
    go true = refl
    go false = refl
melted_row from top (r ∷ rs) = rw (melted_held from r.start r.start (row_from (suc r.end) top rs), melted_row (suc r.end) top rs)

-- a table that starts earlier is a free tile more, in place of the gap with which it started
unfree_gap : (from to : ℕ) (row : List Tile) → unfree row ≡ row → unfree (gap from to ++ row) ≡ row
unfolding gap unfree
unfree_gap from to row h = go (ltb from to)
  where
    go : (b : Bool) → unfree (cond b (free from ∷ []) [] ++ row) ≡ row
    go true = refl
    go false = h

pub row_earlier : (from e top : ℕ) (rs : List RangeInclusive) → from < e → Ordered e top rs → row_from from top rs ≡ free from ∷ unfree (row_from e top rs)
unfolding row_from Ordered unfree
row_earlier from e top [] h o = rw (gap_some from top (omega arith)) (ap (λ (l : List Tile). free from ∷ l) (sym (rw append-nil at (unfree_gap e top [] refl))))
row_earlier from e top (r ∷ rs) h o =
    let rest : List Tile = held r.start ∷ row_from (suc r.end) top rs in
    rw (gap_some from r.start (omega arith), unfree_gap e r.start rest refl)

-- the tile of a granted range made free and melted is the row without that range
melt_row : (from top : ℕ) (rs : List RangeInclusive) (q : RangeInclusive) → Ordered from top rs → Memᴰ q rs → melt q.start (row_from from top rs) ≡ row_from from top (remove q.start rs)
unfolding row_from Ordered remove melt
melt_row from top [] q o m = absurd (Memᴰ.not-nil m)
melt_row from top (r ∷ rs) q o m = ⊎_elim here (λ (n : Memᴰ q rs). there n (melt_row (suc r.end) top rs q o.2 n)) (Memᴰ.cases_cons m)
  where
    rest : List Tile
    rest = row_from (suc r.end) top rs

    here : q ≡ r → melt q.start (row_from from top (r ∷ rs)) ≡ row_from from top (remove q.start (r ∷ rs))
    here e =
        let t : r.start ≡ q.start = ap (λ (x : RangeInclusive). x.start) (sym e) in
        rw (
          unmark_gap q.start from r.start (held r.start ∷ rest) (omega arith),
          eq-eqb r.start q.start t,
          melted_free from r.start rest o.0,
          melted_row (suc r.end) top rs,
        )
        (sym (row_earlier from (suc r.end) top rs (omega arith) o.2))

    there : Memᴰ q rs → melted (unmark q.start rest) ≡ row_from (suc r.end) top (remove q.start rs) → melt q.start (row_from from top (r ∷ rs)) ≡ row_from from top (remove q.start (r ∷ rs))
    there n e =
        let l : suc r.end ≤ q.start = (ordered_mem (suc r.end) top rs q o.2 n).0 in
        rw (
          unmark_gap q.start from r.start (held r.start ∷ rest) (omega arith),
          ne_eqb r.start q.start (λ t. omega arith),
          melted_held from r.start r.start (unmark q.start rest),
          e,
        )

-- ranges in order from some address on are so from an earlier one on
pub ordered_earlier : (from e top : ℕ) (rs : List RangeInclusive) → from ≤ e → Ordered e top rs → Ordered from top rs
unfolding Ordered
ordered_earlier from e top [] h o = omega arith
ordered_earlier from e top (r ∷ rs) h o = (omega arith, o.1, o.2)

-- the ranges without one of them are in order
remove_ordered : (from top s : ℕ) (rs : List RangeInclusive) → Ordered from top rs → Ordered from top (remove s rs)
unfolding Ordered remove
remove_ordered from top s [] o = o
remove_ordered from top s (r ∷ rs) o = go (eqb r.start s) (remove_ordered (suc r.end) top s rs o.2)
  where
    go : (b : Bool) → Ordered (suc r.end) top (remove s rs) → Ordered from top (cond b rs (r ∷ remove s rs))
    go true h = ordered_earlier from (suc r.end) top rs (omega arith) o.2
    go false h = (o.0, o.1, h)

-- ---- the theorems

-- where a window fits, its cut is the table of the state that grants it, which is sound
pub cut_fits : {Ok : ℕ → Type 0} (σ : State) (size a : ℕ) → Sound σ → 0 < size → Fits σ size Ok a → cut σ.top a size 1 (row_of σ) ≡ row_of (granting σ (window a size))
unfolding row_of granting
cut_fits {Ok} σ size a o s f = cut_room size Ok σ.base σ.top σ.granted a s o.ordered (fits_room σ size a o s f)

pub granting_sound : {Ok : ℕ → Type 0} (σ : State) (size a : ℕ) → Sound σ → 0 < size → Fits σ size Ok a → Sound (granting σ (window a size))
unfolding granting
granting_sound {Ok} σ size a o s f = record { some = o.some; ordered = insert_ordered size Ok σ.base σ.top σ.granted a s o.ordered (fits_room σ size a o s f) }

-- the melt at a granted range is the table of the state that has it back, which is sound
pub melt_granted : (σ : State) (r : RangeInclusive) → Sound σ → Memᴰ r σ.granted → melt r.start (row_of σ) ≡ row_of (releasing σ r.start)
unfolding row_of releasing
melt_granted σ r o m = melt_row σ.base σ.top σ.granted r o.ordered m

pub releasing_sound : (σ : State) (s : ℕ) → Sound σ → Sound (releasing σ s)
unfolding releasing
releasing_sound σ s o = record { some = o.some; ordered = remove_ordered σ.base σ.top s σ.granted o.ordered }
