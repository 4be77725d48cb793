-- What follows of rows and states: a state's table covers its pool and says all of the state, a give-back undoes a grant, the moves' lengths, and that the answers are the only ones.
-- Assumes nothing.
use Rattle.std.proofs.Common.{◌≡◌, ℕ, suc, ◌+◌, ◌-◌, ◌<◌, ◌≤◌, Bool, true, false, cond, eqb, ltb, ◌⊎◌, List, [], ◌∷◌, ◌++◌, length, sym, refl, ap, subst, inl, inr, ⊎_elim, append-nil, le_antisymm, arith, length-append, ltb-false, ltb-true, le-ltb, lt-ltb, eq-eqb, ne_eqb}
use mathlib.Core.List.Memᴰ
use mathlib.Core.List.{Memᴰ}
use native.Mathlib.Decide.{dec_le}
use Rattle.table.specs.Row.{Tile, past, Covers, pieces, cut, unmark, unfree, melted, melt}
use Rattle.ranges.specs.Range.{In}
use Rattle.ranges.specs.declared.RangeInclusive.{RangeInclusive}
use Rattle.addresses.specs.Meaning.{State, Free, Fits, Least, Greatest, Ordered, Sound, insert, remove, window, granting, releasing, gap, row_from, row_of}
use Rattle.addresses.proofs.Room.{Inside, Room, room_within, fits_room}
use Rattle.addresses.proofs.Moves.{free, held, past_row}

-- ---- a state's table covers its pool

-- what may stand behind a granted tile: nothing at the top, or a row that covers the rest
unfoldable pub Behind : ℕ → ℕ → List Tile → Type 0
Behind from top [] = from ≡ top
Behind from top (t ∷ row) = Covers from top (t ∷ row)

-- a row that covers starts where it is to
covers_start : (from top : ℕ) (t : Tile) (row : List Tile) → Covers from top (t ∷ row) → t.start ≡ from
unfolding Covers
covers_start from top t [] c = c.0
covers_start from top t (u ∷ row) c = c.0

-- a granted tile in front of what may stand behind it
behind_held : (from e top : ℕ) (row : List Tile) → from < e → Behind e top row → Covers from top (held from ∷ row)
unfolding Behind Covers
behind_held from e top [] h b = (refl, omega arith)
behind_held from e top (t ∷ row) h b =
    let q : t.start ≡ e = covers_start e top t row b in
    (refl, omega arith, λ z. omega arith, subst (λ (x : ℕ). Covers x top (t ∷ row)) (sym q) b)

-- the table of ranges in order covers what they leave and hold, up to the top
behind_row : (from top : ℕ) (rs : List RangeInclusive) → Ordered from top rs → Behind from top (row_from from top rs)
unfolding Behind Covers row_from Ordered
behind_row from top [] o = go (ltb from top) refl
  where
    go : (b : Bool) → ltb from top ≡ b → Behind from top (cond b (free from ∷ []) [])
    go true e = (refl, ltb-true from top e)
    go false e = omega (arith, ltb-false from top e)
behind_row from top (r ∷ rs) o = go (ltb from r.start) refl (behind_held r.start (suc r.end) top (row_from (suc r.end) top rs) (omega arith) (behind_row (suc r.end) top rs o.2))
  where
    go : (b : Bool) → ltb from r.start ≡ b → Covers r.start top (held r.start ∷ row_from (suc r.end) top rs) → Behind from top (cond b (free from ∷ []) [] ++ held r.start ∷ row_from (suc r.end) top rs)
    go true e c = (refl, ltb-true from r.start e, λ z. λ z'. omega arith, c)
    go false e c =
        let q : from ≡ r.start = omega (arith, ltb-false from r.start e) in
        rw q c

-- the theorem: a sound state's table covers its pool
pub covers_row : (σ : State) → Sound σ → Covers σ.base σ.top (row_of σ)
unfolding Behind row_of
covers_row σ o = go (row_of σ) (behind_row σ.base σ.top σ.granted o.ordered)
  where
    go : (row : List Tile) → Behind σ.base σ.top row → Covers σ.base σ.top row
    go [] b = absurd (omega arith)
    go (t ∷ row) b = b

-- ---- a give-back undoes a grant

-- of the ranges, and of the state
pub remove_insert : (size : ℕ) (Ok : ℕ → Type 0) (from top : ℕ) (rs : List RangeInclusive) (a : ℕ) → 0 < size → Ordered from top rs → Room size Ok from top rs a → remove a (insert (window a size) rs) ≡ rs
unfolding remove insert Room Ordered
remove_insert size Ok from top [] a s o w = rw (eq-eqb a a refl)
remove_insert size Ok from top (r ∷ rs) a s o w =
    ⊎_elim
    (λ (i : Inside size Ok from r.start a). rw (lt-ltb a r.start (omega arith), eq-eqb a a refl))
    (λ (n : Room size Ok (suc r.end) top rs a).
    let l : suc r.end ≤ a = (room_within size Ok (suc r.end) top rs a o.2 n).0 in
    rw (le-ltb a r.start (omega arith), ne_eqb r.start a (λ e. omega arith), remove_insert size Ok (suc r.end) top rs a s o.2 n))
    w

pub releasing_granting : {Ok : ℕ → Type 0} (σ : State) (size a : ℕ) → Sound σ → 0 < size → Fits σ size Ok a → releasing (granting σ (window a size)) a ≡ σ
unfolding granting releasing
releasing_granting {Ok} σ size a o s f =
    let e : remove a (insert (window a size) σ.granted) ≡ σ.granted = remove_insert size Ok σ.base σ.top σ.granted a s o.ordered (fits_room σ size a o s f) in
    λ i. record { base = σ.base; top = σ.top; granted = e i }

-- ---- a state's table says all of the state

-- the granted ranges, read off a row
unfoldable pub ranges : ℕ → List Tile → List RangeInclusive
unfolding past
ranges top [] = []
ranges top (t ∷ row) = cond (eqb t.tag 0) (ranges top row) (record { start = t.start; end = past row top - 1 } ∷ ranges top row)

-- a gap holds no range
ranges_gap : (top from to : ℕ) (row : List Tile) → ranges top (gap from to ++ row) ≡ ranges top row
unfolding ranges gap
ranges_gap top from to row = go (ltb from to)
  where
    go : (b : Bool) → ranges top (cond b (free from ∷ []) [] ++ row) ≡ ranges top row
    go true = refl
    go false = refl

-- what is read off the table of ranges in order is those ranges
pub ranges_row : (from top : ℕ) (rs : List RangeInclusive) → Ordered from top rs → ranges top (row_from from top rs) ≡ rs
unfolding row_from Ordered ranges
ranges_row from top [] o = rw append-nil at (ranges_gap top from top [])
ranges_row from top (r ∷ rs) o =
    let n : past (row_from (suc r.end) top rs) top - 1 ≡ r.end = omega (arith, past_row (suc r.end) top rs o.2) in
    rw (ranges_gap top from r.start (held r.start ∷ row_from (suc r.end) top rs), n, ranges_row (suc r.end) top rs o.2)

-- two sound states of one pool with one table are the same
pub row_injective : (σ τ : State) → Sound σ → Sound τ → σ.base ≡ τ.base → σ.top ≡ τ.top → row_of σ ≡ row_of τ → σ ≡ τ
unfolding row_of
row_injective σ τ o o' p q e =
    let g : σ.granted ≡ τ.granted = cc (ranges_row σ.base σ.top σ.granted o.ordered, ranges_row τ.base τ.top τ.granted o'.ordered) in
    λ i. record { base = p i; top = q i; granted = g i }

-- ---- lengths

-- a tile is cut into at most three
pieces_length : (to a size tag : ℕ) (t : Tile) → length (pieces to a size tag t) ≤ 3
unfolding pieces
pieces_length to a size tag t = go (ltb t.start a) (ltb (a + size) to)
  where
    go : (b c : Bool) → length (cond b (t ∷ []) [] ++ record { start = a; tag = tag } ∷ cond c (free (a + size) ∷ []) []) ≤ 3
    go true true = omega arith
    go true false = omega arith
    go false true = omega arith
    go false false = omega arith

-- a cut makes at most two tiles more
pub cut_length : (top a size tag : ℕ) (row : List Tile) → length (cut top a size tag row) ≤ length row + 2
unfolding cut
cut_length top a size tag [] = omega arith
cut_length top a size tag (t ∷ row) = go (ltb a (past row top)) (cut_length top a size tag row)
  where
    go : (b : Bool) → length (cut top a size tag row) ≤ length row + 2 → length (cond b (pieces (past row top) a size tag t ++ row) (t ∷ cut top a size tag row)) ≤ suc (length row) + 2
    go true h = rw length-append (omega (arith, pieces_length (past row top) a size tag t))
    go false h = omega arith

-- to free a tile leaves their number, and to melt does not raise it
unmark_length : (s : ℕ) (row : List Tile) → length (unmark s row) ≡ length row
unfolding unmark
unmark_length s [] = refl
unmark_length s (t ∷ row) = go (eqb t.start s) (unmark_length s row)
  where
    go : (b : Bool) → length (unmark s row) ≡ length row → length (cond b (free t.start ∷ row) (t ∷ unmark s row)) ≡ suc (length row)
    go true h = refl
    go false h = ap suc h

unfree_length : (row : List Tile) → length (unfree row) ≤ length row
unfolding unfree
unfree_length [] = omega arith
unfree_length (t ∷ row) = go (eqb t.tag 0)
  where
    go : (b : Bool) → length (cond b row (t ∷ row)) ≤ suc (length row)
    go true = omega arith
    go false = omega arith

melted_length : (row : List Tile) → length (melted row) ≤ length row
unfolding melted
melted_length [] = omega arith
melted_length (t ∷ row) = go (eqb t.tag 0) (melted_length row)
  where
    go : (b : Bool) → length (melted row) ≤ length row → suc (length (cond b (unfree (melted row)) (melted row))) ≤ suc (length row)
    go true h = omega (arith, unfree_length (melted row))
    go false h = omega arith

-- a melt makes none
pub melt_length : (s : ℕ) (row : List Tile) → length (melt s row) ≤ length row
unfolding melt
melt_length s row = omega (arith, melted_length (unmark s row), unmark_length s row)

-- ---- the answers are the only ones

-- at most one number is the least that has P, and at most one the greatest
pub least_unique : (P : ℕ → Type 0) (a b : ℕ) → Least P a → Least P b → a ≡ b
unfolding Least
least_unique P a b h h' = le_antisymm (h.1 b h'.0) (h'.1 a h.0)

pub greatest_unique : (P : ℕ → Type 0) (a b : ℕ) → Greatest P a → Greatest P b → a ≡ b
unfolding Greatest
greatest_unique P a b h h' = le_antisymm (h'.1 a h.0) (h.1 b h'.0)

-- an address lies in one of the ranges or in none
held_or_not : (rs : List RangeInclusive) (x : ℕ) → ((r : RangeInclusive) × Memᴰ r rs × In x r) ⊎ ((r : RangeInclusive) → Memᴰ r rs → In x r → ⊥)
held_or_not [] x = inr (λ r m i. Memᴰ.not-nil m)
held_or_not (q ∷ rs) x = go (dec_le q.start x) (dec_le x q.end) (held_or_not rs x)
  where
    miss : (In x q → ⊥) → ((r : RangeInclusive) → Memᴰ r rs → In x r → ⊥) → (r : RangeInclusive) → Memᴰ r (q ∷ rs) → In x r → ⊥
    miss n f r m i = ⊎_elim (λ (e : r ≡ q). n (subst (In x) e i)) (λ (m' : Memᴰ r rs). f r m' i) (Memᴰ.cases_cons m)

    rest : (In x q → ⊥) → ((r : RangeInclusive) × Memᴰ r rs × In x r) ⊎ ((r : RangeInclusive) → Memᴰ r rs → In x r → ⊥) → ((r : RangeInclusive) × Memᴰ r (q ∷ rs) × In x r) ⊎ ((r : RangeInclusive) → Memᴰ r (q ∷ rs) → In x r → ⊥)
    rest n (inl h) = inl (h.0, Memᴰ.tail h.1, h.2)
    rest n (inr f) = inr (miss n f)

    go : Dec (q.start ≤ x) → Dec (x ≤ q.end) → ((r : RangeInclusive) × Memᴰ r rs × In x r) ⊎ ((r : RangeInclusive) → Memᴰ r rs → In x r → ⊥) → ((r : RangeInclusive) × Memᴰ r (q ∷ rs) × In x r) ⊎ ((r : RangeInclusive) → Memᴰ r (q ∷ rs) → In x r → ⊥)
    go (yes l) (yes l') d = inl (q, Memᴰ.head refl, (l, l'))
    go (no n) d' d = rest (λ i. n i.0) d
    go (yes l) (no n) d = rest (λ i. n i.1) d

-- an address of the pool is free or granted
pub free_or_granted : (σ : State) (x : ℕ) → σ.base ≤ x → x < σ.top → Free σ x ⊎ ((r : RangeInclusive) × Memᴰ r σ.granted × In x r)
free_or_granted σ x h l =
    ⊎_elim
    (λ (g : (r : RangeInclusive) × Memᴰ r σ.granted × In x r). inr g)
    (λ (n : (r : RangeInclusive) → Memᴰ r σ.granted → In x r → ⊥). inl (record { above = h; below = l; unheld = n }))
    (held_or_not σ.granted x)
