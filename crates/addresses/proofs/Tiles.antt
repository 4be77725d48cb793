-- What the code's tests on tiles tell of a state, and what `insert` and `remove` do to the set of the granted ranges.
--     granted_split, split_granted     a range is granted just where the table has a granted tile that starts and ends with it
--     granted_once                     an address lies in one granted range at most
--     insert_here .., remove_only      the granted ranges after a grant and after a give-back
--     free_granting, free_releasing    the free addresses after a grant and after a give-back
--     covers_state                     each row that covers the pool, with tags 0 and 1, is the table of a sound state
-- Assumes nothing.
use Rattle.std.proofs.Common.{◌≡◌, ℕ, zero, suc, ◌-◌, ◌<◌, ◌≤◌, Bool, true, false, cond, eqb, ltb, ◌⊎◌, ◌↔◌, List, [], ◌∷◌, ◌++◌, sym, refl, ap, ◌∙◌, subst, inl, inr, ⊎_elim, append_assoc, arith, eq-eqb, ne_eqb, eqb-true}
use mathlib.Core.List.Memᴰ
use mathlib.Core.List.{Memᴰ}
use native.Mathlib.Decide.{dec_le}
use borrow.Author.Tests.{eqb-false}
use Rattle.table.specs.Row.{Tile, past, Covers, unfree}
use Rattle.ranges.specs.Range.{In}
use Rattle.ranges.specs.declared.RangeInclusive.{RangeInclusive}
use Rattle.addresses.specs.Meaning.{State, Free, Ordered, Sound, insert, remove, granting, releasing, gap, row_from, row_of}
use Rattle.addresses.proofs.Room.{state, ordered_mem}
use Rattle.addresses.proofs.Moves.{free, held, gap_none, past_row, row_earlier, ordered_earlier}
use Rattle.addresses.proofs.RowLaws.{Behind, ranges, ranges_row}

-- ---- the granted tiles

-- the range that a tile stands for, where `row` follows it
abbrev pub range_of : ℕ → Tile → List Tile → RangeInclusive
range_of top t row = record { start = t.start; end = past row top - 1 }

-- what is read off a row has the range of each of its granted tiles
ranges_split : (top : ℕ) (xs ys : List Tile) (t : Tile) → (t.tag ≡ 0 → ⊥) → Memᴰ (range_of top t ys) (ranges top (xs ++ t ∷ ys))
unfolding ranges
ranges_split top [] ys t h = rw (ne_eqb t.tag 0 h) (Memᴰ.head refl)
ranges_split top (x ∷ xs) ys t h = go (eqb x.tag 0) (ranges_split top xs ys t h)
  where
    go : (b : Bool) → Memᴰ (range_of top t ys) (ranges top (xs ++ t ∷ ys)) → Memᴰ (range_of top t ys) (cond b (ranges top (xs ++ t ∷ ys)) (range_of top x (xs ++ t ∷ ys) ∷ ranges top (xs ++ t ∷ ys)))
    go true m = m
    go false m = Memᴰ.tail m

-- a granted tile of a state's table is a granted range
pub split_granted : (σ : State) (xs ys : List Tile) (t : Tile) → Sound σ → row_of σ ≡ xs ++ t ∷ ys → (t.tag ≡ 0 → ⊥) → Memᴰ (range_of σ.top t ys) σ.granted
unfolding row_of
split_granted σ xs ys t o e h =
    let g : ranges σ.top (xs ++ t ∷ ys) ≡ σ.granted = cc (ranges_row σ.base σ.top σ.granted o.ordered) in
    subst (λ (rs : List RangeInclusive). Memᴰ (range_of σ.top t ys) rs) g (ranges_split σ.top xs ys t h)

-- and a granted range is a granted tile
row_split : (from top : ℕ) (rs : List RangeInclusive) (r : RangeInclusive) → Ordered from top rs → Memᴰ r rs → (xs : List Tile) × (ys : List Tile) × (row_from from top rs ≡ xs ++ held r.start ∷ ys) × (past ys top ≡ suc r.end)
unfolding row_from Ordered
row_split from top [] r o m = absurd (Memᴰ.not-nil m)
row_split from top (q ∷ rs) r o m =
    ⊎_elim
    (λ (e : r ≡ q). (gap from q.start, rest, ap (λ (x : RangeInclusive). gap from q.start ++ held x.start ∷ rest) (sym e), past_row (suc q.end) top rs o.2 ∙ ap (λ (x : RangeInclusive). suc x.end) (sym e)))
    (λ (n : Memᴰ r rs).
    let h = row_split (suc q.end) top rs r o.2 n in
    (gap from q.start ++ held q.start ∷ h.0, h.1, rw h.2 (sym (append_assoc (gap from q.start) (held q.start ∷ h.0) (held r.start ∷ h.1))), h.3))
    (Memᴰ.cases_cons m)
  where
    rest : List Tile
    rest = row_from (suc q.end) top rs

pub granted_split : (σ : State) (r : RangeInclusive) → Sound σ → Memᴰ r σ.granted → (xs : List Tile) × (ys : List Tile) × (row_of σ ≡ xs ++ held r.start ∷ ys) × (past ys σ.top ≡ suc r.end)
unfolding row_of
granted_split σ r o m = row_split σ.base σ.top σ.granted r o.ordered m

-- two granted ranges that share an address x are the same; for two with the same start, x is that
pub granted_once : (from top x : ℕ) (rs : List RangeInclusive) (q r : RangeInclusive) → Ordered from top rs → Memᴰ q rs → Memᴰ r rs → q.start ≤ x → x ≤ q.end → r.start ≤ x → x ≤ r.end → q ≡ r
unfolding Ordered
granted_once from top x [] q r o m n h₀ h₁ h₂ h₃ = absurd (Memᴰ.not-nil m)
granted_once from top x (p ∷ rs) q r o m n h₀ h₁ h₂ h₃ = go (granted_once (suc p.end) top x rs q r o.2) (Memᴰ.cases_cons m) (Memᴰ.cases_cons n)
  where
    go : (Memᴰ q rs → Memᴰ r rs → q.start ≤ x → x ≤ q.end → r.start ≤ x → x ≤ r.end → q ≡ r) → (q ≡ p) ⊎ Memᴰ q rs → (r ≡ p) ⊎ Memᴰ r rs → q ≡ r
    go next (inl e) (inl e') = e ∙ sym e'
    go next (inl e) (inr n') = absurd (omega (arith, ap (λ (y : RangeInclusive). y.end) e, ordered_mem (suc p.end) top rs r o.2 n'))
    go next (inr m') (inl e') = absurd (omega (arith, ap (λ (y : RangeInclusive). y.end) e', ordered_mem (suc p.end) top rs q o.2 m'))
    go next (inr m') (inr n') = next m' n' h₀ h₁ h₂ h₃

-- ---- the ranges after a grant and after a give-back

-- `insert q` puts q in, keeps each range, and puts nothing else in
pub insert_here : (q : RangeInclusive) (rs : List RangeInclusive) → Memᴰ q (insert q rs)
unfolding insert
insert_here q [] = Memᴰ.head refl
insert_here q (r ∷ rs) = go (ltb q.start r.start) (insert_here q rs)
  where
    go : (b : Bool) → Memᴰ q (insert q rs) → Memᴰ q (cond b (q ∷ r ∷ rs) (r ∷ insert q rs))
    go true m = Memᴰ.head refl
    go false m = Memᴰ.tail m

pub insert_keeps : (q p : RangeInclusive) (rs : List RangeInclusive) → Memᴰ p rs → Memᴰ p (insert q rs)
unfolding insert
insert_keeps q p [] m = absurd (Memᴰ.not-nil m)
insert_keeps q p (r ∷ rs) m = go (ltb q.start r.start) (λ n. insert_keeps q p rs n) (Memᴰ.cases_cons m)
  where
    go : (b : Bool) → (Memᴰ p rs → Memᴰ p (insert q rs)) → (p ≡ r) ⊎ Memᴰ p rs → Memᴰ p (cond b (q ∷ r ∷ rs) (r ∷ insert q rs))
    go true next c = Memᴰ.tail m
    go false next (inl e) = Memᴰ.head e
    go false next (inr n) = Memᴰ.tail (next n)

pub insert_only : (q p : RangeInclusive) (rs : List RangeInclusive) → Memᴰ p (insert q rs) → (p ≡ q) ⊎ Memᴰ p rs
unfolding insert
insert_only q p [] m = Memᴰ.cases_cons m
insert_only q p (r ∷ rs) m = go (ltb q.start r.start) (λ n. insert_only q p rs n) m
  where
    put : (p ≡ q) ⊎ Memᴰ p rs → (p ≡ q) ⊎ Memᴰ p (r ∷ rs)
    put (inl e) = inl e
    put (inr n) = inr (Memᴰ.tail n)

    back : (Memᴰ p (insert q rs) → (p ≡ q) ⊎ Memᴰ p rs) → (p ≡ r) ⊎ Memᴰ p (insert q rs) → (p ≡ q) ⊎ Memᴰ p (r ∷ rs)
    back next (inl e) = inr (Memᴰ.head e)
    back next (inr n) = put (next n)

    go : (b : Bool) → (Memᴰ p (insert q rs) → (p ≡ q) ⊎ Memᴰ p rs) → Memᴰ p (cond b (q ∷ r ∷ rs) (r ∷ insert q rs)) → (p ≡ q) ⊎ Memᴰ p (r ∷ rs)
    go true next n = Memᴰ.cases_cons n
    go false next n = back next (Memᴰ.cases_cons n)

-- `remove s` takes out the range that starts at s, and no other
pub remove_keeps : (s : ℕ) (p : RangeInclusive) (rs : List RangeInclusive) → (p.start ≡ s → ⊥) → Memᴰ p rs → Memᴰ p (remove s rs)
unfolding remove
remove_keeps s p [] h m = absurd (Memᴰ.not-nil m)
remove_keeps s p (r ∷ rs) h m = go (eqb r.start s) refl (λ n. remove_keeps s p rs h n) (Memᴰ.cases_cons m)
  where
    go : (b : Bool) → eqb r.start s ≡ b → (Memᴰ p rs → Memᴰ p (remove s rs)) → (p ≡ r) ⊎ Memᴰ p rs → Memᴰ p (cond b rs (r ∷ remove s rs))
    go true t next (inl e) = absurd (h (ap (λ (y : RangeInclusive). y.start) e ∙ eqb-true r.start s t))
    go true t next (inr n) = n
    go false t next (inl e) = Memᴰ.head e
    go false t next (inr n) = Memᴰ.tail (next n)

pub remove_only : (from top s : ℕ) (p : RangeInclusive) (rs : List RangeInclusive) → Ordered from top rs → Memᴰ p (remove s rs) → Memᴰ p rs × (p.start ≡ s → ⊥)
unfolding remove Ordered
remove_only from top s p [] o m = absurd (Memᴰ.not-nil m)
remove_only from top s p (r ∷ rs) o m = go (eqb r.start s) refl (λ n. remove_only (suc r.end) top s p rs o.2 n) m
  where
    back : (r.start ≡ s → ⊥) → (Memᴰ p (remove s rs) → Memᴰ p rs × (p.start ≡ s → ⊥)) → (p ≡ r) ⊎ Memᴰ p (remove s rs) → Memᴰ p (r ∷ rs) × (p.start ≡ s → ⊥)
    back t next (inl e) = (Memᴰ.head e, λ q. t (ap (λ (y : RangeInclusive). y.start) (sym e) ∙ q))
    back t next (inr n) = (Memᴰ.tail (next n).0, (next n).1)

    go : (b : Bool) → eqb r.start s ≡ b → (Memᴰ p (remove s rs) → Memᴰ p rs × (p.start ≡ s → ⊥)) → Memᴰ p (cond b rs (r ∷ remove s rs)) → Memᴰ p (r ∷ rs) × (p.start ≡ s → ⊥)
    go true t next n = (Memᴰ.tail n, λ q. omega (arith, ordered_mem (suc r.end) top rs p o.2 n, eqb-true r.start s t))
    go false t next n = back (eqb-false r.start s t) next (Memᴰ.cases_cons n)

-- after a grant an address is free if it was and is not in the granted range
pub free_granting : (σ : State) (q : RangeInclusive) (x : ℕ) → Free (granting σ q) x ↔ (Free σ x × (In x q → ⊥))
unfolding granting
free_granting σ q x = (
  λ f. (record { above = f.above; below = f.below; unheld = λ p m. f.unheld p (insert_keeps q p σ.granted m) }, f.unheld q (insert_here q σ.granted)),
  λ w. record { above = w.0.above; below = w.0.below; unheld = λ p m i. ⊎_elim (λ (e : p ≡ q). w.1 (subst (In x) e i)) (λ (n : Memᴰ p σ.granted). w.0.unheld p n i) (insert_only q p σ.granted m) },
)

-- after a give-back it is free if it was or is in the range given back
pub free_releasing : (σ : State) (r : RangeInclusive) (x : ℕ) → Sound σ → Memᴰ r σ.granted → Free (releasing σ r.start) x ↔ (Free σ x ⊎ In x r)
unfolding releasing
free_releasing σ r x o m = (λ f. to f (dec_le r.start x) (dec_le x r.end), ⊎_elim kept back)
  where
    same : (p : RangeInclusive) → Memᴰ p σ.granted → (y : ℕ) → In y p → In y r → p ≡ r
    same p n y i j = granted_once σ.base σ.top y σ.granted p r o.ordered n m i.0 i.1 j.0 j.1

    out : Free (releasing σ r.start) x → (In x r → ⊥) → Free σ x
    out f n = record {
      above = f.above;
      below = f.below;
      unheld = λ p w i. f.unheld p (remove_keeps r.start p σ.granted (λ e. n (subst (In x) (same p w r.start (omega (arith, ordered_mem σ.base σ.top σ.granted p o.ordered w)) (omega (arith, ordered_mem σ.base σ.top σ.granted r o.ordered m))) i)) w) i;
    }

    to : Free (releasing σ r.start) x → Dec (r.start ≤ x) → Dec (x ≤ r.end) → Free σ x ⊎ In x r
    to f (yes h) (yes l) = inr (h, l)
    to f (no n) d = inl (out f (λ i. n i.0))
    to f (yes h) (no n) = inl (out f (λ i. n i.1))

    kept : Free σ x → Free (releasing σ r.start) x
    kept f = record { above = f.above; below = f.below; unheld = λ p w. f.unheld p (remove_only σ.base σ.top r.start p σ.granted o.ordered w).0 }

    back : In x r → Free (releasing σ r.start) x
    back i = record {
      above = omega (arith, ordered_mem σ.base σ.top σ.granted r o.ordered m);
      below = omega (arith, ordered_mem σ.base σ.top σ.granted r o.ordered m);
      unheld = λ p w j.
          let g = remove_only σ.base σ.top r.start p σ.granted o.ordered w in
          g.1 (ap (λ (y : RangeInclusive). y.start) (same p g.0 x j i));
    }

-- ---- each row that covers the pool is the table of a state

-- what a row that covers says of its first tile and of what follows that
pub covers_cons : (from top : ℕ) (t : Tile) (row : List Tile) → Covers from top (t ∷ row) → (t.start ≡ from) × (from < past row top) × (t.tag ≡ 0 → unfree row ≡ row) × Behind (past row top) top row
unfolding Covers Behind past unfree
covers_cons from top t [] c = (c.0, c.1, λ z. refl, refl)
covers_cons from top t (u ∷ row) c = (c.0, c.1, λ z. rw (ne_eqb u.tag 0 (c.2 z)), c.3)

-- a free tile, and a granted one, in front of the table of some ranges
free_front : (from e top : ℕ) (rs : List RangeInclusive) (row : List Tile) → from < e → Ordered e top rs × (row_from e top rs ≡ row) → unfree row ≡ row → Ordered from top rs × (row_from from top rs ≡ free from ∷ row)
free_front from e top rs row h w u = (ordered_earlier from e top rs (omega arith) w.0, row_earlier from e top rs h w.0 ∙ rw (w.1, u))

held_front : (from e top : ℕ) (rs : List RangeInclusive) (row : List Tile) → from < e → Ordered e top rs × (row_from e top rs ≡ row) → Ordered from top (record { start = from; end = e - 1 } ∷ rs) × (row_from from top (record { start = from; end = e - 1 } ∷ rs) ≡ held from ∷ row)
unfolding Ordered row_from
held_front from e top rs row h w =
    let q : suc (e - 1) ≡ e = omega arith in
    rw q ((omega arith, omega arith, w.0), rw (gap_none from from (omega arith), w.1))

-- the ranges read off a row that covers are in order, and the row is their table
behind_ranges : (from top : ℕ) (row : List Tile) → Behind from top row → ((t : Tile) → Memᴰ t row → t.tag ≤ 1) → Ordered from top (ranges top row) × (row_from from top (ranges top row) ≡ row)
unfolding Behind Ordered ranges row_from
behind_ranges from top [] b g = (omega arith, gap_none from top (omega arith))
behind_ranges from top (t ∷ row) b g =
    let c = covers_cons from top t row b in
    go t.tag refl (g t (Memᴰ.head refl)) (behind_ranges (past row top) top row c.3 (λ u m. g u (Memᴰ.tail m)))
  where
    go : (n : ℕ) → t.tag ≡ n → n ≤ 1 → Ordered (past row top) top (ranges top row) × (row_from (past row top) top (ranges top row) ≡ row) → Ordered from top (ranges top (t ∷ row)) × (row_from from top (ranges top (t ∷ row)) ≡ t ∷ row)
    go zero e l w =
        let c = covers_cons from top t row b in
        let q : free from ≡ t = λ i. record { start = sym c.0 i; tag = sym e i } in
        rw (eq-eqb t.tag 0 e, ← q) (free_front from (past row top) top (ranges top row) row c.1 w (c.2 e))
    go (suc n) e l w =
        let c = covers_cons from top t row b in
        let z : t.tag ≡ 1 = omega arith in
        let q : held from ≡ t = λ i. record { start = sym c.0 i; tag = sym z i } in
        rw (ne_eqb t.tag 0 (λ y. omega arith), ← q) (held_front from (past row top) top (ranges top row) row c.1 w)

-- the theorem
pub covers_state : (base top : ℕ) (row : List Tile) → base < top → Covers base top row → ((t : Tile) → Memᴰ t row → t.tag ≤ 1) → Sound (state base top (ranges top row)) × (row_of (state base top (ranges top row)) ≡ row)
unfolding Behind row_of Covers
covers_state base top [] h c g = absurd c
covers_state base top (t ∷ row) h c g =
    let w = behind_ranges base top (t ∷ row) c g in
    (record { some = h; ordered = w.0 }, w.1)
