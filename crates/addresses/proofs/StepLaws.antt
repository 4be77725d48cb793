-- Laws of the private steps: what the table says of a row, said of the pool whose row it is.
--     open_clear, clear_open      a window lies in one free tile just where its addresses are free
--     cut_done, cut_full          the table with the window cut out is the next pool's, and it has room just where the pool has
--     melt_done                   the table with the range melted back is the next pool's
--     has_free, has_granted       the tile of an address: free, or the granted range
-- Assumes nothing.
use Rattle.std.proofs.Common.{◌≡◌, ℕ, ◌+◌, ◌-◌, ◌%◌, ◌^◌, ◌<◌, ◌≤◌, Bool, true, false, cond, eqb, List, [], ◌∷◌, ◌++◌, length, sym, refl, ap, ◌∙◌, inl, inr, mod-eq_of_lt, arith, ne_eqb}
use mathlib.Core.List.{Memᴰ}
use Rattle.ranges.specs.declared.RangeInclusive.{RangeInclusive}
use Rattle.table.specs.Row.{Tile, past, cut, melt}
use Rattle.table.specs.Tiles.{Open, Has}
use Rattle.table.specs.Tiles as tiles
use Rattle.table.specs.Table.{with_row}
use Rattle.table.specs.Held as table
use Rattle.table.proofs.Holding.{holds_proper}
use Rattle.addresses.specs.declared.Answer.TheVariants.{Granted, Freed}
use Rattle.addresses.specs.Meaning.{State, Free, Fits, Sound, window, granting, releasing, row_of}
use Rattle.addresses.specs.Operations.{Pool, next, HasRoom}
use Rattle.addresses.specs.Runs.{Valid}
use Rattle.addresses.specs.Held.{table_of, Holds}
use Rattle.addresses.specs.Steps.{Clear}
use Rattle.addresses.proofs.Moves.{held, cut_fits, granting_sound, melt_granted, releasing_sound}
use Rattle.addresses.proofs.RowLaws.{ranges, ranges_row, melt_length}
use Rattle.addresses.proofs.Tiles.{granted_split}
use Rattle.addresses.proofs.Computed.{is_open}
use Rattle.addresses.proofs.ComputedLaws.{Tells, passed, failed, tells_leb, tells_eqb, tells_both, tells_either, tells_iff, tells_fits}

-- ---- a window

-- two statements that one test tells are the same
same_test : {P Q : Type 0} {b : Bool} → Tells P b → Tells Q b → P → Q
same_test (passed p) (passed q) h = q
same_test (failed n) (failed k) h = absurd (n h)

-- whether a window lies in one free tile
tells_open : (top a size : ℕ) (row : List Tile) → Tells (Open top a size row) (is_open top a size row)
unfolding Open is_open
tells_open top a size [] = failed (λ (z : ⊥). z)
tells_open top a size (t ∷ row) =
    tells_either
    (tells_iff (λ w. (w.0, w.1.0, w.1.1)) (λ w. (w.0, (w.1, w.2)))
    (tells_both (tells_eqb t.tag 0) (tells_both (tells_leb t.start a) (tells_leb (a + size) (past row top)))))
    (tells_open top a size row)

-- a window whose addresses are free fits, where any start is allowed
abbrev anywhere : ℕ → Type 0
anywhere x = Unit {0}

clear_fits : (σ : State) (a size : ℕ) → Clear σ a size → Fits σ size anywhere a
clear_fits σ a size f = record { allowed = tt; free = f }

pub open_clear : (σ : State) (a size : ℕ) → Sound σ → 0 < size → Open σ.top a size (row_of σ) → Clear σ a size
open_clear σ a size o s h = (same_test (tells_open σ.top a size (row_of σ)) (tells_fits σ size anywhere a o s tt) h).free

pub clear_open : (σ : State) (a size : ℕ) → Sound σ → 0 < size → Clear σ a size → Open σ.top a size (row_of σ)
clear_open σ a size o s f = same_test (tells_fits σ size anywhere a o s tt) (tells_open σ.top a size (row_of σ)) (clear_fits σ a size f)

-- a free window ends within the pool
pub clear_within : (σ : State) (a size : ℕ) → 0 < size → Clear σ a size → a + size ≤ σ.top
clear_within σ a size s f = omega (arith, (f (a + (size - 1)) (omega arith) (omega arith)).below)

-- so its last address is computed without a wrap
pub clear_end : (p : Pool) (a size : ℕ) → Valid p → 0 < size → Clear p.state a size → (a + (size - 1)) % 2 ^ 64 ≡ a + size - 1
clear_end p a size v s f = mod-eq_of_lt (omega (arith, clear_within p.state a size s f, v.below)) ∙ omega arith

-- ---- a cut

-- the table with the window cut out
pub cut_row : (p : Pool) (a size : ℕ) → Valid p → 0 < size → Clear p.state a size → cut p.state.top a size 1 (row_of p.state) ≡ row_of (granting p.state (window a size))
cut_row p a size v s f = cut_fits p.state size a v.sound s (clear_fits p.state a size f)

pub cut_done : (m : List ℕ) (p : Pool) (a size : ℕ) → Valid p → 0 < size → Clear p.state a size → table.Holds m (with_row (table_of p) (cut p.state.top a size 1 (row_of p.state))) → HasRoom p (window a size) × Holds m (next p (Granted (window a size)))
unfolding HasRoom next granting
cut_done m p a size v s f h =
    let w : table.Holds m (with_row (table_of p) (row_of (granting p.state (window a size)))) = rw (cut_row p a size v s f) at h in
    let r = (holds_proper m (with_row (table_of p) (row_of (granting p.state (window a size)))) w).room in (
      r,
      record {
        table = w;
        valid = record { sound = granting_sound p.state size a v.sound s (clear_fits p.state a size f); below = v.below; within = v.within; room = r; most = v.most };
      },
    )

pub cut_full : (p : Pool) (a size : ℕ) → Valid p → 0 < size → Clear p.state a size → p.limit < length (cut p.state.top a size 1 (row_of p.state)) → HasRoom p (window a size) → ⊥
unfolding HasRoom
cut_full p a size v s f l r = omega (arith, rw (cut_row p a size v s f) at l)

-- ---- a melt

pub melt_done : (m : List ℕ) (p : Pool) (r : RangeInclusive) → Valid p → Memᴰ r p.state.granted → table.Holds m (with_row (table_of p) (melt r.start (row_of p.state))) → Holds m (next p (Freed r))
unfolding next releasing
melt_done m p r v i h =
    let e = melt_granted p.state r v.sound i in
    record {
      table = rw e at h;
      valid = record { sound = releasing_sound p.state r.start v.sound; below = v.below; within = v.within; room = omega (arith, v.room, melt_length r.start (row_of p.state), ap length e); most = v.most };
    }

-- ---- the tile of an address

-- a free tile that has the address is open to a window of one
has_open : (top a s e : ℕ) (row : List Tile) → Has top a s e 0 row → Open top a 1 row
unfolding Has Open
has_open top a s e [] h = h
has_open top a s e (t ∷ row) (inl w) = inl (omega (arith, w.0, w.1, w.2, w.3, w.4))
has_open top a s e (t ∷ row) (inr w) = inr (has_open top a s e row w)

pub has_free : (σ : State) (a s e : ℕ) → Sound σ → Has σ.top a s e 0 (row_of σ) → Free σ a
has_free σ a s e o h = open_clear σ a 1 o (omega arith) (has_open σ.top a s e (row_of σ) h) a (omega arith) (omega arith)

-- a granted tile that has the address is one of the ranges that are read off the row
has_range : (top a s e g : ℕ) (row : List Tile) → (g ≡ 0 → ⊥) → Has top a s e g row → Memᴰ (record { start = s; end = e }) (ranges top row)
unfolding Has ranges
has_range top a s e g [] n h = absurd h
has_range top a s e g (t ∷ row) n (inl w) =
    let q : e ≡ past row top - 1 = omega (arith, w.1) in
    rw (ne_eqb t.tag 0 (λ z. n (sym w.2 ∙ z))) (Memᴰ.head (λ i. record { start = sym w.0 i; end = q i }))
has_range top a s e g (t ∷ row) n (inr w) = go (eqb t.tag 0) (has_range top a s e g row n w)
  where
    go : (b : Bool) → Memᴰ (record { start = s; end = e }) (ranges top row) → Memᴰ (record { start = s; end = e }) (cond b (ranges top row) (record { start = t.start; end = past row top - 1 } ∷ ranges top row))
    go true m = m
    go false m = Memᴰ.tail m

pub has_in : (top a s e g : ℕ) (row : List Tile) → Has top a s e g row → (s ≤ a) × (a ≤ e)
unfolding Has
has_in top a s e g [] h = absurd h
has_in top a s e g (t ∷ row) (inl w) = (w.3, w.4)
has_in top a s e g (t ∷ row) (inr w) = has_in top a s e g row w

pub has_granted : (σ : State) (a s e g : ℕ) → Sound σ → (g ≡ 0 → ⊥) → Has σ.top a s e g (row_of σ) → Memᴰ (record { start = s; end = e }) σ.granted
unfolding row_of
has_granted σ a s e g o n h = rw (ranges_row σ.base σ.top σ.granted o.ordered) at (has_range σ.top a s e g (row_of σ) n h)

-- a granted range has its tile
tile_in : (xs ys : List Tile) (s : ℕ) → tiles.Granted s (xs ++ held s ∷ ys)
unfolding tiles.Granted
tile_in [] ys s = inl (refl, λ z. omega (arith, z))
tile_in (x ∷ xs) ys s = inr (tile_in xs ys s)

pub granted_tile : (σ : State) (r : RangeInclusive) → Sound σ → Memᴰ r σ.granted → tiles.Granted r.start (row_of σ)
granted_tile σ r o i =
    let w = granted_split σ r o i in
    rw w.2 (tile_in w.0 w.1 r.start)
