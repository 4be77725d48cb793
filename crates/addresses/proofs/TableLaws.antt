-- For the code, which has the table and no state: the pool that a table stands for, and an operation on the table.
--     read_back                     the table of a pool stands for that pool
--     table_pool                    each table that covers, with tags 0 and 1, is the table of the pool that it stands for
--     step_row, step_table          the answer that is computed from a table, and the table after it, are those of its pool
-- Assumes nothing.
use Rattle.std.proofs.Common.{◌≡◌, ℕ, suc, ◌+◌, ◌<◌, ◌≤◌, Bool, true, false, cond, ltb, List, [], ◌∷◌, length, ap, ⊎_elim, arith}
use mathlib.Core.List.Memᴰ
use mathlib.Core.List.{Memᴰ}
use Rattle.table.specs.Row.{Tile, Covers}
use Rattle.addresses.specs.declared.Answer.{Answer}
use Rattle.ranges.specs.declared.RangeInclusive.{RangeInclusive}
use Rattle.addresses.specs.Meaning.{State, Sound, gap, row_from, row_of}
use Rattle.addresses.proofs.Room.{state}
use Rattle.addresses.proofs.Moves.{free, held}
use Rattle.addresses.proofs.RowLaws.{covers_row, ranges, ranges_row}
use Rattle.addresses.proofs.Tiles.{covers_state}
use Rattle.addresses.specs.Operations.{M, Pool, next}
use Rattle.addresses.specs.Runs.{Operation, Does, Valid}
use Rattle.addresses.proofs.Computed.{answer, row_after}
use Rattle.addresses.proofs.ComputedLaws.{does}
use Rattle.addresses.proofs.PoolLaws.{next_same, next_sound, next_row}

-- the pool that a table stands for
abbrev pub pool_of : ℕ → ℕ → ℕ → List Tile → Pool
pool_of base top limit row = record { state = state base top (ranges top row); limit = limit }

-- the theorem: a pool written as its table and read back is the same pool
pub read_back : (p : Pool) → Sound p.state → pool_of p.state.base p.state.top p.limit (row_of p.state) ≡ p
unfolding row_of
read_back p o = λ i. record { state = state p.state.base p.state.top (ranges_row p.state.base p.state.top p.state.granted o.ordered i); limit = p.limit }

-- a table of a pool: it covers the pool, and its tags are 0 and 1
pub record Table (base top : ℕ) (row : List Tile) : Type 0 where
  pub some : base < top
  pub covers : Covers base top row
  pub tags : (t : Tile) → Memᴰ t row → t.tag ≤ 1

-- it is the table of the pool that it stands for
pub table_pool : (base top limit : ℕ) (row : List Tile) → Table base top row → Sound (pool_of base top limit row).state × (row_of (pool_of base top limit row).state ≡ row)
table_pool base top limit row t = covers_state base top row t.some t.covers t.tags

pub table_valid : (base top limit : ℕ) (row : List Tile) → Table base top row → top ≤ M + 1 → top ≤ base + M → length row ≤ limit → limit ≤ 4096 → Valid (pool_of base top limit row)
table_valid base top limit row t a b c d =
    let w = table_pool base top limit row t in
    record { sound = w.0; below = a; within = b; room = rw w.1 c; most = d }

-- the tags of a state's table
gap_tags : (from to : ℕ) (t : Tile) → Memᴰ t (gap from to) → t.tag ≤ 1
unfolding gap
gap_tags from to t m = go (ltb from to) m
  where
    go : (b : Bool) → Memᴰ t (cond b (free from ∷ []) []) → t.tag ≤ 1
    go true n = ⊎_elim (λ (e : t ≡ free from). omega (arith, ap (λ (y : Tile). y.tag) e)) (λ (k : Memᴰ t []). absurd (Memᴰ.not-nil k)) (Memᴰ.cases_cons n)
    go false n = absurd (Memᴰ.not-nil n)

row_tags : (from top : ℕ) (rs : List RangeInclusive) (t : Tile) → Memᴰ t (row_from from top rs) → t.tag ≤ 1
unfolding row_from
row_tags from top [] t m = gap_tags from top t m
row_tags from top (r ∷ rs) t m =
    ⊎_elim
    (λ (n : Memᴰ t (gap from r.start)). gap_tags from r.start t n)
    (λ (n : Memᴰ t (held r.start ∷ row_from (suc r.end) top rs)).
    ⊎_elim (λ (e : t ≡ held r.start). omega (arith, ap (λ (y : Tile). y.tag) e)) (λ (k : Memᴰ t (row_from (suc r.end) top rs)). row_tags (suc r.end) top rs t k) (Memᴰ.cases_cons n))
    (Memᴰ.append_cases (gap from r.start) m)

pub state_table : (σ : State) → Sound σ → Table σ.base σ.top (row_of σ)
unfolding row_of
state_table σ o = record { some = o.some; covers = covers_row σ o; tags = row_tags σ.base σ.top σ.granted }

-- the theorem: what is computed from a table is the answer of its pool, and the table after it is that of the pool after it
pub step_row : (base top limit : ℕ) (row : List Tile) (o : Operation) → Table base top row → Does (pool_of base top limit row) o (answer top limit row o) × (row_of (next (pool_of base top limit row) (answer top limit row o)).state ≡ row_after top row (answer top limit row o))
step_row base top limit row o t =
    let w = table_pool base top limit row t in
    let p : Pool = pool_of base top limit row in
    let d : Does p o (answer top limit row o) = rw w.1 at (does p o w.0) in
    (d, rw w.1 at (next_row p o (answer top limit row o) w.0 d))

-- which is again a table of the pool
pub step_table : (base top limit : ℕ) (row : List Tile) (o : Operation) → Table base top row → Table base top (row_after top row (answer top limit row o))
step_table base top limit row o t =
    let p : Pool = pool_of base top limit row in
    let x : Answer = answer top limit row o in
    let s = step_row base top limit row o t in
    let w = next_sound p o x (table_pool base top limit row t).0 s.0 in
    let e = next_same p x in
    rw (s.1, e.0, e.1) at (state_table (next p x).state w)
