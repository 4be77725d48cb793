-- What an address allocator means, said of addresses and of nothing else. This file, Operations and Runs are what a reader has to believe.
use Rattle.std.specs.Prelude.{ℕ, suc, ◌+◌, ◌-◌, ◌<◌, ◌≤◌, cond, List, [], ◌∷◌, ◌++◌, ◌==◌, nat_lt}
use mathlib.Core.List.{Memᴰ}
use Rattle.ranges.specs.declared.RangeInclusive.{RangeInclusive}
use Rattle.ranges.specs.Range.{In}
use Rattle.table.specs.Row.{Tile}

-- a pool of the addresses from `base` up to, not including, `top`, and the ranges that are granted now
pub record State : Type 0 where
  pub base : ℕ
  pub top : ℕ
  pub granted : List RangeInclusive

-- address x is in the pool and in no granted range
pub record Free (σ : State) (x : ℕ) : Type 0 where
  pub above : σ.base ≤ x
  pub below : x < σ.top
  pub unheld : (r : RangeInclusive) → Memᴰ r σ.granted → In x r → ⊥

-- a window of `size` addresses may start at a: a is an allowed start, and each address of the window is free
pub record Fits (σ : State) (size : ℕ) (Ok : ℕ → Type 0) (a : ℕ) : Type 0 where
  pub allowed : Ok a
  pub free : (x : ℕ) → a ≤ x → x < a + size → Free σ x

-- a is the least number that has P
unfoldable pub Least : (ℕ → Type 0) → ℕ → Type 0
Least P a = P a × ((b : ℕ) → P b → a ≤ b)

-- a is the greatest number that has P
unfoldable pub Greatest : (ℕ → Type 0) → ℕ → Type 0
Greatest P a = P a × ((b : ℕ) → P b → b ≤ a)

-- the granted ranges, from `from` up to `top`: in order, apart, none empty
unfoldable pub Ordered : ℕ → ℕ → List RangeInclusive → Type 0
Ordered from top [] = from ≤ top
Ordered from top (r ∷ rs) = (from ≤ r.start) × (r.start ≤ r.end) × Ordered (suc r.end) top rs

-- what is so of a state after any operations
pub record Sound (σ : State) : Type 0 where
  pub some : σ.base < σ.top
  pub ordered : Ordered σ.base σ.top σ.granted

-- the granted ranges with one more
unfoldable pub insert : RangeInclusive → List RangeInclusive → List RangeInclusive
insert q [] = q ∷ []
insert q (r ∷ rs) = cond (nat_lt q.start r.start) (q ∷ r ∷ rs) (r ∷ insert q rs)

-- the granted ranges without the one that starts at s
unfoldable pub remove : ℕ → List RangeInclusive → List RangeInclusive
remove s [] = []
remove s (r ∷ rs) = cond (r.start == s) rs (r ∷ remove s rs)

-- the range of the `size` addresses from a
abbrev pub window : ℕ → ℕ → RangeInclusive
window a size = record { start = a; end = a + size - 1 }

-- the state after q is granted
unfoldable pub granting : State → RangeInclusive → State
unfolding insert
granting σ q = record { base = σ.base; top = σ.top; granted = insert q σ.granted }

-- the state after the range that starts at s is given back
unfoldable pub releasing : State → ℕ → State
unfolding remove
releasing σ s = record { base = σ.base; top = σ.top; granted = remove s σ.granted }

-- the free range between two granted ones, where there is an address between them
unfoldable pub gap : ℕ → ℕ → List Tile
gap from to = cond (nat_lt from to) (record { start = from; tag = 0 } ∷ []) []

-- the granted ranges and the gaps between them, from `from` on
unfoldable pub row_from : ℕ → ℕ → List RangeInclusive → List Tile
unfolding gap
row_from from top [] = gap from top
row_from from top (r ∷ rs) = gap from r.start ++ record { start = r.start; tag = 1 } ∷ row_from (suc r.end) top rs

-- the row of a state, free and granted ranges together: what a table holds, and how many it must have room for
unfoldable pub row_of : State → List Tile
unfolding row_from
row_of σ = row_from σ.base σ.top σ.granted
