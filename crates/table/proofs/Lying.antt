-- The row in lent words, where they are a table's. Assumes nothing.
use Prim.Native.Nat.{ℕ, ◌+◌, ◌≤◌, ◌<◌}
use mathlib.Core.Path.{◌≡◌, sym, ◌∙◌}
use mathlib.Core.List.{List, ◌++◌}
use native.Mathlib.Omega.{arith}
use lib.ListN.{length, get_or, take, drop, length-take, get_or-eq_default}
use Rattle.blocks.specs.Blocks.{count_of, starts_of, tags_of, index, Settled}
use Rattle.blocks.proofs.Flat.{all_starts, all_tags, flat_within}
use Rattle.splice.specs.Splice.{splice}
use Rattle.table.specs.Layout.{row_of, row_in}
use Rattle.table.proofs.Rows.{row_append, row_take, row_drop, row_length}

module _ (m : List ℕ) (settled : Settled m) where
  -- there are as many starts as tags
  pub starts_length : length (starts_of m) ≡ count_of m
  starts_length = all_starts m settled.sound ∙ settled.total

  pub as_many : length (starts_of m) ≡ length (tags_of m)
  as_many = all_starts m settled.sound ∙ sym (all_tags m settled.sound)

  -- the count is the row's length, and not 0
  pub count_row : count_of m ≡ length (row_in m)
  unfolding row_in
  count_row = sym (row_length (starts_of m) (tags_of m) as_many ∙ starts_length)

  pub many : 0 < count_of m
  many = let s = settled.sound in omega (arith, flat_within m s 0 s.one 0 (settled.some 0 s.one), settled.total)

  -- range i of block b is one of them
  pub in_count : (b i : ℕ) → index b i m < length (starts_of m) → index b i m < count_of m
  in_count b i l = omega (arith, starts_length)

  pub start_past : (j d : ℕ) → count_of m ≤ j → get_or (starts_of m) j d ≡ d
  start_past j d h = get_or-eq_default (starts_of m) d (omega (arith, starts_length))

-- two lists with cells given up for others, as a row
pub row_splice : (x y ns nt : List ℕ) (i by : ℕ) → length x ≡ length y → length ns ≡ length nt → row_of (splice i by ns x) (splice i by nt y) ≡ take i (row_of x y) ++ (row_of ns nt ++ drop (i + by) (row_of x y))
row_splice x y ns nt i by e f =
    row_append (take i x) (ns ++ drop (i + by) x) (take i y) (nt ++ drop (i + by) y) (simp length-take (omega arith))
    ∙ rw (row_append ns (drop (i + by) x) nt (drop (i + by) y) f, row_take i x y, row_drop (i + by) x y)
