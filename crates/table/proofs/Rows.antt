-- A row as two lists, of starts and of tags, part by part. Assumes nothing.
use Prim.Native.Nat.{ℕ, zero, suc, ◌<◌}
use mathlib.Core.Path.{◌≡◌, refl, sym, ap}
use mathlib.Core.List.{List, [], ◌∷◌, ◌++◌}
use native.Mathlib.Omega.{arith}
use lib.ListN.{length, get_or, take, drop, set}
use Rattle.table.specs.Row.{Tile, past}
use Rattle.table.specs.Layout.{row_of}

-- the first address past a tile is the next one's start, or the default
pub past_row : (ss ts : List ℕ) (top : ℕ) → length ss ≡ length ts → past (row_of ss ts) top ≡ get_or ss 0 top
unfolding row_of past
past_row [] ts top e = refl
past_row (s ∷ ss) [] top e = absurd (omega arith)
past_row (s ∷ ss) (t ∷ ts) top e = refl

row_nil : (ss : List ℕ) → row_of ss [] ≡ []
unfolding row_of
row_nil [] = refl
row_nil (s ∷ ss) = refl

pub row_append : (a b c d : List ℕ) → length a ≡ length c → row_of (a ++ b) (c ++ d) ≡ row_of a c ++ row_of b d
unfolding row_of
row_append [] b [] d e = refl
row_append [] b (y ∷ c) d e = absurd (omega arith)
row_append (x ∷ a) b [] d e = absurd (omega arith)
row_append (x ∷ a) b (y ∷ c) d e = ap (λ (l : List Tile). record { start = x; tag = y } ∷ l) (row_append a b c d (omega arith))

pub row_take : (i : ℕ) (ss ts : List ℕ) → take i (row_of ss ts) ≡ row_of (take i ss) (take i ts)
unfolding row_of
row_take zero ss ts = refl
row_take (suc i) [] ts = refl
row_take (suc i) (s ∷ ss) [] = refl
row_take (suc i) (s ∷ ss) (t ∷ ts) = ap (λ (l : List Tile). record { start = s; tag = t } ∷ l) (row_take i ss ts)

pub row_drop : (i : ℕ) (ss ts : List ℕ) → drop i (row_of ss ts) ≡ row_of (drop i ss) (drop i ts)
unfolding row_of
row_drop zero ss ts = refl
row_drop (suc i) [] ts = refl
row_drop (suc i) (s ∷ ss) [] = sym (row_nil (drop i ss))
row_drop (suc i) (s ∷ ss) (t ∷ ts) = row_drop i ss ts

pub row_set : (i : ℕ) (ss ts : List ℕ) (s t : ℕ) → row_of (set ss i s) (set ts i t) ≡ set (row_of ss ts) i (record { start = s; tag = t })
unfolding row_of
row_set i [] ts s t = refl
row_set zero (x ∷ ss) [] s t = refl
row_set (suc i) (x ∷ ss) [] s t = refl
row_set zero (x ∷ ss) (y ∷ ts) s t = refl
row_set (suc i) (x ∷ ss) (y ∷ ts) s t = ap (λ (l : List Tile). record { start = x; tag = y } ∷ l) (row_set i ss ts s t)

pub row_length : (ss ts : List ℕ) → length ss ≡ length ts → length (row_of ss ts) ≡ length ss
unfolding row_of
row_length [] ts e = refl
row_length (s ∷ ss) [] e = absurd (omega arith)
row_length (s ∷ ss) (t ∷ ts) e = ap suc (row_length ss ts (omega arith))

-- a tile of a row
pub row_get : (ss ts : List ℕ) (i : ℕ) (d : Tile) → length ss ≡ length ts → i < length ss → get_or (row_of ss ts) i d ≡ record { start = get_or ss i 0; tag = get_or ts i 0 }
unfolding row_of
row_get [] ts i d e h = absurd (omega arith)
row_get (s ∷ ss) [] i d e h = absurd (omega arith)
row_get (s ∷ ss) (t ∷ ts) zero d e h = refl
row_get (s ∷ ss) (t ∷ ts) (suc i) d e h = row_get ss ts i d (omega arith) (omega arith)
