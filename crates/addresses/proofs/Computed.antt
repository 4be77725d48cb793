-- The answers of the operations, computed from the table, and the table after an answer: what the code does, as functions on the list of its tiles.
-- AnswerLaws proves that they are the answers that Operations states, and the only ones.
use Rattle.std.proofs.Common.{ℕ, suc, ◌+◌, ◌-◌, ◌%◌, ◌^◌, Bool, true, false, cond, eqb, ltb, leb, List, [], ◌∷◌, length}
use mathlib.Core.Option.{Option, none, some}
use lib.Count.{ones}
use Rattle.table.specs.Row.{Tile, past, lowest, highest, cut, melt}
use Rattle.addresses.specs.declared.Answer.{Answer}
use Rattle.addresses.specs.declared.Answer.TheVariants.{Granted, Freed, Refused}
use Rattle.ranges.specs.declared.AllocPolicy.{AllocPolicy}
use Rattle.ranges.specs.declared.AllocPolicy.TheVariants.{FirstMatch, LastMatch, ExactMatch}
use Rattle.ranges.specs.declared.Constraint.{Constraint}
use Rattle.ranges.specs.declared.Error.TheVariants.{InvalidSize, InvalidAlignment, UnalignedAddress, ResourceNotAvailable, Overflow, NoRoom, InvalidRange}
use Rattle.ranges.specs.declared.RangeInclusive.{RangeInclusive}
use Rattle.addresses.specs.Meaning.{window}
use Rattle.table.specs.Multiples.{up, below}
use Rattle.addresses.proofs.RowLaws.{ranges}
use Rattle.addresses.specs.Operations.{M}
use Rattle.addresses.specs.Runs.{Operation, Allocate, Release}

-- two tests at once, and one test or another
abbrev pub both : Bool → Bool → Bool
both b c = cond b c false

abbrev pub either : Bool → Bool → Bool
either b c = cond b true c

-- k is a power of two: one of its binary digits is 1
unfoldable pub is_power : ℕ → Bool
is_power k = eqb (ones k) 1

-- an exact address is a multiple of the alignment
unfoldable pub is_aligned : ℕ → AllocPolicy → Bool
is_aligned k FirstMatch = true
is_aligned k LastMatch = true
is_aligned k (ExactMatch at) = eqb (at % k) 0

-- the `size` addresses from a lie in one free tile
unfoldable pub is_open : ℕ → ℕ → ℕ → List Tile → Bool
unfolding past
is_open top a size [] = false
is_open top a size (t ∷ row) = either (both (eqb t.tag 0) (both (leb t.start a) (leb (a + size) (past row top)))) (is_open top a size row)

unfoldable pub is_beyond : AllocPolicy → ℕ → ℕ → List Tile → Bool
unfolding is_open
is_beyond FirstMatch top size row = false
is_beyond LastMatch top size row = false
is_beyond (ExactMatch at) top size row = both (is_open top at 1 row) (ltb M (at + size - 1))

-- the place that a policy chooses
unfoldable pub place : AllocPolicy → ℕ → ℕ → (ℕ → ℕ) → (ℕ → Option ℕ) → List Tile → Option ℕ
unfolding lowest highest is_open
place FirstMatch top size least greatest row = lowest top size least row
place LastMatch top size least greatest row = highest top size greatest row
place (ExactMatch at) top size least greatest row = cond (is_open top at size row) (some at) none

-- the answer once the place is known
unfoldable pub grant : ℕ → ℕ → List Tile → Constraint → Option ℕ → Answer
unfolding cut is_beyond
grant top limit row q (some a) = cond (leb (length (cut top a q.size 1 row)) limit) (Granted (window a q.size)) (Refused NoRoom)
grant top limit row q none = cond (is_beyond q.policy top q.size row) (Refused Overflow) (Refused ResourceNotAvailable)

-- allocate
unfoldable pub allocate : ℕ → ℕ → List Tile → Constraint → Answer
unfolding is_power is_aligned grant place up below
allocate top limit row q =
    cond (eqb q.size 0) (Refused InvalidSize)
    (cond (is_power q.align)
    (cond (is_aligned q.align q.policy) (grant top limit row q (place q.policy top q.size (up q.align) (below q.align) row)) (Refused UnalignedAddress))
    (Refused InvalidAlignment))

-- free
unfoldable pub is_range : RangeInclusive → Bool
is_range r = both (leb r.start r.end) (ltb (r.end - r.start + 1) (2 ^ 64))

unfoldable pub is_member : RangeInclusive → List RangeInclusive → Bool
is_member r [] = false
is_member r (q ∷ qs) = either (both (eqb r.start q.start) (eqb r.end q.end)) (is_member r qs)

unfoldable pub release : ℕ → List Tile → RangeInclusive → Answer
unfolding is_range is_member ranges
release top row r = cond (is_range r) (cond (is_member r (ranges top row)) (Freed r) (Refused ResourceNotAvailable)) (Refused InvalidRange)

-- an operation, and the table after its answer
unfoldable pub answer : ℕ → ℕ → List Tile → Operation → Answer
unfolding allocate release
answer top limit row (Allocate q) = allocate top limit row q
answer top limit row (Release r) = release top row r

unfoldable pub row_after : ℕ → List Tile → Answer → List Tile
unfolding cut melt
row_after top row (Granted r) = cut top r.start (suc r.end - r.start) 1 row
row_after top row (Freed r) = melt r.start row
row_after top row (Refused e) = row

-- a list of operations: the answers, and the last table
unfoldable pub answered : ℕ → ℕ → List Tile → List Operation → List Answer
unfolding answer row_after
answered top limit row [] = []
answered top limit row (o ∷ os) = let x = answer top limit row o in x ∷ answered top limit (row_after top row x) os

unfoldable pub last_row : ℕ → ℕ → List Tile → List Operation → List Tile
unfolding answer row_after
last_row top limit row [] = row
last_row top limit row (o ∷ os) = last_row top limit (row_after top row (answer top limit row o)) os
