-- How many words a limit takes, and that what `make` writes is a table of one free range. Assumes nothing.
use Prim.Native.Nat.{ℕ, ◌+◌, ◌-◌, ◌*◌, ◌/◌, ◌%◌, ◌^◌, ◌≤◌, ◌<◌}
use mathlib.Core.Path.{◌≡◌, refl, sym, ap, ◌∙◌}
use mathlib.Core.List.{List, [], ◌∷◌, ◌++◌}
use native.Mathlib.Omega.{arith}
use Rattle.std.proofs.Common.{min}
use native.Mathlib.Decide.{ℕ_discrete, dec_le}
use borrow.Author.Tests.{lt-leb, le-leb, eq-eqb, ne_eqb}
use lib.ListN.{length, get_or, take, drop, set, length-set}
use lib.Seq.{get_or-set_other, get_or-set_same, drop-cons}
use Rattle.table.specs.Row.{Covers}
use Rattle.table.specs.Table.{fresh}
use Rattle.blocks.specs.Blocks.{mark, blocks_of, size_at, bound_at, starts_at, past_at, sizes, cells, starts_of, tags_of, Within, Sound, Settled, Bounded}
use Rattle.blocks.proofs.Parts.{start_at, start_past, starts_length, last_end}
use Rattle.table.specs.Layout.{words_for, row_of, row_in, Holds}

-- no words for no limit, and for one that is too great
pub words_zero : (l : ℕ) → l ≡ 0 → 0 ≡ words_for l
unfolding words_for
words_zero l e = rw (eq-eqb l 0 e)

pub words_many : (l : ℕ) → 4096 < l → 0 ≡ words_for l
unfolding words_for
words_many l h = rw (ne_eqb l 0 (λ e. omega arith), lt-leb l 4096 h)

pub words_for_lem : (l : ℕ) → 0 < l → l ≤ 4096 → 136 + (l + 31) / 32 * 193 ≡ words_for l
unfolding words_for
words_for_lem l p h = rw (ne_eqb l 0 (λ e. omega arith), le-leb l 4096 h)

-- the code's blocks for a limit
pub ceil : (l n : ℕ) → n ≡ l / 32 + min 1 (l % 32) → n ≡ (l + 31) / 32
ceil l n e = elim (ℕ_discrete (l % 32) 0) [
  | yes z ↦ let k : min 1 (l % 32) ≡ 0 = rw z refl in omega (arith, k)
  | no z ↦ let k : min 1 (l % 32) ≡ 1 = grind arith in omega (arith, k)
]

-- so there are words just for the limits from 1 to 4,096
pub words_none : (l : ℕ) → words_for l ≡ 0 → 0 < l → l ≤ 4096 → ⊥
words_none l e p h = omega (arith, words_for_lem l p h)

pub words_some : (l : ℕ) → (words_for l ≡ 0 → ⊥) → (0 < l) × (l ≤ 4096)
words_some l n = elim (ℕ_discrete l 0) [ yes e ↦ absurd (n (sym (words_zero l e))) | no z ↦ elim (dec_le l 4096) [ yes h ↦ (omega arith, h) | no h ↦ absurd (n (sym (words_many l (omega arith)))) ] ]

-- which are more than the words that `make` writes
pub words_long : (l n : ℕ) → n ≡ words_for l → (n ≡ 0 → ⊥) → (329 ≤ n) × (l ≤ 4096)
words_long l n e z = let k = words_some l (λ f. z (e ∙ f)) in (omega (arith, words_for_lem l k.0 k.1), k.1)

-- a stretch of one cell
one_cell : (m : List ℕ) (k : ℕ) → k < length m → take 1 (drop k m) ≡ get_or m k 0 ∷ []
one_cell m k h = ap (take 1) (drop-cons m k 0 h)

-- a store further on
late : (x : List ℕ) (i v k : ℕ) → k < i → get_or (set x i v) k 0 ≡ get_or x k 0
late x i v k h = get_or-set_other x i k v 0 (λ e. omega arith)

module _ (m : List ℕ) (base last limit : ℕ) where
  abbrev room : ℕ
  room = (limit + 31) / 32

  abbrev m0 : List ℕ
  m0 = set m 0 room

  abbrev m1 : List ℕ
  m1 = set m0 1 1

  abbrev m2 : List ℕ
  m2 = set m1 2 base

  abbrev m3 : List ℕ
  m3 = set m2 3 last

  abbrev m4 : List ℕ
  m4 = set m3 4 1

  abbrev m5 : List ℕ
  m5 = set m4 5 limit

  abbrev m6 : List ℕ
  m6 = set m5 6 mark

  abbrev m8 : List ℕ
  m8 = set m6 8 (last - base)

  abbrev m136 : List ℕ
  m136 = set m8 136 1

  abbrev m137 : List ℕ
  m137 = set m136 137 base

  abbrev m201 : List ℕ
  m201 = set m137 201 0

  abbrev pub made : List ℕ
  made = m201

  module _ (order : base ≤ last) (end : last < 2 ^ 64) (some : 0 < limit) (most : limit ≤ 4096) (long : 136 + (limit + 31) / 32 * 193 ≤ length m) where
    rooms : (0 < room) × (room ≤ 128) × (limit ≤ room * 32)
    rooms = (omega arith, omega arith, omega arith)

    wide : 201 < length m
    wide = omega (arith, rooms.0)

    made_length : length made ≡ length m
    made_length = simp length-set

    at_0 : get_or made 0 0 ≡ room
    at_0 =
        late m137 201 0 0 (omega arith)
        ∙ late m136 137 base 0 (omega arith)
        ∙ late m8 136 1 0 (omega arith)
        ∙ late m6 8 (last - base) 0 (omega arith)
        ∙ late m5 6 mark 0 (omega arith)
        ∙ late m4 5 limit 0 (omega arith)
        ∙ late m3 4 1 0 (omega arith)
        ∙ late m2 3 last 0 (omega arith)
        ∙ late m1 2 base 0 (omega arith)
        ∙ late m0 1 1 0 (omega arith)
        ∙ get_or-set_same m 0 room 0 (omega (arith, wide))

    at_1 : get_or made 1 0 ≡ 1
    at_1 =
        late m137 201 0 1 (omega arith)
        ∙ late m136 137 base 1 (omega arith)
        ∙ late m8 136 1 1 (omega arith)
        ∙ late m6 8 (last - base) 1 (omega arith)
        ∙ late m5 6 mark 1 (omega arith)
        ∙ late m4 5 limit 1 (omega arith)
        ∙ late m3 4 1 1 (omega arith)
        ∙ late m2 3 last 1 (omega arith)
        ∙ late m1 2 base 1 (omega arith)
        ∙ get_or-set_same m0 1 1 0 (simp length-set (omega (arith, wide)))

    at_2 : get_or made 2 0 ≡ base
    at_2 =
        late m137 201 0 2 (omega arith)
        ∙ late m136 137 base 2 (omega arith)
        ∙ late m8 136 1 2 (omega arith)
        ∙ late m6 8 (last - base) 2 (omega arith)
        ∙ late m5 6 mark 2 (omega arith)
        ∙ late m4 5 limit 2 (omega arith)
        ∙ late m3 4 1 2 (omega arith)
        ∙ late m2 3 last 2 (omega arith)
        ∙ get_or-set_same m1 2 base 0 (simp length-set (omega (arith, wide)))

    at_3 : get_or made 3 0 ≡ last
    at_3 =
        late m137 201 0 3 (omega arith)
        ∙ late m136 137 base 3 (omega arith)
        ∙ late m8 136 1 3 (omega arith)
        ∙ late m6 8 (last - base) 3 (omega arith)
        ∙ late m5 6 mark 3 (omega arith)
        ∙ late m4 5 limit 3 (omega arith)
        ∙ late m3 4 1 3 (omega arith)
        ∙ get_or-set_same m2 3 last 0 (simp length-set (omega (arith, wide)))

    at_4 : get_or made 4 0 ≡ 1
    at_4 =
        late m137 201 0 4 (omega arith)
        ∙ late m136 137 base 4 (omega arith)
        ∙ late m8 136 1 4 (omega arith)
        ∙ late m6 8 (last - base) 4 (omega arith)
        ∙ late m5 6 mark 4 (omega arith)
        ∙ late m4 5 limit 4 (omega arith)
        ∙ get_or-set_same m3 4 1 0 (simp length-set (omega (arith, wide)))

    at_5 : get_or made 5 0 ≡ limit
    at_5 =
        late m137 201 0 5 (omega arith)
        ∙ late m136 137 base 5 (omega arith)
        ∙ late m8 136 1 5 (omega arith)
        ∙ late m6 8 (last - base) 5 (omega arith)
        ∙ late m5 6 mark 5 (omega arith)
        ∙ get_or-set_same m4 5 limit 0 (simp length-set (omega (arith, wide)))

    at_6 : get_or made 6 0 ≡ mark
    at_6 =
        late m137 201 0 6 (omega arith)
        ∙ late m136 137 base 6 (omega arith)
        ∙ late m8 136 1 6 (omega arith)
        ∙ late m6 8 (last - base) 6 (omega arith)
        ∙ get_or-set_same m5 6 mark 0 (simp length-set (omega (arith, wide)))

    at_8 : get_or made 8 0 ≡ (last - base)
    at_8 =
        late m137 201 0 8 (omega arith)
        ∙ late m136 137 base 8 (omega arith)
        ∙ late m8 136 1 8 (omega arith)
        ∙ get_or-set_same m6 8 (last - base) 0 (simp length-set (omega (arith, wide)))

    at_136 : get_or made 136 0 ≡ 1
    at_136 =
        late m137 201 0 136 (omega arith)
        ∙ late m136 137 base 136 (omega arith)
        ∙ get_or-set_same m8 136 1 0 (simp length-set (omega (arith, wide)))

    at_137 : get_or made 137 0 ≡ base
    at_137 =
        late m137 201 0 137 (omega arith)
        ∙ get_or-set_same m136 137 base 0 (simp length-set (omega (arith, wide)))

    at_201 : get_or made 201 0 ≡ 0
    at_201 =
        get_or-set_same m137 201 0 0 (simp length-set (omega (arith, wide)))

    size_is : size_at 0 made ≡ 1
    size_is = ap (λ (n : ℕ). n % 64) at_136

    only : (b : ℕ) → b < blocks_of made → b ≡ 0
    only b h = omega (arith, at_4)

    made_sound : Sound made
    made_sound = record { marked = at_6; few = omega (arith, at_0, rooms.1); used = omega (arith, at_0, at_4, rooms.0); one = omega (arith, at_4); long = rw (at_0, made_length) long; count = omega (arith, at_1, at_5); limit = omega (arith, at_0, at_5, rooms.2) }

    made_settled : Settled made
    unfolding sizes
    made_settled = record { sound = made_sound; some = λ b h. rw (only b h) (omega (arith, size_is)); spare = λ b h. rw (only b h) (omega (arith, size_is)); total = rw (at_4, at_1) (omega (arith, size_is)) }

    -- the one range
    made_starts : starts_of made ≡ base ∷ []
    unfolding starts_of cells
    made_starts = rw (at_4, size_is) (ap (λ (l : List ℕ). l ++ []) (one_cell made 137 (rw made_length (omega (arith, wide))) ∙ ap (λ (x : ℕ). x ∷ []) at_137))

    made_tags : tags_of made ≡ 0 ∷ []
    unfolding tags_of cells
    made_tags = rw (at_4, size_is) (ap (λ (l : List ℕ). l ++ []) (one_cell made 201 (rw made_length (omega (arith, wide))) ∙ ap (λ (x : ℕ). x ∷ []) at_201))

    made_row : row_in made ≡ record { start = base; tag = 0 } ∷ []
    unfolding row_in row_of
    made_row = rw (made_starts, made_tags)

    made_bounded : Bounded made
    unfolding Bounded Within
    made_bounded b h i l f = rw (only b h) (within (omega (arith, starts_length made made_sound 0 (omega (arith, at_4)), rw (only b h) at l, size_is)))
      where
        within : i ≡ 0 → get_or (starts_at 0 made) (i + 1) (past_at 0 made) ≤ get_or (starts_at 0 made) i 0 + bound_at 0 made + 1
        within e =
            let h₀ : 0 < blocks_of made = omega (arith, at_4) in
            rw e (omega (arith, start_past made made_sound 0 h₀ 1 (past_at 0 made) (omega (arith, size_is)), start_at made made_sound 0 h₀ 0 0 (omega (arith, size_is)), at_137, at_8, last_end made 0 (omega (arith, at_4)), at_3))

    pub made_holds : Holds made (fresh base last limit)
    unfolding Holds Covers
    made_holds = (
      record { settled = made_settled; bounded = made_bounded; limit_is = at_5; base_is = at_2; top_is = ap (λ (x : ℕ). x + 1) at_3; row_is = made_row },
      record { covers = (refl, omega arith); room = omega arith; some = some; most = most; below = omega arith },
    )
