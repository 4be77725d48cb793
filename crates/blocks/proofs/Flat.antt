-- A block's ranges among all ranges. Assumes nothing.
use Prim.Native.Nat.{ℕ, suc, ◌+◌, ◌-◌, ◌*◌, ◌≤◌, ◌<◌}
use mathlib.Core.Path.{◌≡◌, refl, sym, ◌∙◌}
use mathlib.Core.List.{List, [], ◌∷◌, ◌++◌}
use native.Mathlib.Decide.{dec_lt}
use native.Mathlib.Omega.{arith}
use lib.ListN.{length, get_or, get_or-append, get_or-eq_default}
use Rattle.cells.specs.Cells.{Located}
use Rattle.places.proofs.Searches.{get_d_any}
use Rattle.blocks.specs.Blocks.{blocks_of, top_of, size_at, starts_at, tags_at, past_at, sizes, cells, starts_of, tags_of, index, Sound, Settled, Risen}
use Rattle.blocks.proofs.Parts.{starts_length, tags_length, start_at, start_past, last_inner, last_end, cells_length, cells_cons, three, three_sizes}

-- a cell of a list in the middle of others, and the one behind them
middle : (x y z : List ℕ) (n i d : ℕ) → length x ≡ n → i < length y → get_or (x ++ (y ++ z)) (n + i) d ≡ get_or y i d
middle x y z n i d e h = rw (sym e) (skip x (y ++ z) i d ∙ get_or-append y z d i h)
  where
    skip : (x w : List ℕ) (i d : ℕ) → get_or (x ++ w) (length x + i) d ≡ get_or w i d
    skip [] w i d = let z : 0 + i ≡ i = omega arith in rw z
    skip (_ ∷ x) w i d = let z : suc (length x) + i ≡ suc (length x + i) = omega arith in rw z (skip x w i d)

behind : (x y z : List ℕ) (n k d : ℕ) → length x ≡ n → length y ≡ k → get_or (x ++ (y ++ z)) (n + k) d ≡ get_or z 0 d
behind [] [] z n k d e f = let q : n + k ≡ 0 = omega arith in rw q
behind [] (_ ∷ y) z n k d e f = let q : n + k ≡ suc (0 + length y) = omega arith in rw q (behind [] y z 0 (length y) d refl refl)
behind (_ ∷ x) y z n k d e f = let q : n + k ≡ suc (length x + k) = omega arith in rw q (behind x y z (length x) k d refl f)

module _ (m : List ℕ) (sound : Sound m) where
  -- as many starts as tags
  pub all_starts : length (starts_of m) ≡ sizes 0 (blocks_of m) m
  unfolding starts_of
  all_starts = let s = sound in cells_length 137 0 (blocks_of m) m (omega arith) (omega arith)

  pub all_tags : length (tags_of m) ≡ sizes 0 (blocks_of m) m
  unfolding tags_of
  all_tags = let s = sound in cells_length 201 0 (blocks_of m) m (omega arith) (omega arith)

  pub all_as_many : length (starts_of m) ≡ length (tags_of m)
  all_as_many = all_starts ∙ sym all_tags

  module _ (b : ℕ) (h : b < blocks_of m) where
    front : (o : ℕ) → o ≤ 201 → length (cells o 0 b m) ≡ sizes 0 b m
    front o l = let s = sound in cells_length o 0 b m l (omega arith)

    -- range i of block b
    pub flat_start : (i d : ℕ) → i < size_at b m → get_or (starts_of m) (index b i m) d ≡ get_or (starts_at b m) i d
    unfolding starts_of index
    flat_start i d l = rw (three m b (blocks_of m) h 137) (middle (cells 137 0 b m) (starts_at b m) (cells 137 (b + 1) (blocks_of m - (b + 1)) m) (sizes 0 b m) i d (front 137 (omega arith)) (omega (arith, starts_length m sound b h)))

    pub flat_tag : (i d : ℕ) → i < size_at b m → get_or (tags_of m) (index b i m) d ≡ get_or (tags_at b m) i d
    unfolding tags_of index
    flat_tag i d l = rw (three m b (blocks_of m) h 201) (middle (cells 201 0 b m) (tags_at b m) (cells 201 (b + 1) (blocks_of m - (b + 1)) m) (sizes 0 b m) i d (front 201 (omega arith)) (omega (arith, tags_length m sound b h)))

    pub flat_within : (i : ℕ) → i < size_at b m → index b i m < sizes 0 (blocks_of m) m
    unfolding index
    flat_within i l = omega (arith, three_sizes m b (blocks_of m) h)

    -- behind the last range of block b
    flat_behind : (d : ℕ) → get_or (starts_of m) (index b (size_at b m) m) d ≡ get_or (cells 137 (b + 1) (blocks_of m - (b + 1)) m) 0 d
    unfolding starts_of index
    flat_behind d = rw (three m b (blocks_of m) h 137) (behind (cells 137 0 b m) (starts_at b m) (cells 137 (b + 1) (blocks_of m - (b + 1)) m) (sizes 0 b m) (size_at b m) d (front 137 (omega arith)) (starts_length m sound b h))

-- no block has no range
none_left : (m : List ℕ) (b k : ℕ) → k ≡ 0 → sizes b k m ≡ 0
unfolding sizes
none_left m b k e = rw e

-- the first start of a block that is not empty
pub first_of : (m : List ℕ) → Sound m → (b d : ℕ) → b < blocks_of m → 0 < size_at b m → get_or (cells 137 b (blocks_of m - b) m) 0 d ≡ get_or m (137 + b * 129) 0
first_of m sound b d h p =
    let z : 137 + b * 129 + 0 ≡ 137 + b * 129 = omega arith in
    rw (cells_cons m b (blocks_of m) h 137) (get_or-append (starts_at b m) (cells 137 (b + 1) (blocks_of m - (b + 1)) m) d 0 (omega (arith, starts_length m sound b h)) ∙ start_at m sound b h 0 d p ∙ rw z)

-- where no block is empty, and none but the first starts at 0
module _ (m : List ℕ) (settled : Settled m) (b : ℕ) (h : b < blocks_of m) where
  -- the first start of the next block, which is a start of the table's
  pub flat_first : (d : ℕ) → b + 1 < blocks_of m → get_or (starts_of m) (index b (size_at b m) m) d ≡ get_or m (137 + (b + 1) * 129) 0
  flat_first d q = flat_behind m settled.sound b h d ∙ first_of m settled.sound (b + 1) d q (settled.some (b + 1) q)

  pub flat_end : (d : ℕ) → blocks_of m ≤ b + 1 → get_or (starts_of m) (index b (size_at b m) m) d ≡ d
  unfolding index
  flat_end d q =
      let z : b + 1 ≡ blocks_of m = omega arith in
      let y : blocks_of m - (b + 1) ≡ 0 = omega arith in
      get_or-eq_default (starts_of m) d (omega (arith, all_starts m settled.sound, three_sizes m b (blocks_of m) h, none_left m (b + 1) (blocks_of m - (b + 1)) y))

  -- where range i ends
  pub flat_next : Risen m → (i : ℕ) → i < size_at b m → get_or (starts_of m) (index b i m + 1) (top_of m) ≡ get_or (starts_at b m) (i + 1) (past_at b m)
  unfolding index Risen
  flat_next risen i l =
      let z : sizes 0 b m + i + 1 ≡ sizes 0 b m + (i + 1) = omega arith in
      rw z (elim (dec_lt (i + 1) (size_at b m)) [
        | yes p ↦ flat_start m settled.sound b h (i + 1) (top_of m) p ∙ get_d_any (starts_at b m) (i + 1) (top_of m) (past_at b m) (omega (arith, starts_length m settled.sound b h))
        | no p ↦
            let e : i + 1 ≡ size_at b m = omega arith in
            rw e (past ∙ sym (start_past m settled.sound b h (size_at b m) (past_at b m) (omega arith)))
      ])
    where
      past : get_or (starts_of m) (sizes 0 b m + size_at b m) (top_of m) ≡ past_at b m
      past =
          elim (dec_lt (b + 1) (blocks_of m)) [
            | yes q ↦ flat_first (top_of m) q ∙ omega (arith, last_inner m b q, risen b q)
            | no q ↦ flat_end (top_of m) (omega arith) ∙ omega (arith, last_end m b (omega arith))
          ]

  -- an address located in block b is located among all
  pub flat_located : (a i : ℕ) → Located (starts_at b m) a i → (b + 1 < blocks_of m → a < get_or m (137 + (b + 1) * 129) 0) → Located (starts_of m) a (index b i m)
  unfolding index
  flat_located a i l f =
      let n = starts_length m settled.sound b h in
      let w : i < size_at b m = omega (arith, l.within) in
      record {
        within = omega (arith, all_starts m settled.sound, flat_within m settled.sound b h i w);
        from = rw (flat_start m settled.sound b h i 0 w) l.from;
        to = λ q. next w q;
      }
    where
      next : i < size_at b m → index b i m + 1 < length (starts_of m) → a < get_or (starts_of m) (index b i m + 1) 0
      next w q =
          let z : sizes 0 b m + i + 1 ≡ sizes 0 b m + (i + 1) = omega arith in
          rw z (elim (dec_lt (i + 1) (size_at b m)) [
            | yes p ↦ rw (flat_start m settled.sound b h (i + 1) 0 p) (l.to (omega (arith, starts_length m settled.sound b h)))
            | no p ↦
                let e : i + 1 ≡ size_at b m = omega arith in
                elim (dec_lt (b + 1) (blocks_of m)) [
                  | yes r ↦ rw e (rw (flat_first 0 r) (f r))
                  | no r ↦ absurd (omega (arith, all_starts m settled.sound, three_sizes m b (blocks_of m) h, none_left m (b + 1) (blocks_of m - (b + 1)) (omega arith)))
                ]
          ])

-- the first start of all
pub flat_zero : (m : List ℕ) → Settled m → (d : ℕ) → get_or (starts_of m) 0 d ≡ get_or m 137 0
unfolding starts_of
flat_zero m settled d =
    let s = settled.sound in
    let z : blocks_of m - 0 ≡ blocks_of m = omega arith in
    rw z at (first_of m s 0 d s.one (settled.some 0 s.one))
