-- The parts of lent words that are a block's, and what blocks are together. Assumes nothing.
use Prim.Native.Nat.{ℕ, zero, suc, ◌+◌, ◌-◌, ◌*◌, ◌≤◌, ◌<◌}
use mathlib.Core.Path.{◌≡◌, refl, sym, ap, ◌∙◌}
use mathlib.Core.List.{List, ◌++◌, append_assoc}
use native.Mathlib.Numerals.{add-one}
use native.Mathlib.Nat.{mod-lt}
use native.Mathlib.Omega.{arith}
use borrow.Author.Tests.{lt-ltb, le-ltb}
use lib.ListN.{length, get_or, take, drop, length-take, length-drop, length-append, get_or-eq_default}
use lib.Seq.{get_or-take, get_or-drop, ext_get_or}
use Rattle.places.proofs.Searches.{get_d_any}
use Rattle.blocks.specs.Blocks.{blocks_of, size_at, starts_at, tags_at, last_at, sizes, cells, Sound}

-- a cell of a part
pub part_get : (m : List ℕ) (p n k d : ℕ) → k < n → get_or (take n (drop p m)) k d ≡ get_or m (p + k) d
part_get m p n k d h = get_or-take n (drop p m) k d h ∙ get_or-drop p m k d

pub part_length : (m : List ℕ) (p n : ℕ) → p + n ≤ length m → length (take n (drop p m)) ≡ n
part_length m p n h = simp (length-take, length-drop) (omega arith)

-- two parts with the same cells
pub part_same : (m m' : List ℕ) (p q n : ℕ) → p + n ≤ length m → q + n ≤ length m' → ((k : ℕ) → k < n → get_or m' (q + k) 0 ≡ get_or m (p + k) 0) → take n (drop q m') ≡ take n (drop p m)
part_same m m' p q n h h' e =
    let l = part_length m p n h in
    let l' = part_length m' q n h' in
    ext_get_or 0 (take n (drop q m')) (take n (drop p m)) (l' ∙ sym l) (λ k b. part_get m' q n k 0 (omega arith) ∙ e k (omega arith) ∙ sym (part_get m p n k 0 (omega arith)))

-- a block has fewer than 64 ranges
pub fits : (m : List ℕ) (b : ℕ) → size_at b m < 64
fits m b = mod-lt (get_or m (136 + b * 129) 0) (omega arith)

module _ (m : List ℕ) (sound : Sound m) (b : ℕ) (h : b < blocks_of m) where
  pub block_room : 136 + b * 129 + 129 ≤ length m
  block_room = let s = sound in omega arith

  pub starts_length : length (starts_at b m) ≡ size_at b m
  starts_length = let r = block_room in part_length m (137 + b * 129) (size_at b m) (omega (arith, fits m b))

  pub tags_length : length (tags_at b m) ≡ size_at b m
  tags_length = let r = block_room in part_length m (201 + b * 129) (size_at b m) (omega (arith, fits m b))

  pub as_many : length (starts_at b m) ≡ length (tags_at b m)
  as_many = starts_length ∙ sym tags_length

  -- a start and a tag of block b
  module _ (i d : ℕ) where
    pub start_at : i < size_at b m → get_or (starts_at b m) i d ≡ get_or m (137 + b * 129 + i) 0
    start_at l =
        let r = block_room in
        part_get m (137 + b * 129) (size_at b m) i d l ∙ get_d_any m (137 + b * 129 + i) d 0 (omega (arith, fits m b))

    pub tag_at : i < size_at b m → get_or (tags_at b m) i d ≡ get_or m (201 + b * 129 + i) 0
    tag_at l =
        let r = block_room in
        part_get m (201 + b * 129) (size_at b m) i d l ∙ get_d_any m (201 + b * 129 + i) d 0 (omega (arith, fits m b))

    pub start_past : size_at b m ≤ i → get_or (starts_at b m) i d ≡ d
    start_past l = get_or-eq_default (starts_at b m) d (omega (arith, starts_length))

-- the last address of block b
pub last_inner : (m : List ℕ) (b : ℕ) → b + 1 < blocks_of m → last_at b m ≡ get_or m (137 + (b + 1) * 129) 0 - 1
unfolding last_at
last_inner m b h = rw (lt-ltb (b + 1) (blocks_of m) h)

pub last_end : (m : List ℕ) (b : ℕ) → blocks_of m ≤ b + 1 → last_at b m ≡ get_or m 3 0
unfolding last_at
last_end m b h = rw (le-ltb (b + 1) (blocks_of m) h)

-- blocks and more blocks
pub cells_split : (o b j k : ℕ) (m : List ℕ) → cells o b (j + k) m ≡ cells o b j m ++ cells o (b + j) k m
unfolding cells
cells_split o b zero k m = let z : b + 0 ≡ b = omega arith in let y : 0 + k ≡ k = omega arith in rw (z, y)
cells_split o b (suc j) k m =
    let z : suc b + j ≡ b + suc j = omega arith in
    let y : suc j + k ≡ suc (j + k) = omega arith in
    rw y (ap (λ (l : List ℕ). take (size_at b m) (drop (o + b * 129) m) ++ l) (cells_split o (suc b) j k m)
    ∙ sym (append_assoc (take (size_at b m) (drop (o + b * 129) m)) (cells o (suc b) j m) (cells o (suc b + j) k m))
    ∙ rw z)

pub sizes_split : (b j k : ℕ) (m : List ℕ) → sizes b (j + k) m ≡ sizes b j m + sizes (b + j) k m
unfolding sizes
sizes_split b zero k m = let z : b + 0 ≡ b = omega arith in let y : 0 + k ≡ k = omega arith in rw (z, y) (omega arith)
sizes_split b (suc j) k m =
    let z : suc b + j ≡ b + suc j = omega arith in
    let e = sizes_split (suc b) j k m in
    let f : sizes (suc b + j) k m ≡ sizes (b + suc j) k m = rw z in
    let y : suc j + k ≡ suc (j + k) = omega arith in
    rw y (omega arith)

-- one block, and those behind it
module _ (m : List ℕ) (b nb : ℕ) (h : b < nb) where
  pub cells_cons : (o : ℕ) → cells o b (nb - b) m ≡ take (size_at b m) (drop (o + b * 129) m) ++ cells o (b + 1) (nb - (b + 1)) m
  unfolding cells
  cells_cons o = let e : nb - b ≡ suc (nb - (b + 1)) = omega arith in rw (e, add-one b)

  pub sizes_cons : sizes b (nb - b) m ≡ size_at b m + sizes (b + 1) (nb - (b + 1)) m
  unfolding sizes
  sizes_cons = let e : nb - b ≡ suc (nb - (b + 1)) = omega arith in rw (e, add-one b)

pub sizes_snoc : (b : ℕ) (m : List ℕ) → sizes 0 (b + 1) m ≡ sizes 0 b m + size_at b m
unfolding sizes
sizes_snoc b m = let z : 0 + b ≡ b = omega arith in (rw z at (sizes_split 0 b 1 m)) ∙ omega arith

-- how many there are
pub cells_length : (o b k : ℕ) (m : List ℕ) → o ≤ 201 → 136 + (b + k) * 129 ≤ length m → length (cells o b k m) ≡ sizes b k m
unfolding cells sizes
cells_length o b zero m lo l = refl
cells_length o b (suc k) m lo l =
    let rest = cells_length o (suc b) k m lo (omega arith) in
    let here : length (take (size_at b m) (drop (o + b * 129) m)) ≡ size_at b m = part_length m (o + b * 129) (size_at b m) (omega (arith, fits m b)) in
    simp length-append (omega arith)

-- all blocks: those before block b, block b, and those behind it
module _ (m : List ℕ) (b nb : ℕ) (h : b < nb) where
  pub three : (o : ℕ) → cells o 0 nb m ≡ cells o 0 b m ++ (take (size_at b m) (drop (o + b * 129) m) ++ cells o (b + 1) (nb - (b + 1)) m)
  three o =
      let z : b + (nb - b) ≡ nb = omega arith in
      let y : 0 + b ≡ b = omega arith in
      (rw (z, y) at (cells_split o 0 b (nb - b) m)) ∙ ap (λ (l : List ℕ). cells o 0 b m ++ l) (cells_cons m b nb h o)

  pub three_sizes : sizes 0 nb m ≡ sizes 0 b m + (size_at b m + sizes (b + 1) (nb - (b + 1)) m)
  three_sizes =
      let z : b + (nb - b) ≡ nb = omega arith in
      let y : 0 + b ≡ b = omega arith in
      (rw (z, y) at (sizes_split 0 b (nb - b) m)) ∙ ap (λ (n : ℕ). sizes 0 b m + n) (sizes_cons m b nb h)

-- a part that is lent, as the code names its ends
pub part_lent : (m : List ℕ) (p n k : ℕ) → k ≡ n → take k (drop p m) ≡ take n (drop p m)
part_lent m p n k e = rw e
