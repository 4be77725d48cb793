-- Lent words of which some are as they were: the blocks there are as they were. Assumes nothing.
use Prim.Native.Nat.{ℕ, zero, suc, ◌+◌, ◌*◌, ◌%◌, ◌≤◌, ◌<◌}
use mathlib.Core.Path.{◌≡◌, refl, ap, ◌∙◌}
use mathlib.Core.List.{List}
use native.Mathlib.Omega.{arith}
use lib.ListN.{length, get_or, take, drop, set, length-set}
use lib.Seq.{get_or-set_other, get_or-set_same}
use Rattle.blocks.specs.Blocks.{blocks_of, size_at, starts_at, tags_at, last_at, sizes, cells, starts_of, tags_of, Sound, Settled}
use Rattle.blocks.proofs.Parts.{part_same, fits, block_room}
use Rattle.spread.specs.Spread.{Same}

-- a size that is written is read again
pub small : (c : ℕ) → c < 64 → c % 64 ≡ c
small c h = omega arith

-- words after two stores
module _ (m : List ℕ) (a u b v : ℕ) where
  pub two_length : length (set (set m a u) b v) ≡ length m
  two_length = length-set (set m a u) b v ∙ length-set m a u

  pub two_other : (j : ℕ) → (j ≡ a → ⊥) → (j ≡ b → ⊥) → get_or (set (set m a u) b v) j 0 ≡ get_or m j 0
  two_other j p q = get_or-set_other (set m a u) b j v 0 q ∙ get_or-set_other m a j u 0 p

  pub two_first : a < length m → (a ≡ b → ⊥) → get_or (set (set m a u) b v) a 0 ≡ u
  two_first h p = get_or-set_other (set m a u) b a v 0 p ∙ get_or-set_same m a u 0 h

  pub two_second : b < length m → get_or (set (set m a u) b v) b 0 ≡ v
  two_second h = get_or-set_same (set m a u) b v 0 (omega (arith, length-set m a u))

-- blocks that are the same
pub sizes_agree : (m m' : List ℕ) (b k : ℕ) → ((j : ℕ) → b ≤ j → j < b + k → size_at j m' ≡ size_at j m) → sizes b k m' ≡ sizes b k m
unfolding sizes
sizes_agree m m' b zero e = refl
sizes_agree m m' b (suc k) e = rw (e b (omega arith) (omega arith), sizes_agree m m' (suc b) k (λ j p q. e j (omega arith) (omega arith)))

pub cells_agree : (m m' : List ℕ) (o b k : ℕ) → 137 ≤ o → o ≤ 201 → length m' ≡ length m → 136 + (b + k) * 129 ≤ length m → ((i : ℕ) → 136 + b * 129 ≤ i → i < 136 + (b + k) * 129 → get_or m' i 0 ≡ get_or m i 0) → cells o b k m' ≡ cells o b k m
unfolding cells
cells_agree m m' o b zero p q l h e = refl
cells_agree m m' o b (suc k) p q l h e =
    let n : size_at b m' ≡ size_at b m = ap (λ (x : ℕ). x % 64) (e (136 + b * 129) (omega arith) (omega arith)) in
    let s = fits m b in
    let here : take (size_at b m) (drop (o + b * 129) m') ≡ take (size_at b m) (drop (o + b * 129) m) = part_same m m' (o + b * 129) (o + b * 129) (size_at b m) (omega arith) (omega arith) (λ i a. e (o + b * 129 + i) (omega arith) (omega arith)) in
    rw (n, here, cells_agree m m' o (suc b) k p q l (omega arith) (λ i a c. e i (omega arith) (omega arith)))

-- other bounds: nothing else changes
pub same_self : (m : List ℕ) (from to : ℕ) → Same m m from to
same_self m from to = record { len = refl; below = λ i h. refl; above = λ i h. refl }

module _ (m m' : List ℕ) (s : Same m m' 8 136) where
  pub same_size : (b : ℕ) → size_at b m' ≡ size_at b m
  same_size b = ap (λ (x : ℕ). x % 64) (s.above (136 + b * 129) (omega arith))

  pub same_last : (b : ℕ) → last_at b m' ≡ last_at b m
  unfolding last_at
  same_last b = rw (s.below 4 (omega arith), s.below 3 (omega arith), s.above (137 + (b + 1) * 129) (omega arith))

  pub same_sound : Sound m → Sound m'
  same_sound u =
      let e0 = s.below 0 (omega arith) in
      let e1 = s.below 1 (omega arith) in
      let e4 = s.below 4 (omega arith) in
      let e5 = s.below 5 (omega arith) in
      record {
        marked = s.below 6 (omega arith) ∙ u.marked;
        few = rw e0 u.few;
        used = rw (e0, e4) u.used;
        one = rw e4 u.one;
        long = rw (e0, s.len) u.long;
        count = rw (e1, e5) u.count;
        limit = rw (e0, e5) u.limit;
      }

  pub same_sizes : (b k : ℕ) → sizes b k m' ≡ sizes b k m
  same_sizes b k = sizes_agree m m' b k (λ j p q. same_size j)

  module _ (u : Sound m) where
    same_part : (o b : ℕ) → 137 ≤ o → o ≤ 201 → b < blocks_of m → take (size_at b m') (drop (o + b * 129) m') ≡ take (size_at b m) (drop (o + b * 129) m)
    same_part o b p q h =
        let r = block_room m u b h in
        let f = fits m b in
        let e = s.len in
        rw (same_size b) (part_same m m' (o + b * 129) (o + b * 129) (size_at b m) (omega arith) (omega arith) (λ k l. s.above (o + b * 129 + k) (omega arith)))

    pub same_starts : (b : ℕ) → b < blocks_of m → starts_at b m' ≡ starts_at b m
    same_starts b h = same_part 137 b (omega arith) (omega arith) h

    pub same_tags : (b : ℕ) → b < blocks_of m → tags_at b m' ≡ tags_at b m
    same_tags b h = same_part 201 b (omega arith) (omega arith) h

    all_cells : (o : ℕ) → 137 ≤ o → o ≤ 201 → cells o 0 (blocks_of m') m' ≡ cells o 0 (blocks_of m) m
    all_cells o p q = let v = u in rw (s.below 4 (omega arith)) (cells_agree m m' o 0 (blocks_of m) p q s.len (omega arith) (λ i a c. s.above i (omega arith)))

    pub same_all_starts : starts_of m' ≡ starts_of m
    unfolding starts_of
    same_all_starts = all_cells 137 (omega arith) (omega arith)

    pub same_all_tags : tags_of m' ≡ tags_of m
    unfolding tags_of
    same_all_tags = all_cells 201 (omega arith) (omega arith)

  pub same_settled : Settled m → Settled m'
  same_settled u =
      let e4 = s.below 4 (omega arith) in
      record {
        sound = same_sound u.sound;
        some = λ b h. rw (same_size b) (u.some b (rw e4 at h));
        spare = λ b h. rw (same_size b) (u.spare b (rw e4 at h));
        total = rw (e4, s.below 1 (omega arith)) (same_sizes 0 (blocks_of m) ∙ u.total);
      }
