-- What a change of one block makes of the table. Assumes nothing.
use Prim.Native.Nat.{ℕ, zero, suc, ◌+◌, ◌-◌, ◌*◌, ◌%◌, ◌≤◌, ◌<◌}
use mathlib.Core.Path.{◌≡◌, refl, sym, ap, ◌∙◌}
use mathlib.Core.List.{List, [], ◌∷◌, ◌++◌}
use native.Mathlib.Decide.{dec_lt}
use native.Mathlib.Omega.{arith}
use lib.ListN.{length, get_or, take, drop, length-append, get_or-append}
use lib.Seq.{length-take-le}
use Rattle.blocks.specs.Blocks.{count_of, blocks_of, limit_of, size_at, bound_at, starts_at, tags_at, last_at, past_at, sizes, cells, starts_of, tags_of, index, Within, Sound}
use Rattle.blocks.proofs.Parts.{part_same, fits, block_room, starts_length, tags_length, start_at, last_inner, last_end, three, three_sizes, cells_length}
use Rattle.spread.proofs.Agree.{sizes_agree, cells_agree}
use Rattle.splice.specs.Splice.{splice, Touched, Spliced}
use Rattle.splice.proofs.Lists.{splice_self, splice_in, splice_flat}

module _ (m m' : List ℕ) (b : ℕ) (sound : Sound m) (h : b < blocks_of m) (t : Touched b m m') where
  pub touched_blocks : blocks_of m' ≡ blocks_of m
  touched_blocks = t.below 4 (omega arith) (λ z. omega arith)

  -- the header is a table's still
  pub touched_sound : count_of m' ≤ limit_of m → Sound m'
  touched_sound l =
      let e0 = t.below 0 (omega arith) (λ z. omega arith) in
      let e4 = touched_blocks in
      let e5 = t.below 5 (omega arith) (λ z. omega arith) in
      record {
        marked = t.below 6 (omega arith) (λ z. omega arith) ∙ sound.marked;
        few = rw e0 sound.few;
        used = rw (e0, e4) sound.used;
        one = rw e4 sound.one;
        long = rw (e0, t.len) sound.long;
        count = rw e5 l;
        limit = rw (e0, e5) sound.limit;
      }

  other_cell : (c j : ℕ) → (c ≡ b → ⊥) → j < 129 → get_or m' (136 + c * 129 + j) 0 ≡ get_or m (136 + c * 129 + j) 0
  other_cell c j n l = elim (dec_lt c b) [ yes p ↦ t.below (136 + c * 129 + j) (omega arith) (λ z. omega arith) | no p ↦ t.above (136 + c * 129 + j) (omega arith) ]

  -- another block is as it was
  pub other_size : (c : ℕ) → (c ≡ b → ⊥) → size_at c m' ≡ size_at c m
  other_size c n = let z : 136 + c * 129 + 0 ≡ 136 + c * 129 = omega arith in ap (λ (x : ℕ). x % 64) (rw z at (other_cell c 0 n (omega arith)))

  pub other_first : (c : ℕ) → (c ≡ b → ⊥) → get_or m' (137 + c * 129) 0 ≡ get_or m (137 + c * 129) 0
  other_first c n = let z : 136 + c * 129 + 1 ≡ 137 + c * 129 = omega arith in rw z at (other_cell c 1 n (omega arith))

  other_part : (o c : ℕ) → 137 ≤ o → o ≤ 201 → c < blocks_of m → (c ≡ b → ⊥) → take (size_at c m') (drop (o + c * 129) m') ≡ take (size_at c m) (drop (o + c * 129) m)
  other_part o c x y l n =
      let r = block_room m sound c l in
      let f = fits m c in
      let e = t.len in
      rw (other_size c n) (part_same m m' (o + c * 129) (o + c * 129) (size_at c m) (omega arith) (omega arith) (λ k q. let z : 136 + c * 129 + (o - 136 + k) ≡ o + c * 129 + k = omega arith in rw z at (other_cell c (o - 136 + k) n (omega arith))))

  pub other_starts : (c : ℕ) → c < blocks_of m → (c ≡ b → ⊥) → starts_at c m' ≡ starts_at c m
  other_starts c l n = other_part 137 c (omega arith) (omega arith) l n

  pub other_tags : (c : ℕ) → c < blocks_of m → (c ≡ b → ⊥) → tags_at c m' ≡ tags_at c m
  other_tags c l n = other_part 201 c (omega arith) (omega arith) l n

  -- and ends where it did, where the next block starts where it did
  pub other_last : (c : ℕ) → c < blocks_of m → (c + 1 < blocks_of m → get_or m' (137 + (c + 1) * 129) 0 ≡ get_or m (137 + (c + 1) * 129) 0) → last_at c m' ≡ last_at c m
  other_last c l f =
      let e4 = touched_blocks in
      elim (dec_lt (c + 1) (blocks_of m)) [
        | yes q ↦ last_inner m' c (omega arith) ∙ ap (λ (x : ℕ). x - 1) (f q) ∙ sym (last_inner m c q)
        | no q ↦ last_end m' c (omega arith) ∙ t.below 3 (omega arith) (λ z. omega arith) ∙ sym (last_end m c (omega arith))
      ]

  -- so its bound is one still
  pub other_within : (c : ℕ) → c < blocks_of m → (c ≡ b → ⊥) → (c + 1 < blocks_of m → get_or m' (137 + (c + 1) * 129) 0 ≡ get_or m (137 + (c + 1) * 129) 0) → Within (past_at c m) (starts_at c m) (tags_at c m) (bound_at c m) → Within (past_at c m') (starts_at c m') (tags_at c m') (bound_at c m')
  other_within c l n f w =
      let s = sound in
      let e : bound_at c m' ≡ bound_at c m = t.below (8 + c) (omega arith) (λ z. omega arith) in
      rw (other_last c l f, other_starts c l n, other_tags c l n, e) w

  -- how many ranges there are
  pub touched_sizes : sizes 0 b m' ≡ sizes 0 b m
  touched_sizes = sizes_agree m m' 0 b (λ j p q. other_size j (λ z. omega arith))

  pub touched_total : sizes 0 (blocks_of m') m' + size_at b m ≡ sizes 0 (blocks_of m) m + size_at b m'
  touched_total =
      let e = touched_sizes in
      let f : sizes (b + 1) (blocks_of m - (b + 1)) m' ≡ sizes (b + 1) (blocks_of m - (b + 1)) m = sizes_agree m m' (b + 1) (blocks_of m - (b + 1)) (λ j p q. other_size j (λ z. omega arith)) in
      let k = three_sizes m b (blocks_of m) h in
      let l = three_sizes m' b (blocks_of m) h in
      rw touched_blocks (omega arith)

  -- the blocks around block b
  pub around : (o : ℕ) → 137 ≤ o → o ≤ 201 → cells o 0 (blocks_of m') m' ≡ cells o 0 b m ++ (take (size_at b m') (drop (o + b * 129) m') ++ cells o (b + 1) (blocks_of m - (b + 1)) m)
  around o p q =
      let u = sound in
      let lo : cells o 0 b m' ≡ cells o 0 b m = cells_agree m m' o 0 b p q t.len (omega arith) (λ i x y. t.below i (omega arith) (λ z. omega arith)) in
      let hi : cells o (b + 1) (blocks_of m - (b + 1)) m' ≡ cells o (b + 1) (blocks_of m - (b + 1)) m = cells_agree m m' o (b + 1) (blocks_of m - (b + 1)) p q t.len (omega arith) (λ i x y. t.above i (omega arith)) in
      rw touched_blocks (three m' b (blocks_of m) h o ∙ rw (lo, hi))

module _ (m m' : List ℕ) (b : ℕ) (sound : Sound m) (h : b < blocks_of m) (i by : ℕ) (ns nt : List ℕ) (s : Spliced m m' b i by ns nt) where
  pub spliced_sound : count_of m + length ns ≤ limit_of m + by → Sound m'
  spliced_sound l = touched_sound m m' b sound h s.touched (omega (arith, s.count, sound.count))

  pub spliced_blocks : blocks_of m' ≡ blocks_of m
  spliced_blocks = touched_blocks m m' b sound h s.touched

  -- all starts and all tags
  module _ (l : i + by ≤ size_at b m) where
    pub spliced_starts : starts_of m' ≡ splice (index b i m) by ns (starts_of m)
    unfolding starts_of index
    spliced_starts =
        let u = sound in
        around m m' b sound h s.touched 137 (omega arith) (omega arith)
        ∙ ap (λ (x : List ℕ). cells 137 0 b m ++ (x ++ cells 137 (b + 1) (blocks_of m - (b + 1)) m)) s.starts
        ∙ splice_flat (cells 137 0 b m) (starts_at b m) (cells 137 (b + 1) (blocks_of m - (b + 1)) m) ns (sizes 0 b m) i by (cells_length 137 0 b m (omega arith) (omega arith)) (omega (arith, starts_length m sound b h))
        ∙ rw (three m b (blocks_of m) h 137)

    pub spliced_tags : tags_of m' ≡ splice (index b i m) by nt (tags_of m)
    unfolding tags_of index
    spliced_tags =
        let u = sound in
        around m m' b sound h s.touched 201 (omega arith) (omega arith)
        ∙ ap (λ (x : List ℕ). cells 201 0 b m ++ (x ++ cells 201 (b + 1) (blocks_of m - (b + 1)) m)) s.tags
        ∙ splice_flat (cells 201 0 b m) (tags_at b m) (cells 201 (b + 1) (blocks_of m - (b + 1)) m) nt (sizes 0 b m) i by (cells_length 201 0 b m (omega arith) (omega arith)) (omega (arith, tags_length m sound b h))
        ∙ rw (three m b (blocks_of m) h 201)

    -- the header counts them right still
    pub spliced_total : sizes 0 (blocks_of m) m ≡ count_of m → sizes 0 (blocks_of m') m' ≡ count_of m'
    spliced_total e = omega (arith, touched_total m m' b sound h s.touched, s.size, s.count, three_sizes m b (blocks_of m) h)

  -- the block starts where it did
  pub first_kept : get_or (starts_at b m') 0 0 ≡ get_or (starts_at b m) 0 0 → 0 < size_at b m → 0 < size_at b m' → Sound m' → get_or m' (137 + b * 129) 0 ≡ get_or m (137 + b * 129) 0
  first_kept e p p' u' =
      let z : 137 + b * 129 + 0 ≡ 137 + b * 129 = omega arith in
      let x : get_or m' (137 + b * 129 + 0) 0 ≡ get_or m (137 + b * 129 + 0) 0 = sym (start_at m' u' b (rw spliced_blocks h) 0 0 p') ∙ e ∙ start_at m sound b h 0 0 p in
      rw z at x

  -- a change behind range 0 leaves the block's first start
  pub first_behind : 0 < i → i + by ≤ size_at b m → Sound m' → get_or m' (137 + b * 129) 0 ≡ get_or m (137 + b * 129) 0
  first_behind p l u' =
      let n = starts_length m sound b h in
      first_kept (ap (λ (x : List ℕ). get_or x 0 0) s.starts ∙ get_or-append (take i (starts_at b m)) (ns ++ drop (i + by) (starts_at b m)) 0 0 (omega (arith, length-take-le i (starts_at b m) (omega arith))) ∙ head (starts_at b m) i p) (omega arith) (omega (arith, s.size)) u'
    where
      head : (x : List ℕ) (i : ℕ) → 0 < i → get_or (take i x) 0 0 ≡ get_or x 0 0
      head x zero p = absurd (omega arith)
      head [] (suc i) p = refl
      head (_ ∷ x) (suc i) p = refl

-- one change after another, each of the same block
pub touch_on : (b : ℕ) (m m₁ m₂ : List ℕ) → Touched b m m₁ → Touched b m₁ m₂ → Touched b m m₂
touch_on b m m₁ m₂ t u = record { len = u.len ∙ t.len; below = λ j p q. u.below j p q ∙ t.below j p q; above = λ j p. u.above j p ∙ t.above j p }

-- nothing was changed
pub spliced_self : (m : List ℕ) → Sound m → (b : ℕ) → b < blocks_of m → (i s t : ℕ) → i < size_at b m → get_or (starts_at b m) i 0 ≡ s → get_or (tags_at b m) i 0 ≡ t → Spliced m m b i 1 (s ∷ []) (t ∷ [])
spliced_self m u b h i s t l es et =
    record {
      touched = record { len = refl; below = λ j p q. refl; above = λ j p. refl };
      size = omega arith;
      count = omega arith;
      starts = rw es at (splice_self (starts_at b m) i (omega (arith, starts_length m u b h)));
      tags = rw et at (splice_self (tags_at b m) i (omega (arith, tags_length m u b h)));
    }

-- a change within what was put in
pub spliced_in : (m m₁ m₂ : List ℕ) → Sound m → (b : ℕ) → b < blocks_of m → (i by k l : ℕ) (ps qs rs ns pt qt rt nt : List ℕ) → i ≤ size_at b m → by ≤ length (ps ++ (qs ++ rs)) → k ≡ i + length ps → length ps ≡ length pt → l ≡ length qs → l ≡ length qt → Spliced m m₁ b i by (ps ++ (qs ++ rs)) (pt ++ (qt ++ rt)) → Spliced m₁ m₂ b k l ns nt → Spliced m m₂ b i by (ps ++ (ns ++ rs)) (pt ++ (nt ++ rt))
spliced_in m m₁ m₂ sound b h i by k l ps qs rs ns pt qt rt nt hi hb ek ep el et s u =
    let a : length (ps ++ (qs ++ rs)) ≡ length ps + (length qs + length rs) = simp length-append in
    let c : length (ps ++ (ns ++ rs)) ≡ length ps + (length ns + length rs) = simp length-append in
    record {
      touched = touch_on b m m₁ m₂ s.touched u.touched;
      size = omega (arith, s.size, u.size);
      count = omega (arith, s.count, u.count);
      starts = u.starts ∙ ap (splice k l ns) s.starts ∙ splice_in (starts_at b m) ps qs rs ns i by k l (omega (arith, starts_length m sound b h)) ek el;
      tags = u.tags ∙ ap (splice k l nt) s.tags ∙ splice_in (tags_at b m) pt qt rt nt i by k l (omega (arith, tags_length m sound b h)) (omega arith) et;
    }
