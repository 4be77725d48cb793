-- `copy`, and what `gather` and `scatter` have done before block b. Assumes nothing.
use Prim.Native.Nat.{ℕ, ◌+◌, ◌-◌, ◌*◌, ◌%◌, ◌≤◌, ◌<◌}
use mathlib.Core.Path.{◌≡◌, refl, sym, ap, ◌∙◌}
use mathlib.Core.List.{List, ◌++◌, append-nil}
use native.Mathlib.Decide.{ℕ_discrete, dec_lt}
use native.Mathlib.Omega.{arith}
use lib.ListN.{length, get_or, take, drop, set, length-set}
use lib.Seq.{get_or-set_other, get_or-set_same, take-add, drop-drop}
use Rattle.blocks.specs.Blocks.{room_of, count_of, blocks_of, size_at, sizes, cells, Sound}
use Rattle.blocks.proofs.Parts.{part_same, fits, cells_split, sizes_snoc, three_sizes}
use Rattle.spread.specs.Spread.{Copied, Apart, Gathered, Dealt}
use Rattle.spread.proofs.Agree.{small, sizes_agree, cells_agree}

module _ (m : List ℕ) (from to : ℕ) where
  pub copied_none : Copied m m from to 0
  copied_none = record { len = refl; there = λ k l. absurd (omega arith); below = λ j l. refl; above = λ j l. refl }

  -- a turn
  pub copied_more : (x : List ℕ) (n i : ℕ) → Apart from to n → to + n ≤ length m → i < n → Copied m x from to i → Copied m (set x (to + i) (get_or x (from + i) 0)) from to (i + 1)
  unfolding Apart
  copied_more x n i ap' l h c =
      let len = c.len in
      let v : ℕ = get_or x (from + i) 0 in
      let ev : v ≡ get_or m (from + i) 0 = elim (dec_lt (from + i) to) [ yes p ↦ c.below (from + i) p | no p ↦ c.above (from + i) (far p) ] in
      record {
        len = length-set x (to + i) v ∙ len;
        there = λ k q. elim (ℕ_discrete k i) [
          | yes z ↦ rw z (get_or-set_same x (to + i) v 0 (omega arith) ∙ ev)
          | no z ↦ get_or-set_other x (to + i) (to + k) v 0 (λ y. z (omega arith)) ∙ c.there k (omega arith)
        ];
        below = λ j q. get_or-set_other x (to + i) j v 0 (λ y. omega arith) ∙ c.below j q;
        above = λ j q. get_or-set_other x (to + i) j v 0 (λ y. omega arith) ∙ c.above j (omega arith);
      }
    where
      far : (from + i < to → ⊥) → to + i ≤ from + i
      far p = elim (dec_lt (from + i) (to + i)) [ yes q ↦ absurd (ap' i (from + i - to) h (omega arith) (omega arith)) | no q ↦ omega arith ]

-- one block more
pub cells_snoc : (o b : ℕ) (m : List ℕ) → cells o 0 (b + 1) m ≡ cells o 0 b m ++ take (size_at b m) (drop (o + b * 129) m)
unfolding cells
cells_snoc o b m = let z : 0 + b ≡ b = omega arith in (rw z at (cells_split o 0 b 1 m)) ∙ ap (λ (l : List ℕ). cells o 0 b m ++ l) (append-nil (take (size_at b m) (drop (o + b * 129) m)))

-- the ranges of the first blocks are not more than all
pub sizes_le : (m : List ℕ) → sizes 0 (blocks_of m) m ≡ count_of m → (b : ℕ) → b < blocks_of m → sizes 0 b m + size_at b m ≤ count_of m
sizes_le m u b h = omega (arith, three_sizes m b (blocks_of m) h, u)

-- a part, and as many cells more
part_more : (m : List ℕ) (p n k : ℕ) → take (n + k) (drop p m) ≡ take n (drop p m) ++ take k (drop (p + n) m)
part_more m p n k = take-add n k (drop p m) ∙ rw (drop-drop n p m)

module _ (m : List ℕ) (sound : Sound m) (sum : sizes 0 (blocks_of m) m ≡ count_of m) (room : ℕ) (er : room ≡ room_of m) where
  pub gathered_none : Gathered m m room 0 0
  unfolding sizes cells
  gathered_none = record { many = refl; same = record { len = refl; below = λ j l. refl; above = λ j l. refl }; starts = refl; tags = refl }

  -- a turn at block b
  pub gathered_more : (x x₁ x₂ : List ℕ) (b off n : ℕ) → b < blocks_of m → n ≡ size_at b m → Gathered m x room b off → Copied x x₁ (137 + b * 129) (136 + room * 129 + off) n → Copied x₁ x₂ (201 + b * 129) (136 + room * 161 + off) n → Gathered m x₂ room (b + 1) (off + n)
  gathered_more x x₁ x₂ b off n h en g c d =
      let u = sound in
      let s = g.same in
      let l0 = s.len in let l1 = c.len in let l2 = d.len in
      let fit = fits m b in
      let all = sizes_le m sum b h in
      let eo = g.many in
      record {
        many = sizes_snoc b m ∙ omega arith;
        same = record {
          len = l2 ∙ l1 ∙ l0;
          below = λ j q. d.below j (omega arith) ∙ c.below j (omega arith) ∙ s.below j q;
          above = λ j q. d.above j (omega arith) ∙ c.above j (omega arith) ∙ s.above j q;
        };
        starts =
            part_more x₂ (136 + room * 129) off n
            ∙ rw (part_same x x₂ (136 + room * 129) (136 + room * 129) off (omega arith) (omega arith) (λ k q. d.below (136 + room * 129 + k) (omega arith) ∙ c.below (136 + room * 129 + k) (omega arith)), g.starts, part_same m x₂ (137 + b * 129) (136 + room * 129 + off) n (omega arith) (omega arith) (λ k q. d.below (136 + room * 129 + off + k) (omega arith) ∙ c.there k q ∙ s.below (137 + b * 129 + k) (omega arith)), en) (sym (cells_snoc 137 b m));
        tags =
            part_more x₂ (136 + room * 161) off n
            ∙ rw (part_same x x₂ (136 + room * 161) (136 + room * 161) off (omega arith) (omega arith) (λ k q. d.below (136 + room * 161 + k) (omega arith) ∙ c.above (136 + room * 161 + k) (omega arith)), g.tags, part_same m x₂ (201 + b * 129) (136 + room * 161 + off) n (omega arith) (omega arith) (λ k q. d.there k q ∙ c.below (201 + b * 129 + k) (omega arith) ∙ s.below (201 + b * 129 + k) (omega arith)), en) (sym (cells_snoc 201 b m));
      }

module _ (m : List ℕ) (room : ℕ) (few : room ≤ 128) (long : 136 + room * 193 ≤ length m) where
  pub dealt_none : Dealt m m room 0 0
  unfolding sizes cells
  dealt_none = record { len = refl; head = λ j l q. refl; behind = λ j l. refl; many = refl; starts = refl; tags = refl; some = λ c l. absurd (omega arith); few = λ c l. absurd (omega arith) }

  -- a turn at block b: c ranges
  pub dealt_more : (x x₁ x₂ : List ℕ) (b off c : ℕ) → b < room → 0 < c → c ≤ 32 → off + c ≤ room * 32 → Dealt m x room b off → Copied x x₁ (136 + room * 129 + off) (137 + b * 129) c → Copied x₁ x₂ (136 + room * 161 + off) (201 + b * 129) c → Dealt m (set x₂ (136 + b * 129) c) room (b + 1) (off + c)
  dealt_more x x₁ x₂ b off c h pos le fit g d e =
      let l0 = g.len in let l1 = d.len in let l2 = e.len in
      let y : List ℕ = set x₂ (136 + b * 129) c in
      let other : (j : ℕ) → (j ≡ 136 + b * 129 → ⊥) → get_or y j 0 ≡ get_or x₂ j 0 = λ j p. get_or-set_other x₂ (136 + b * 129) j c 0 p in
      let ly : length y ≡ length m = length-set x₂ (136 + b * 129) c ∙ l2 ∙ l1 ∙ l0 in
      let size : size_at b y ≡ c = ap (λ (n : ℕ). n % 64) (get_or-set_same x₂ (136 + b * 129) c 0 (omega arith)) ∙ small c (omega arith) in
      let old : (j : ℕ) → j < 136 + b * 129 → get_or y j 0 ≡ get_or x j 0 = λ j p. other j (λ z. omega arith) ∙ e.below j (omega arith) ∙ d.below j (omega arith) in
      let far : (j : ℕ) → 136 + room * 129 ≤ j → get_or y j 0 ≡ get_or m j 0 = λ j p. other j (λ z. omega arith) ∙ e.above j (omega arith) ∙ d.above j (omega arith) ∙ g.behind j p in
      let lx : length y ≡ length x = ly ∙ sym l0 in
      let keep : (o : ℕ) → 137 ≤ o → o ≤ 201 → cells o 0 b y ≡ cells o 0 b x = λ o p q. cells_agree x y o 0 b p q lx (omega arith) (λ i a r. old i (omega arith)) in
      let one : take c (drop (137 + b * 129) y) ≡ take c (drop (136 + room * 129 + off) m) = part_same m y (136 + room * 129 + off) (137 + b * 129) c (omega arith) (omega arith) (λ k q. other (137 + b * 129 + k) (λ z. omega arith) ∙ e.below (137 + b * 129 + k) (omega arith) ∙ d.there k q ∙ g.behind (136 + room * 129 + off + k) (omega arith)) in
      let two : take c (drop (201 + b * 129) y) ≡ take c (drop (136 + room * 161 + off) m) = part_same m y (136 + room * 161 + off) (201 + b * 129) c (omega arith) (omega arith) (λ k q. other (201 + b * 129 + k) (λ z. omega arith) ∙ e.there k q ∙ d.above (136 + room * 161 + off + k) (omega arith) ∙ g.behind (136 + room * 161 + off + k) (omega arith)) in
      let ssame : (j : ℕ) → j < b → size_at j y ≡ size_at j x = λ j p. ap (λ (n : ℕ). n % 64) (old (136 + j * 129) (omega arith)) in
      let es : sizes 0 b y ≡ sizes 0 b x = sizes_agree x y 0 b (λ j a r. ssame j (omega arith)) in
      let eo = g.many in
      record {
        len = ly;
        head = λ j p q. old j (omega arith) ∙ g.head j p q;
        behind = far;
        many = sizes_snoc b y ∙ omega arith;
        starts = cells_snoc 137 b y ∙ rw (keep 137 (omega arith) (omega arith), size, g.starts, one) (sym (part_more m (136 + room * 129) off c));
        tags = cells_snoc 201 b y ∙ rw (keep 201 (omega arith) (omega arith), size, g.tags, two) (sym (part_more m (136 + room * 161) off c));
        some = λ k p. elim (ℕ_discrete k b) [ yes z ↦ rw (z, size) pos | no z ↦ rw (ssame k (omega arith)) (g.some k (omega arith)) ];
        few = λ k p. elim (ℕ_discrete k b) [ yes z ↦ rw (z, size) le | no z ↦ rw (ssame k (omega arith)) (g.few k (omega arith)) ];
      }

-- what the next block of `gather` has
pub gathered_next : (m x : List ℕ) (room b off : ℕ) → Sound m → sizes 0 (blocks_of m) m ≡ count_of m → room ≡ room_of m → b < blocks_of m → Gathered m x room b off → (size_at b x ≡ size_at b m) × (size_at b x ≤ 64) × (off + size_at b x ≤ room * 32)
gathered_next m x room b off u sum er h g =
    let e : size_at b x ≡ size_at b m = ap (λ (n : ℕ). n % 64) (g.same.below (136 + b * 129) (omega (arith, u.used))) in
    let f = fits m b in
    let s = sizes_le m sum b h in
    let o = g.many in
    let c = u.count in
    let k = u.limit in
    (e, omega arith, omega arith)

-- a part below another, and one above it
pub apart_below : (from to n : ℕ) → from + n ≤ to → Apart from to n
unfolding Apart
apart_below from to n h k j p q e = omega arith

pub apart_above : (from to n : ℕ) → to + n ≤ from → Apart from to n
unfolding Apart
apart_above from to n h k j p q e = omega arith

-- the number of blocks is written last
pub dealt_end : (m x : List ℕ) (room b n : ℕ) → b ≤ room → room ≤ 128 → 136 + room * 193 ≤ length m → Dealt m x room b n → Dealt m (set x 4 b) room (blocks_of (set x 4 b)) n × (blocks_of (set x 4 b) ≡ b)
dealt_end m x room b n hb few long g =
    let l0 = g.len in
    let eb : blocks_of (set x 4 b) ≡ b = get_or-set_same x 4 b 0 (omega arith) in
    let lx : length (set x 4 b) ≡ length x = length-set x 4 b in
    let other : (j : ℕ) → (j ≡ 4 → ⊥) → get_or (set x 4 b) j 0 ≡ get_or x j 0 = λ j p. get_or-set_other x 4 j b 0 p in
    let keep : (o : ℕ) → 137 ≤ o → o ≤ 201 → cells o 0 b (set x 4 b) ≡ cells o 0 b x = λ o p q. cells_agree x (set x 4 b) o 0 b p q lx (omega arith) (λ i a r. other i (λ z. omega arith)) in (
      rw eb (record {
        len = lx ∙ l0;
        head = λ j p q. other j q ∙ g.head j p q;
        behind = λ j p. other j (λ z. omega arith) ∙ g.behind j p;
        many = sizes_agree x (set x 4 b) 0 b (λ j a r. ap (λ (n : ℕ). n % 64) (other (136 + j * 129) (λ z. omega arith))) ∙ g.many;
        starts = keep 137 (omega arith) (omega arith) ∙ g.starts;
        tags = keep 201 (omega arith) (omega arith) ∙ g.tags;
        some = λ k p. rw (other (136 + k * 129) (λ z. omega arith)) (g.some k p);
        few = λ k p. rw (other (136 + k * 129) (λ z. omega arith)) (g.few k p);
      }),
      eb,
    )
