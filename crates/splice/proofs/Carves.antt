-- What `carve` and `cut` leave. Assumes nothing.
use Prim.Native.Nat.{ℕ, ◌+◌, ◌*◌, ◌≤◌, ◌<◌}
use mathlib.Core.Path.{◌≡◌, refl, sym, ap, ◌∙◌}
use mathlib.Core.List.{List, [], ◌∷◌, ◌++◌}
use mathlib.Core.Bool.{Bool, true, false}
use native.Mathlib.Decide.{ℕ_discrete, dec_lt}
use native.Mathlib.Omega.{arith}
use lib.ListN.{length, get_or, take, drop}
use Rattle.blocks.specs.Blocks.{count_of, blocks_of, limit_of, size_at, bound_at, starts_at, tags_at, last_at, past_at, starts_of, tags_of, Sound, Bounded, Ready}
use Rattle.blocks.proofs.Parts.{starts_length, tags_length, three_sizes}
use Rattle.spread.specs.Spread.{Turned, Nearly, Covered}
use Rattle.splice.specs.Splice.{Spliced, Grown, Window, new_starts, new_tags, start_in, past_in, Carved, Cut}
use Rattle.splice.proofs.Pieces.{starts_both, starts_before, starts_after, starts_whole, tags_both, tags_before, tags_after, tags_whole, some_pieces, first_piece}
use Rattle.splice.proofs.Bounds.{within_carved, within_more}
use Rattle.splice.proofs.Turns.{other_size, other_first, other_last, other_within, spliced_sound, spliced_blocks, spliced_starts, spliced_tags, spliced_total, first_kept, first_behind, spliced_self, spliced_in}

-- the cases of `carve`; x is the first address behind the window as the code has it
module _ (m : List ℕ) (b i a size tag : ℕ) (sound : Sound m) (w : Window m b i a size) where
  abbrev s : ℕ
  s = start_in m b i

  abbrev to : ℕ
  to = past_in m b i

  within : i < size_at b m
  within = w.there.tile

  here : b < blocks_of m
  here = w.there.block

  self : Spliced m m b i 1 (s ∷ []) (0 ∷ [])
  self = spliced_self m sound b here i s 0 within refl w.free

  one : (l : List ℕ) (n : ℕ) → length l ≡ n → n ≡ 1 → (x : ℕ) × (l ≡ x ∷ [])
  one [] n e f = absurd (omega arith)
  one (x ∷ []) n e f = (x, refl)
  one (x ∷ y ∷ l) n e f = absurd (omega arith)

  two : (l : List ℕ) (n : ℕ) → length l ≡ n → n ≡ 2 → (x : ℕ) × (y : ℕ) × (l ≡ x ∷ y ∷ [])
  two [] n e f = absurd (omega arith)
  two (x ∷ []) n e f = absurd (omega arith)
  two (x ∷ y ∷ []) n e f = (x, y, refl)
  two (x ∷ y ∷ z ∷ l) n e f = absurd (omega arith)

  pub carve_whole : (m₁ : List ℕ) → a ≤ s → to ≤ a + size → count_of m ≤ limit_of m → Spliced m m₁ b i 1 (a ∷ []) (tag ∷ []) → Carved m m₁ b i a size tag true
  unfolding Carved
  carve_whole m₁ p q c u = rw (starts_whole s to a size p q, tags_whole s to a size tag p q) (u, omega arith)

  pub carve_before : (m₁ m₂ : List ℕ) → s < a → to ≤ a + size → count_of m + 1 ≤ limit_of m → Grown m m₁ b (i + 1) 1 → Spliced m₁ m₂ b (i + 1) 1 (a ∷ []) (tag ∷ []) → Carved m m₂ b i a size tag true
  unfolding Carved
  carve_before m₁ m₂ p q c g u =
      let l = within in
      let g₁ = spliced_in m m m₁ sound b here i 1 (i + 1) 0 (s ∷ []) [] [] g.ns (0 ∷ []) [] [] g.nt (omega arith) (omega arith) (omega arith) refl refl refl self g.spliced in
      let x = one g.ns 1 g.many refl in
      let y = one g.nt 1 g.as_many refl in
      let g₂ : Spliced m m₁ b i 1 ((s ∷ []) ++ ((x.0 ∷ []) ++ [])) ((0 ∷ []) ++ ((y.0 ∷ []) ++ [])) = rw (x.1, y.1) at g₁ in
      let r = spliced_in m m₁ m₂ sound b here i 1 (i + 1) 1 (s ∷ []) (x.0 ∷ []) [] (a ∷ []) (0 ∷ []) (y.0 ∷ []) [] (tag ∷ []) (omega arith) (omega arith) (omega arith) refl refl refl g₂ u in
      rw (starts_before s to a size p q, tags_before s to a size tag p q) (r, omega arith)

  pub carve_after : (m₁ m₂ m₃ : List ℕ) (x : ℕ) → x ≡ a + size → a ≤ s → a + size < to → count_of m + 1 ≤ limit_of m → Spliced m m₁ b i 1 (a ∷ []) (tag ∷ []) → Grown m₁ m₂ b (i + 1) 1 → Spliced m₂ m₃ b (i + 1) 1 (x ∷ []) (0 ∷ []) → Carved m m₃ b i a size tag true
  unfolding Carved
  carve_after m₁ m₂ m₃ e ee p q c v g u =
      let l = within in
      let g₁ = spliced_in m m₁ m₂ sound b here i 1 (i + 1) 0 (a ∷ []) [] [] g.ns (tag ∷ []) [] [] g.nt (omega arith) (omega arith) (omega arith) refl refl refl v g.spliced in
      let x = one g.ns 1 g.many refl in
      let y = one g.nt 1 g.as_many refl in
      let g₂ : Spliced m m₂ b i 1 ((a ∷ []) ++ ((x.0 ∷ []) ++ [])) ((tag ∷ []) ++ ((y.0 ∷ []) ++ [])) = rw (x.1, y.1) at g₁ in
      let r : Spliced m m₃ b i 1 (a ∷ (a + size) ∷ []) (tag ∷ 0 ∷ []) = rw ee at (spliced_in m m₂ m₃ sound b here i 1 (i + 1) 1 (a ∷ []) (x.0 ∷ []) [] (e ∷ []) (tag ∷ []) (y.0 ∷ []) [] (0 ∷ []) (omega arith) (omega arith) (omega arith) refl refl refl g₂ u) in
      rw (starts_after s to a size p q, tags_after s to a size tag p q) (r, omega arith)

  pub carve_both : (m₁ m₂ m₃ : List ℕ) (x : ℕ) → x ≡ a + size → s < a → a + size < to → count_of m + 2 ≤ limit_of m → Grown m m₁ b (i + 1) 2 → Spliced m₁ m₂ b (i + 1) 1 (a ∷ []) (tag ∷ []) → Spliced m₂ m₃ b (i + 1 + 1) 1 (x ∷ []) (0 ∷ []) → Carved m m₃ b i a size tag true
  unfolding Carved
  carve_both m₁ m₂ m₃ e ee p q c g u v =
      let l = within in
      let g₁ = spliced_in m m m₁ sound b here i 1 (i + 1) 0 (s ∷ []) [] [] g.ns (0 ∷ []) [] [] g.nt (omega arith) (omega arith) (omega arith) refl refl refl self g.spliced in
      let x = two g.ns 2 g.many refl in
      let y = two g.nt 2 g.as_many refl in
      let g₂ : Spliced m m₁ b i 1 ((s ∷ []) ++ ((x.0 ∷ x.1 ∷ []) ++ [])) ((0 ∷ []) ++ ((y.0 ∷ y.1 ∷ []) ++ [])) = rw (x.2, y.2) at g₁ in
      let r = spliced_in m m₁ m₂ sound b here i 1 (i + 1) 1 (s ∷ []) (x.0 ∷ []) (x.1 ∷ []) (a ∷ []) (0 ∷ []) (y.0 ∷ []) (y.1 ∷ []) (tag ∷ []) (omega arith) (omega arith) (omega arith) refl refl refl g₂ u in
      let r₂ : Spliced m m₃ b i 1 (s ∷ a ∷ (a + size) ∷ []) (0 ∷ tag ∷ 0 ∷ []) = rw ee at (spliced_in m m₂ m₃ sound b here i 1 (i + 1 + 1) 1 (s ∷ a ∷ []) (x.1 ∷ []) [] (e ∷ []) (0 ∷ tag ∷ []) (y.1 ∷ []) [] (0 ∷ []) (omega arith) (omega arith) (omega arith) refl refl refl r v) in
      rw (starts_both s to a size p q, tags_both s to a size tag p q) (r₂, omega arith)

  -- no room for so many ranges
  pub full_both : s < a → a + size < to → limit_of m < count_of m + 2 → Carved m m b i a size tag false
  unfolding Carved
  full_both p q l = rw (starts_both s to a size p q) (refl, omega arith)

  pub full_before : s < a → to ≤ a + size → limit_of m < count_of m + 1 → Carved m m b i a size tag false
  unfolding Carved
  full_before p q l = rw (starts_before s to a size p q) (refl, omega arith)

  pub full_after : a ≤ s → a + size < to → limit_of m < count_of m + 1 → Carved m m b i a size tag false
  unfolding Carved
  full_after p q l = rw (starts_after s to a size p q) (refl, omega arith)

-- what `cut` asks of `finish` and of `raise`, and what it leaves
module _ (m m₁ : List ℕ) (b i a size tag : ℕ) (sound : Sound m) (w : Window m b i a size) (nb : ℕ) (eb : nb ≡ blocks_of m) {r : Bool} (carved : Carved m m₁ b i a size tag r) (done : r ≡ true) where
  told : Carved m m₁ b i a size tag true
  told = rw done at carved

  new : Spliced m m₁ b i 1 (new_starts (start_in m b i) (past_in m b i) a size) (new_tags (start_in m b i) (past_in m b i) a size tag)
  unfolding Carved
  new = told.0

  room : count_of m + length (new_starts (start_in m b i) (past_in m b i) a size) ≤ limit_of m + 1
  unfolding Carved
  room = told.1

  sound₁ : Sound m₁
  sound₁ = spliced_sound m m₁ b sound w.there.block i 1 _ _ new room

  pub cut_ready : Sound m₁ × (nb ≡ blocks_of m₁) × (b ≤ b) × (b < b + 1) × (b + 1 ≤ nb)
  cut_ready = (sound₁, eb ∙ sym (spliced_blocks m m₁ b sound w.there.block i 1 _ _ new), omega arith, omega arith, omega (arith, w.there.block))

  pub raise_ready : Sound m₁ × (b < blocks_of m₁)
  raise_ready = (sound₁, rw (spliced_blocks m m₁ b sound w.there.block i 1 _ _ new) w.there.block)

  first : get_or m₁ (137 + b * 129) 0 ≡ get_or m (137 + b * 129) 0
  first =
      let t = w.there.tile in
      let n = some_pieces (start_in m b i) (past_in m b i) a size in
      elim (dec_lt 0 i) [
        | yes p ↦ first_behind m m₁ b sound w.there.block i 1 _ _ new p (omega arith) sound₁
        | no p ↦
            let z : i ≡ 0 = omega arith in
            first_kept m m₁ b sound w.there.block i 1 _ _ new (ap (λ (x : List ℕ). get_or x 0 0) new.starts ∙ start z) (omega arith) (omega (arith, new.size, n.0)) sound₁
      ]
    where
      start : i ≡ 0 → get_or (take i (starts_at b m) ++ (new_starts (start_in m b i) (past_in m b i) a size ++ drop (i + 1) (starts_at b m))) 0 0 ≡ get_or (starts_at b m) 0 0
      start z = ap (λ (k : ℕ). get_or (take k (starts_at b m) ++ (new_starts (start_in m b i) (past_in m b i) a size ++ drop (i + 1) (starts_at b m))) 0 0) z ∙ first_piece (start_in m b i) (past_in m b i) a size w.from (drop (i + 1) (starts_at b m)) 0 ∙ ap (λ (k : ℕ). get_or (starts_at b m) k 0) z

  nearly : Ready m → Nearly m₁ b b (b + 1)
  unfolding Bounded
  nearly ready =
      let st = ready.settled in
      let h = w.there.block in
      let t = new.touched in
      let n = some_pieces (start_in m b i) (past_in m b i) a size in
      let e4 = spliced_blocks m m₁ b sound h i 1 _ _ new in
      let next : (c : ℕ) → (c ≡ b → ⊥) → c + 1 < blocks_of m → get_or m₁ (137 + (c + 1) * 129) 0 ≡ get_or m (137 + (c + 1) * 129) 0 = λ c z q. elim (ℕ_discrete (c + 1) b) [ yes y ↦ rw y first | no y ↦ other_first m m₁ b sound h t (c + 1) y ] in
      record {
        many = omega (arith, new.count, n.0, st.total, three_sizes m b (blocks_of m) h, w.there.tile);
        total = spliced_total m m₁ b sound h i 1 _ _ new (omega (arith, w.there.tile)) st.total;
        some = λ c k z y. rw (other_size m m₁ b sound h t c z) (st.some c (rw e4 at k));
        spare = λ c k z. rw (other_size m m₁ b sound h t c z) (st.spare c (rw e4 at k));
        low = λ c k l. other_within m m₁ b sound h t c (rw e4 at k) (λ z. omega arith) (next c (λ z. omega arith)) (ready.bounded c (rw e4 at k));
        high = λ c k l. other_within m m₁ b sound h t c (rw e4 at k) (λ z. omega arith) (next c (λ z. omega arith)) (ready.bounded c (rw e4 at k));
      }

  -- the block ends where it did, since the next one starts where it did
  last : last_at b m₁ ≡ last_at b m
  last =
      let h = w.there.block in
      let t = new.touched in
      other_last m m₁ b sound h t b h (λ q. other_first m m₁ b sound h t (b + 1) (λ z. omega arith))

  -- its bound's word is none of its own words
  bound : bound_at b m₁ ≡ bound_at b m
  bound = let s = sound in new.touched.below (8 + b) (omega (arith, w.there.block)) (λ z. omega arith)

  -- so a bound of its free ranges is still one
  covered : Ready m → Covered m₁ b 0
  unfolding Bounded Covered
  covered ready x l k =
      let h = w.there.block in
      let n = starts_length m sound b h in
      let e = tags_length m sound b h in
      let t = w.there.tile in
      let f = within_more (past_at b m) (starts_at b m) (tags_at b m) (bound_at b m) x (omega (arith, bound)) (ready.bounded b h) in
      rw (last, new.starts, new.tags) (within_carved (past_at b m) (start_in m b i) (past_in m b i) a size tag x w.from w.to i (starts_at b m) (tags_at b m) (omega arith) (omega arith) refl refl w.free f)

  pub cut_done : (m₂ : List ℕ) → (Nearly m₁ b b (b + 1) → Turned m₁ m₂ (starts_of m₁) (tags_of m₁)) → Cut m m₂ b i a size tag true
  unfolding Cut
  cut_done m₂ f ready =
      let h = w.there.block in
      let u = f (nearly ready) in
      let l = u.laid in
      let t = new.touched in
      let k : i + 1 ≤ size_at b m = omega (arith, w.there.tile) in (
        record {
          laid = record {
            settled = l.settled;
            limit = l.limit ∙ t.below 5 (omega arith) (λ z. omega arith);
            first = l.first ∙ t.below 2 (omega arith) (λ z. omega arith);
            last = l.last ∙ t.below 3 (omega arith) (λ z. omega arith);
            starts = l.starts ∙ spliced_starts m m₁ b sound h i 1 _ _ new k;
            tags = l.tags ∙ spliced_tags m m₁ b sound h i 1 _ _ new k;
          };
          bounded = u.bounded;
        },
        room,
      )

  -- the same where the block's bound stays
  pub cut_raised : (m₂ : List ℕ) → (Nearly m₁ b b (b + 1) → Covered m₁ b 0 → Turned m₁ m₂ (starts_of m₁) (tags_of m₁)) → Cut m m₂ b i a size tag true
  unfolding Cut
  cut_raised m₂ f ready = cut_done m₂ (λ n. f n (covered ready)) ready

pub cut_full : (m m₁ : List ℕ) (b i a size tag : ℕ) {r : Bool} → Carved m m₁ b i a size tag r → r ≡ false → Cut m m₁ b i a size tag false
unfolding Carved Cut
cut_full m m₁ b i a size tag c e = rw e at c

-- lent words between two steps of `carve`
module _ (m m₁ : List ℕ) (b i : ℕ) (sound : Sound m) (h : b < blocks_of m) where
  pub grown_ready : (by : ℕ) → count_of m + by ≤ limit_of m → Grown m m₁ b i by → Sound m₁ × (b < blocks_of m₁) × (size_at b m₁ ≡ size_at b m + by)
  grown_ready by l g =
      let s = g.spliced in
      (spliced_sound m m₁ b sound h i 0 _ _ s (omega (arith, g.many)), rw (spliced_blocks m m₁ b sound h i 0 _ _ s) h, omega (arith, s.size, g.many))

  pub put_ready : (x y : ℕ) → Spliced m m₁ b i 1 (x ∷ []) (y ∷ []) → Sound m₁ × (b < blocks_of m₁) × (size_at b m₁ ≡ size_at b m) × (count_of m₁ ≡ count_of m) × (limit_of m₁ ≡ limit_of m)
  put_ready x y s =
      let c = sound.count in
      (spliced_sound m m₁ b sound h i 1 _ _ s (omega arith), rw (spliced_blocks m m₁ b sound h i 1 _ _ s) h, omega (arith, s.size), omega (arith, s.count), s.touched.below 5 (omega arith) (λ z. omega arith))
