-- What `absorb` and `melt` leave. Assumes nothing.
use Prim.Native.Nat.{ℕ, zero, suc, ◌+◌, ◌-◌, ◌*◌, ◌≤◌, ◌<◌}
use mathlib.Core.Path.{◌≡◌, refl, sym, ap, ◌∙◌}
use mathlib.Core.List.{List, [], ◌∷◌, ◌++◌}
use mathlib.Core.Bool.{Bool, true, false, cond}
use native.Mathlib.Decide.{ℕ_discrete}
use native.Mathlib.Omega.{arith}
use lib.ListN.{length, get_or, take, drop}
use Rattle.ranges.specs.Align.{Decides}
use Rattle.blocks.specs.Blocks.{blocks_of, limit_of, size_at, starts_of, tags_of, sizes, index, Sound, Bounded, Ready}
use Rattle.blocks.proofs.Parts.{sizes_snoc}
use Rattle.blocks.proofs.Flat.{all_starts, all_tags, flat_within}
use Rattle.spread.proofs.Agree.{sizes_agree}
use Rattle.splice.specs.Splice.{splice, Spliced}
use Rattle.splice.proofs.Turns.{other_size, other_first, other_within, touched_sizes, spliced_sound, spliced_blocks, spliced_starts, spliced_tags, spliced_total, first_behind}
use Rattle.melting.specs.Melting.{Free, Almost, Given, Absorbed, Melted}
use Rattle.melting.proofs.Frees.{free_by, not_free, behind_here, behind_there, decide_map, less_get, less_less, none_less}
use Rattle.melting.proofs.Gives.{turned_by, ready_almost}

module _ (m : List ℕ) (sound : Sound m) (nb b i : ℕ) (eb : nb ≡ blocks_of m) (h : b < nb) (t : i < size_at b m) where
  here : b < blocks_of m
  here = omega arith

  -- nothing is given up
  pub absorb_none : (Ready m → Free m (index b i m + 1) → ⊥) → Absorbed m m b i (b + 1)
  absorb_none f =
      record {
        sound = sound;
        blocks = refl;
        tile = t;
        from = omega arith;
        to = omega arith;
        gone = λ ready. record {
          after = false;
          told = f ready;
          almost = ready_almost m b (b + 1) ready;
          limit = refl;
          first = refl;
          last = refl;
          place = refl;
          starts = none_less (starts_of m) (index b i m + 1);
          tags = none_less (tags_of m) (index b i m + 1);
        };
      }

  pub granted_here : i + 1 < size_at b m → (get_or m (201 + b * 129 + (i + 1)) 0 ≡ 0 → ⊥) → Absorbed m m b i (b + 1)
  granted_here l n = absorb_none (λ r. not_free m sound b here (i + 1) l (index b i m + 1) (behind_here m b i) n)

  pub none_behind : size_at b m ≤ i + 1 → nb ≤ b + 1 → Absorbed m m b i (b + 1)
  unfolding index
  none_behind l q =
      let e : b + 1 ≡ blocks_of m = omega arith in
      let s : sizes 0 (blocks_of m) m ≡ sizes 0 b m + size_at b m = rw e at (sizes_snoc b m) in
      absorb_none (λ r f. omega (arith, f.within, s))

  module _ (l : size_at b m ≤ i + 1) (q : b + 1 < nb) where
    pub empty_behind : size_at (b + 1) m ≡ 0 → Absorbed m m b i (b + 1)
    empty_behind z = absorb_none (λ r f. omega (arith, r.settled.some (b + 1) (omega arith)))

    pub granted_there : (get_or m (201 + (b + 1) * 129) 0 ≡ 0 → ⊥) → Absorbed m m b i (b + 1)
    granted_there n =
        let z : 201 + (b + 1) * 129 + 0 ≡ 201 + (b + 1) * 129 = omega arith in
        absorb_none (λ r f. not_free m sound (b + 1) (omega arith) 0 (r.settled.some (b + 1) (omega arith)) (index b i m + 1) (behind_there m b i (omega arith)) (rw z n) f)

  -- the range behind is in the same block
  module _ (m₁ : List ℕ) (l : i + 1 < size_at b m) (z : get_or m (201 + b * 129 + (i + 1)) 0 ≡ 0) (s : Spliced m m₁ b (i + 1) 1 [] []) where
    sound₁ : Sound m₁
    sound₁ = spliced_sound m m₁ b sound here (i + 1) 1 [] [] s (omega (arith, sound.count))

    pub absorb_here : Absorbed m m₁ b i (b + 1)
    unfolding Bounded index
    absorb_here =
        let x = s.touched in
        let e4 = spliced_blocks m m₁ b sound here (i + 1) 1 [] [] s in
        let next : (c : ℕ) → c + 1 < blocks_of m → get_or m₁ (137 + (c + 1) * 129) 0 ≡ get_or m (137 + (c + 1) * 129) 0 = λ c q. elim (ℕ_discrete (c + 1) b) [ yes y ↦ rw y (first_behind m m₁ b sound here (i + 1) 1 [] [] s (omega arith) (omega arith) sound₁) | no y ↦ other_first m m₁ b sound here x (c + 1) y ] in
        let e = behind_here m b i in
        record {
          sound = sound₁;
          blocks = e4;
          tile = omega (arith, s.size);
          from = omega arith;
          to = omega arith;
          gone = λ ready.
              let st = ready.settled in
              record {
                after = true;
                told = free_by m sound b here (i + 1) l (index b i m + 1) e z;
                almost = record {
                  total = spliced_total m m₁ b sound here (i + 1) 1 [] [] s (omega arith) st.total;
                  some = λ c k y. rw (other_size m m₁ b sound here x c (λ w. y (omega arith))) (st.some c (rw e4 at k));
                  spare = λ c k. elim (ℕ_discrete c b) [ yes y ↦ rw y (omega (arith, s.size, st.spare b here)) | no y ↦ rw (other_size m m₁ b sound here x c y) (st.spare c (rw e4 at k)) ];
                  low = λ c k y. other_within m m₁ b sound here x c (rw e4 at k) (λ w. omega arith) (next c) (ready.bounded c (rw e4 at k));
                  high = λ c k y. other_within m m₁ b sound here x c (rw e4 at k) (λ w. omega arith) (next c) (ready.bounded c (rw e4 at k));
                };
                limit = x.below 5 (omega arith) (λ w. omega arith);
                first = x.below 2 (omega arith) (λ w. omega arith);
                last = x.below 3 (omega arith) (λ w. omega arith);
                place = ap (λ (n : ℕ). n + i) (touched_sizes m m₁ b sound here x);
                starts = rw e (spliced_starts m m₁ b sound here (i + 1) 1 [] [] s (omega arith));
                tags = rw e (spliced_tags m m₁ b sound here (i + 1) 1 [] [] s (omega arith));
              };
        }

  -- it is the first of the next block
  module _ (m₁ : List ℕ) (l : size_at b m ≤ i + 1) (q : b + 1 < nb) (p : 0 < size_at (b + 1) m) (z : get_or m (201 + (b + 1) * 129) 0 ≡ 0) (s : Spliced m m₁ (b + 1) 0 1 [] []) where
    next_block : b + 1 < blocks_of m
    next_block = omega arith

    sound₂ : Sound m₁
    sound₂ = spliced_sound m m₁ (b + 1) sound next_block 0 1 [] [] s (omega (arith, sound.count))

    pub absorb_there : Absorbed m m₁ b i (b + 1 + 1)
    unfolding Bounded index
    absorb_there =
        let x = s.touched in
        let e4 = spliced_blocks m m₁ (b + 1) sound next_block 0 1 [] [] s in
        let e = behind_there m b i (omega arith) in
        let y₀ : 201 + (b + 1) * 129 + 0 ≡ 201 + (b + 1) * 129 = omega arith in
        record {
          sound = sound₂;
          blocks = e4;
          tile = rw (other_size m m₁ (b + 1) sound next_block x b (λ w. omega arith)) t;
          from = omega arith;
          to = omega arith;
          gone = λ ready.
              let st = ready.settled in
              record {
                after = true;
                told = free_by m sound (b + 1) next_block 0 p (index b i m + 1) e (rw y₀ z);
                almost = record {
                  total = spliced_total m m₁ (b + 1) sound next_block 0 1 [] [] s (omega arith) st.total;
                  some = λ c k y. rw (other_size m m₁ (b + 1) sound next_block x c (λ w. y (omega arith))) (st.some c (rw e4 at k));
                  spare = λ c k. elim (ℕ_discrete c (b + 1)) [ yes y ↦ rw y (omega (arith, s.size, st.spare (b + 1) next_block)) | no y ↦ rw (other_size m m₁ (b + 1) sound next_block x c y) (st.spare c (rw e4 at k)) ];
                  low = λ c k y. other_within m m₁ (b + 1) sound next_block x c (rw e4 at k) (λ w. omega arith) (λ r. other_first m m₁ (b + 1) sound next_block x (c + 1) (λ w. omega arith)) (ready.bounded c (rw e4 at k));
                  high = λ c k y. other_within m m₁ (b + 1) sound next_block x c (rw e4 at k) (λ w. omega arith) (λ r. other_first m m₁ (b + 1) sound next_block x (c + 1) (λ w. omega arith)) (ready.bounded c (rw e4 at k));
                };
                limit = x.below 5 (omega arith) (λ w. omega arith);
                first = x.below 2 (omega arith) (λ w. omega arith);
                last = x.below 3 (omega arith) (λ w. omega arith);
                place = ap (λ (n : ℕ). n + i) (sizes_agree m m₁ 0 b (λ j u v. other_size m m₁ (b + 1) sound next_block x j (λ w. omega arith)));
                starts = rw e (spliced_starts m m₁ (b + 1) sound next_block 0 1 [] [] s (omega arith));
                tags = rw e (spliced_tags m m₁ (b + 1) sound next_block 0 1 [] [] s (omega arith));
              };
        }

-- range k given back, where the range behind it is gone or was not free
module _ (m m₁ m₂ : List ℕ) (u : Sound m) (u₁ : Sound m₁) (k : ℕ) (in_row : k < sizes 0 (blocks_of m) m) (el : limit_of m₁ ≡ limit_of m) (ef : get_or m₁ 2 0 ≡ get_or m 2 0) (et : get_or m₁ 3 0 ≡ get_or m 3 0) (g : Given m₁ m₂ k) where
  pub melted_alone : (Free m (k + 1) → ⊥) → starts_of m₁ ≡ splice (k + 1) 0 [] (starts_of m) → tags_of m₁ ≡ splice (k + 1) 0 [] (tags_of m) → Melted m m₂ k
  melted_alone n es₀ et₀ =
      let es : starts_of m₁ ≡ starts_of m = es₀ ∙ sym (none_less (starts_of m) (k + 1)) in
      let eg : tags_of m₁ ≡ tags_of m = et₀ ∙ sym (none_less (tags_of m) (k + 1)) in
      let len : sizes 0 (blocks_of m₁) m₁ ≡ sizes 0 (blocks_of m) m = sym (all_starts m₁ u₁) ∙ ap length es ∙ all_starts m u in
      record {
        after = false;
        before = g.before;
        told_after = n;
        told_before = decide_map g.before (λ d. (d.0, record { within = rw (sym len) d.1.within; free = rw (sym eg) d.1.free })) (λ d. (d.0, record { within = rw len d.1.within; free = rw eg d.1.free })) g.told;
        turned = turned_by m m₁ m₂ _ _ _ _ el ef et (ap (λ (x : List ℕ). splice k 1 (cond g.before [] (get_or x k 0 ∷ [])) x) es) (ap (λ (x : List ℕ). splice k 1 (cond g.before [] (0 ∷ [])) x) eg) g.turned;
      }

  pub melted_both : Free m (k + 1) → starts_of m₁ ≡ splice (k + 1) 1 [] (starts_of m) → tags_of m₁ ≡ splice (k + 1) 1 [] (tags_of m) → Melted m m₂ k
  melted_both n es eg =
      let ls = all_starts m u in
      let lt = all_tags m u in
      let w = n.within in
      let tag : (j : ℕ) → j < k + 1 → get_or (tags_of m₁) j 0 ≡ get_or (tags_of m) j 0 = λ j p. ap (λ (x : List ℕ). get_or x j 0) eg ∙ less_get (tags_of m) (k + 1) j 0 p (omega arith) in
      let start : get_or (starts_of m₁) k 0 ≡ get_or (starts_of m) k 0 = ap (λ (x : List ℕ). get_or x k 0) es ∙ less_get (starts_of m) (k + 1) k 0 (omega arith) (omega arith) in
      let in₁ : k < sizes 0 (blocks_of m₁) m₁ = kept in
      record {
        after = true;
        before = g.before;
        told_after = n;
        told_before = decide_map g.before (λ d. (d.0, record { within = omega arith; free = sym (tag (k - 1) (omega arith)) ∙ d.1.free })) (λ d. (d.0, record { within = omega arith; free = tag (k - 1) (omega arith) ∙ d.1.free })) g.told;
        turned = turned_by m m₁ m₂ _ _ _ _ el ef et
            (ap (λ (v : ℕ). splice k 1 (cond g.before [] (v ∷ [])) (starts_of m₁)) start ∙ ap (splice k 1 (cond g.before [] (get_or (starts_of m) k 0 ∷ []))) es ∙ less_less (starts_of m) (cond g.before [] (get_or (starts_of m) k 0 ∷ [])) k (omega arith))
            (ap (splice k 1 (cond g.before [] (0 ∷ []))) eg ∙ less_less (tags_of m) (cond g.before [] (0 ∷ [])) k (omega arith))
            g.turned;
      }
    where
      size : (x : List ℕ) (j : ℕ) → j < length x → length (take j x ++ drop (j + 1) x) + 1 ≡ length x
      size [] j p = absurd (omega arith)
      size (y ∷ x) zero p = omega arith
      size (y ∷ x) (suc j) p = let z : suc j + 1 ≡ suc (j + 1) = omega arith in rw z (omega (arith, size x j (omega arith)))

      kept : k < sizes 0 (blocks_of m₁) m₁
      kept = omega (arith, all_starts m₁ u₁, ap length es, size (starts_of m) (k + 1) (omega (arith, all_starts m u, n.within)), all_starts m u, n.within)

pub melt_done : (m m₁ m₂ : List ℕ) (b i hi : ℕ) → Sound m → b < blocks_of m → i < size_at b m → Absorbed m m₁ b i hi → (Almost m₁ b hi → Given m₁ m₂ (index b i m₁)) → Ready m → Melted m m₂ (index b i m)
melt_done m m₁ m₂ b i hi u h t a f ready =
    let g = a.gone ready in
    let v : Given m₁ m₂ (index b i m) = rw g.place at (f g.almost) in
    by_after g.after v g.told g.limit g.first g.last g.starts g.tags
  where
    by_after : (r : Bool) → Given m₁ m₂ (index b i m) → Decides r (Free m (index b i m + 1)) → limit_of m₁ ≡ limit_of m → get_or m₁ 2 0 ≡ get_or m 2 0 → get_or m₁ 3 0 ≡ get_or m 3 0 → starts_of m₁ ≡ splice (index b i m + 1) (cond r 1 0) [] (starts_of m) → tags_of m₁ ≡ splice (index b i m + 1) (cond r 1 0) [] (tags_of m) → Melted m m₂ (index b i m)
    by_after true v d el ef et es eg = melted_both m m₁ m₂ u a.sound (index b i m) (flat_within m u b h i t) el ef et v d es eg
    by_after false v d el ef et es eg = melted_alone m m₁ m₂ u a.sound (index b i m) (flat_within m u b h i t) el ef et v d es eg
