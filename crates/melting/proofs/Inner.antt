-- A range given back that is neither the first nor the last of its block. Assumes nothing.
use Prim.Native.Nat.{ℕ, ◌+◌, ◌-◌, ◌≤◌, ◌<◌}
use mathlib.Core.Path.{◌≡◌, refl, sym, ap, ◌∙◌}
use mathlib.Core.List.{List, [], ◌∷◌, ◌++◌}
use mathlib.Core.Bool.{Bool, true, false, cond}
use native.Mathlib.Decide.{dec_lt}
use native.Mathlib.Omega.{arith}
use lib.ListN.{length, get_or, take, drop, length-append, length-drop, get_or-append}
use lib.Seq.{length-take-le, get_or-take, get_or-drop, get_or-append-add}
use Rattle.ranges.specs.Align.{Decides}
use Rattle.blocks.specs.Blocks.{blocks_of, size_at, bound_at, starts_at, tags_at, past_at, starts_of, tags_of, index, Within, Sound, Bounded, Ready}
use Rattle.blocks.proofs.Parts.{start_at, starts_length, tags_length, three_sizes}
use Rattle.blocks.proofs.Flat.{flat_start, flat_tag, flat_within}
use Rattle.spread.specs.Spread.{Turned, Nearly, Covered}
use Rattle.splice.specs.Splice.{splice, Spliced}
use Rattle.splice.proofs.Turns.{other_first, other_last, spliced_sound, spliced_blocks, touch_on}
use Rattle.melting.specs.Melting.{Free, Melted}
use Rattle.melting.proofs.Frees.{before_here, pos_here, behind_here, decide_map, less_less}
use Rattle.melting.proofs.Gives.{ready_almost, give_turned}

-- the cells of a list whose `by` cells at i are given up for others
module _ (x n : List ℕ) (i by : ℕ) (l : i + by ≤ length x) where
  head : length (take i x) ≡ i
  head = length-take-le i x (omega arith)

  splice_below : (j d : ℕ) → j < i → get_or (splice i by n x) j d ≡ get_or x j d
  splice_below j d h = get_or-append (take i x) (n ++ drop (i + by) x) d j (omega (arith, head)) ∙ get_or-take i x j d h

  splice_from : (j d : ℕ) → get_or (splice i by n x) (i + j) d ≡ get_or (n ++ drop (i + by) x) j d
  splice_from j d = rw head at (get_or-append-add (take i x) (n ++ drop (i + by) x) j d)

  splice_above : (j k d : ℕ) → j + by ≡ k + length n → i + by ≤ k → get_or (splice i by n x) j d ≡ get_or x k d
  splice_above j k d e h =
      let p : i + (length n + (k - (i + by))) ≡ j = omega arith in
      let q : i + by + (k - (i + by)) ≡ k = omega arith in
      rw (p, q) at (splice_from (length n + (k - (i + by))) d ∙ get_or-append-add n (drop (i + by) x) (k - (i + by)) d ∙ get_or-drop (i + by) x (k - (i + by)) d)

  splice_length : length (splice i by n x) + by ≡ length x + length n
  splice_length = simp (length-append, length-drop) (omega (arith, head))

-- w is a bound of the ranges, and x is no lower
module _ (top w x i by : ℕ) (ss ts : List ℕ) (k : w ≤ x) (l : i + by ≤ length ss) (as_many : length ts ≡ length ss) (old : Within top ss ts w) where
  -- every range but those at the change keeps its start and the next one's
  around : (ns nt : List ℕ) → length nt ≡ length ns → ((j : ℕ) → i ≤ j + 1 → j < i + length ns → get_or (splice i by nt ts) j 0 ≡ 0 → get_or (splice i by ns ss) (j + 1) top ≤ get_or (splice i by ns ss) j 0 + x + 1) → Within top (splice i by ns ss) (splice i by nt ts) x
  unfolding Within
  around ns nt e f j h z =
      elim (dec_lt (j + 1) i) [
        | yes p ↦
            let t : get_or ts j 0 ≡ 0 = sym (splice_below ts nt i by (omega arith) j 0 (omega arith)) ∙ z in
            omega (arith, old j (omega arith) t, splice_below ss ns i by l j 0 (omega arith), splice_below ss ns i by l (j + 1) top p)
        | no p ↦ elim (dec_lt j (i + length ns)) [ yes q ↦ f j (omega arith) q z | no q ↦ above (omega arith) ]
      ]
    where
      above : i + length ns ≤ j → get_or (splice i by ns ss) (j + 1) top ≤ get_or (splice i by ns ss) j 0 + x + 1
      above q =
          let c : ℕ = j + by - length ns in
          let t : get_or ts c 0 ≡ 0 = sym (splice_above ts nt i by (omega arith) j c 0 (omega arith) (omega arith)) ∙ z in
          omega (arith, old c (omega (arith, splice_length ss ns i by l)) t, splice_above ss ns i by l j c 0 (omega arith) (omega arith), splice_above ss ns i by l (j + 1) (c + 1) top (omega arith) (omega arith))

  -- ranges given up: the one before them ends where the last of them did
  within_less : 0 < i → get_or ss (i + by) top ≤ get_or ss (i - 1) 0 + x + 1 → Within top (splice i by [] ss) (splice i by [] ts) x
  within_less p f =
      around [] [] refl (λ j a b z.
      let e : i - 1 ≡ j = omega arith in
      let g : get_or ss (i + by) top ≤ get_or ss j 0 + x + 1 = rw e at f in
      omega (arith, g, splice_below ss [] i by l j 0 (omega arith), splice_above ss [] i by l (j + 1) (i + by) top (omega arith) (omega arith)))

  -- ranges given up for a free one that starts where the first of them did
  within_put : (s : ℕ) → get_or ss i top ≡ s → get_or ss (i + by) top ≤ s + x + 1 → Within top (splice i by (s ∷ []) ss) (splice i by (0 ∷ []) ts) x
  unfolding Within
  within_put s e f = around (s ∷ []) (0 ∷ []) refl (λ j a b z. elim (dec_lt j i) [ yes p ↦ seam j a p z | no p ↦ here j (omega arith) ])
    where
      start : (d : ℕ) → get_or (splice i by (s ∷ []) ss) i d ≡ s
      start d = let y : i + 0 ≡ i = omega arith in rw y at (splice_from ss (s ∷ []) i by l 0 d)

      seam : (j : ℕ) → i ≤ j + 1 → j < i → get_or (splice i by (0 ∷ []) ts) j 0 ≡ 0 → get_or (splice i by (s ∷ []) ss) (j + 1) top ≤ get_or (splice i by (s ∷ []) ss) j 0 + x + 1
      seam j a p z =
          let y : i ≡ j + 1 = omega arith in
          let t : get_or ts j 0 ≡ 0 = sym (splice_below ts (0 ∷ []) i by (omega arith) j 0 p) ∙ z in
          let u : get_or (splice i by (s ∷ []) ss) (j + 1) top ≡ s = ap (λ (c : ℕ). get_or (splice i by (s ∷ []) ss) c top) (sym y) ∙ start top in
          let v : get_or ss (j + 1) top ≡ s = ap (λ (c : ℕ). get_or ss c top) (sym y) ∙ e in
          omega (arith, old j (omega arith) t, splice_below ss (s ∷ []) i by l j 0 p)

      here : (j : ℕ) → j ≡ i → get_or (splice i by (s ∷ []) ss) (j + 1) top ≤ get_or (splice i by (s ∷ []) ss) j 0 + x + 1
      here j y = rw y (omega (arith, start 0, splice_above ss (s ∷ []) i by l (i + 1) (i + by) top (omega arith) (omega arith)))

  -- the one or the other: the free range that is there then starts where range i - 1 or range i did
  pub within_change : (before : Bool) (s : ℕ) → ((d : ℕ) → get_or ss i d ≡ s) → 0 < i → get_or ss (i + by) top ≤ get_or ss (cond before (i - 1) i) 0 + x + 1 → Within top (splice i by (cond before [] (s ∷ [])) ss) (splice i by (cond before [] (0 ∷ [])) ts) x
  within_change true s e p f = within_less p f
  within_change false s e p f = within_put s (e top) (omega (arith, e 0))

-- a range of block b
module _ (m : List ℕ) (sound : Sound m) (b : ℕ) (h : b < blocks_of m) (j : ℕ) (l : j < size_at b m) where
  -- it has a start, so none is made up
  pub start_any : (d : ℕ) → get_or (starts_at b m) j d ≡ get_or (starts_at b m) j 0
  start_any d = start_at m sound b h j d l ∙ sym (start_at m sound b h j 0 l)

  -- its tag tells of the table's range
  tag_tells : (r : Bool) (k : ℕ) → k ≡ index b j m → Decides r (get_or (tags_at b m) j 0 ≡ 0) → Decides r (Free m k)
  tag_tells r k e =
      let q = flat_tag m sound b h j 0 l in
      rw e (decide_map r (λ z. record { within = flat_within m sound b h j l; free = q ∙ z }) (λ f. sym q ∙ f.free))

-- what `inside` knows of its range
module _ (m m₁ : List ℕ) (sound : Sound m) (nb b i : ℕ) (eb : nb ≡ blocks_of m) (h : b < nb) (p : 0 < i) (t : i + 1 < size_at b m) where
  here : b < blocks_of m
  here = omega arith

  -- the range behind it is given up before it is made free
  pub gone_ready : Spliced m m₁ b (i + 1) 1 [] [] → Sound m₁ × (b < blocks_of m₁) × (i < size_at b m₁)
  gone_ready u =
      (spliced_sound m m₁ b sound here (i + 1) 1 [] [] u (omega (arith, sound.count)), rw (spliced_blocks m m₁ b sound here (i + 1) 1 [] [] u) here, omega (arith, u.size))

  pub gone_both : (m₂ : List ℕ) (s : ℕ) → Spliced m m₁ b (i + 1) 1 [] [] → Spliced m₁ m₂ b i 1 (s ∷ []) (0 ∷ []) → Spliced m m₂ b i 2 (s ∷ []) (0 ∷ [])
  gone_both m₂ s u v =
      record {
        touched = touch_on b m m₁ m₂ u.touched v.touched;
        size = omega (arith, u.size, v.size);
        count = omega (arith, u.count, v.count);
        starts = v.starts ∙ ap (splice i 1 (s ∷ [])) u.starts ∙ less_less (starts_at b m) (s ∷ []) i (omega (arith, starts_length m sound b here));
        tags = v.tags ∙ ap (splice i 1 (0 ∷ [])) u.tags ∙ less_less (tags_at b m) (0 ∷ []) i (omega (arith, tags_length m sound b here));
      }

  -- one or two ranges are given up for one or none
  module _ (after before : Bool) (s : ℕ) (es : s ≡ get_or (starts_at b m) i 0) (u : Spliced m m₁ b i (cond after 2 1) (cond before [] (s ∷ [])) (cond before [] (0 ∷ []))) where
    -- how many
    two : (r : Bool) → (1 ≤ cond r 2 1) × (cond r 2 1 ≤ 2)
    two true = (omega arith, omega arith)
    two false = (omega arith, omega arith)

    one : (r : Bool) → length (cond r [] (s ∷ [])) ≤ 1
    one true = omega arith
    one false = omega arith

    -- what `raise` asks
    pub inside_ready : Sound m₁ × (b < blocks_of m₁)
    inside_ready =
        (spliced_sound m m₁ b sound here i (cond after 2 1) (cond before [] (s ∷ [])) (cond before [] (0 ∷ [])) u (omega (arith, sound.count, two after, one before)), rw (spliced_blocks m m₁ b sound here i (cond after 2 1) (cond before [] (s ∷ [])) (cond before [] (0 ∷ [])) u) here)

    -- the block ends where it did, and its bound is what it was
    past_kept : past_at b m₁ ≡ past_at b m
    past_kept = ap (λ (n : ℕ). n + 1) (other_last m m₁ b sound here u.touched b here (λ q. other_first m m₁ b sound here u.touched (b + 1) (λ z. omega arith)))

    bound_kept : bound_at b m₁ ≡ bound_at b m
    bound_kept = let k = sound in u.touched.below (8 + b) (omega arith) (λ z. omega arith)

    -- so a number that is no lower than the bound and the length of the new free range is a bound
    covered : (w : ℕ) → get_or (starts_at b m) (i + cond after 2 1) (past_at b m) ≤ get_or (starts_at b m) (cond before (i - 1) i) 0 + w + 1 → Ready m → Covered m₁ b w
    unfolding Covered Bounded
    covered w f ready x l k =
        let n = starts_length m sound b here in
        let q = tags_length m sound b here in
        let y = two after in
        rw (past_kept, u.starts, u.tags) (within_change (past_at b m) (bound_at b m) x i (cond after 2 1) (starts_at b m) (tags_at b m) (omega (arith, bound_kept)) (omega arith) (omega arith) (ready.bounded b here) before s (λ d. start_any m sound b here i (omega arith) d ∙ sym es) p (omega arith))

    -- where f is the first address of the new free range and e is its last, range i is given back
    pub inside_done : (m₂ : List ℕ) (e f w : ℕ) → Decides after (get_or (tags_at b m) (i + 1) 0 ≡ 0) → Decides before (get_or (tags_at b m) (i - 1) 0 ≡ 0) → get_or (starts_at b m) (cond after (i + 1) i + 1) (past_at b m) ≤ e + 1 → f ≡ get_or (starts_at b m) (cond before (i - 1) i) 0 → e ≤ f + w → (Nearly m₁ b b (b + 1) → Covered m₁ b w → Turned m₁ m₂ (starts_of m₁) (tags_of m₁)) → Ready m → Melted m m₂ (index b i m)
    inside_done m₂ e f w ta tb le ef lw raised ready =
        let y = two after in
        let q : get_or (starts_of m) (index b i m) 0 ≡ s = flat_start m sound b here i 0 (omega arith) ∙ sym es in
        let z : cond after (i + 1) i + 1 ≡ i + cond after 2 1 = sum after in
        let g : get_or (starts_at b m) (i + cond after 2 1) (past_at b m) ≤ e + 1 = rw z at le in
        record {
          after = after;
          before = before;
          told_after = tag_tells m sound b here (i + 1) t after (index b i m + 1) (behind_here m b i) ta;
          told_before = decide_map before (λ d. (pos_here m b i p, d)) (λ d. d.1) (tag_tells m sound b here (i - 1) (omega arith) before (index b i m - 1) (before_here m b i p) tb);
          turned = rw q (give_turned m m₁ sound nb b i (cond after 2 1) b (b + 1) eb (omega arith) (omega arith) (omega arith) (cond before [] (s ∷ [])) (cond before [] (0 ∷ [])) (omega (arith, one before)) u (omega arith) (omega arith) (λ v k. omega arith) (omega (arith, u.count, ready.settled.total, three_sizes m b (blocks_of m) here)) (ready_almost m b (b + 1) ready) m₂ (λ n. raised n (covered w (omega arith) ready)));
        }
      where
        sum : (r : Bool) → cond r (i + 1) i + 1 ≡ i + cond r 2 1
        sum true = omega arith
        sum false = omega arith
