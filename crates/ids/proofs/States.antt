-- From the bits to the state: what the lowest zero bit says of the free ids, and what one bit changed makes of the state.
--     no_free, least_free           the two answers of `find`
--     laid_grant, laid_release    the memory after a grant and after a release
-- Assumes nothing.
use Rattle.std.proofs.Common.{Ok}
use mathlib.Core.Path.{◌≡◌, refl, sym, ap, ap₂, ◌∙◌, subst}
use mathlib.Core.Logic.{⊎_elim}
use mathlib.Core.Bool.{Bool, true, false, not, ◌&&◌, ◌||◌}
use mathlib.Core.List.{List, ◌++◌}
use Prim.Native.Nat.{ℕ, suc, ◌+◌, ◌-◌, ◌≤◌, ◌<◌, max}
use native.Mathlib.Nat.{lt_of_not-le}
use native.Mathlib.Omega.{arith}
use lib.Dec.{eqb}
use lib.ListN.{length, get_or, set, take, drop, length-set, length-append}
use lib.Seq.{get_or-set_same, get_or-set_other, drop-set-lt, length-take-le, set-get_or}
use borrow.Author.Tests.{eq-eqb, ne_eqb}
use borrow.Rule.Slice.PartMut.{mid_of}
use Rattle.ranges.specs.Align.{Decides}
use Rattle.bits.specs.Bits.{bit, Summed, Lowest, Flipped}
use Rattle.bits.proofs.Levels.{same?, front_kept, back_there, mid_tail}
use Rattle.bits.proofs.Rooms.{summed_words}
use Rattle.ids.specs.State.{State, Within, Free, grant, release, Allocates}
use Rattle.ids.specs.Layout.{as_digit, Laid}

-- a bool that decides a statement decides one that says the same
pub decides_map : (b : Bool) {P Q : Type 0} → (P → Q) → (Q → P) → Decides b P → Decides b Q
decides_map true f g d = f d
decides_map false f g d = λ q. d (g q)

-- a digit says which bool it is of
pub digit_false : (b : Bool) → as_digit b ≡ 0 → b ≡ false
digit_false true e = absurd (omega arith)
digit_false false e = refl

digit_true : (b : Bool) → as_digit b ≡ 1 → b ≡ true
digit_true true e = refl
digit_true false e = absurd (omega arith)

module _ (ws : List ℕ) (s : State) (h : Laid ws s) where
  -- an id's bit
  id_bit : (j : ℕ) → Within s j → bit (drop 4 ws) (j - s.low) ≡ as_digit (s.granted j)
  id_bit j w =
      let e : s.low + (j - s.low) ≡ j = omega (arith, w.0) in
      h.bits (j - s.low) (omega (arith, w.0, w.1)) ∙ ap (λ (x : ℕ). as_digit (s.granted x)) e

  pub bit_true : (j : ℕ) → Within s j → bit (drop 4 ws) (j - s.low) ≡ 1 → s.granted j ≡ true
  bit_true j w e = digit_true (s.granted j) (sym (id_bit j w) ∙ e)

  pub true_bit : (j : ℕ) → Within s j → s.granted j ≡ true → bit (drop 4 ws) (j - s.low) ≡ 1
  true_bit j w e = id_bit j w ∙ ap as_digit e

  -- a bit that is 1 is of an id that is not free
  one_not_free : (j : ℕ) → Free s j → bit (drop 4 ws) (j - s.low) ≡ 1 → ⊥
  one_not_free j f e = let z : bit (drop 4 ws) (j - s.low) ≡ 0 = id_bit j f.0 ∙ ap as_digit f.1 in omega arith

  -- no bit is 0: no id is free
  pub no_free : (i : ℕ) → Lowest (drop 4 ws) (s.high - s.low) i → s.high - s.low < i → (j : ℕ) → Free s j → ⊥
  no_free i l h j f =
      one_not_free j f (l.ones_below (j - s.low) (omega (arith, f.0.0, f.0.1)) (omega (arith, f.0.0, f.0.1)))

  -- the lowest bit that is 0 is of the least free id
  pub least_free : (i : ℕ) → Lowest (drop 4 ws) (s.high - s.low) i → i ≤ s.high - s.low
      → Free s (s.low + i) × ((j : ℕ) → Free s j → s.low + i ≤ j)
  least_free i l k =
      let w : Within s (s.low + i) = (omega arith, omega (arith, h.head.ordered)) in (
        (w, digit_false (s.granted (s.low + i)) (sym (h.bits i k) ∙ l.zero_there k)),
        (λ j f.
            let g : s.low + i < suc j = lt_of_not-le (λ (n : suc j ≤ s.low + i).
            one_not_free j f (l.ones_below (j - s.low) (omega (arith, f.0.0)) (omega (arith, f.0.0, f.0.1)))) in
            omega arith),
      )

  -- The memory after a change of bit i, with x as the next id: the header, and the changed level.
  module _ (i x : ℕ) (up : List ℕ) (k : i ≤ s.high - s.low) (f : Flipped (drop 4 ws) up (s.high - s.low) i)
      (sum : Summed h.levels up (s.high - s.low)) where
    after : List ℕ
    after = take 4 (set ws 3 x) ++ up

    long : 4 ≤ length (set ws 3 x)
    long = rw (length-set ws 3 x) h.long

    after_length : length after ≡ 4 + length up
    unfolding after
    after_length = length-append (take 4 (set ws 3 x)) up ∙ ap (λ (n : ℕ). n + length up) (length-take-le 4 (set ws 3 x) long)

    -- the header's other words
    kept : (k : ℕ) → k < 4 → (k ≡ 3 → ⊥) → get_or after k 0 ≡ get_or ws k 0
    unfolding after
    kept k l n = front_kept 4 (set ws 3 x) up k long l ∙ get_or-set_other ws 3 k x 0 n

    -- the new state has the low and the high id, x as the next one, and granted as the bits say
    made : (g : ℕ → Bool) → ((j : ℕ) → j ≤ s.high - s.low → bit up j ≡ as_digit (g (s.low + j)))
        → Laid after (record { low = s.low; high = s.high; next = x; granted = g })
    unfolding after
    made g b =
        record {
          long = omega (arith, after_length);
          head =
              record {
                marked = kept 0 (omega arith) (λ e. omega arith) ∙ h.head.marked;
                ordered = h.head.ordered;
                small = h.head.small;
                words = h.head.words;
                taken = h.head.taken;
                enough = omega (arith, after_length, summed_words h.head.taken h.levels up sum);
              };
          low = kept 1 (omega arith) (λ e. omega arith) ∙ h.low;
          high = kept 2 (omega arith) (λ e. omega arith) ∙ h.high;
          next = front_kept 4 (set ws 3 x) up 3 long (omega arith) ∙ get_or-set_same ws 3 x 0 (omega (arith, h.long));
          levels = h.levels;
          summed = subst (λ (l : List ℕ). Summed h.levels l (s.high - s.low)) (sym (back_there 4 (set ws 3 x) up long)) sum;
          bits = λ j l. ap (λ (v : List ℕ). bit v j) (back_there 4 (set ws 3 x) up long) ∙ b j l;
        }

    -- the bits of the changed level, where the id's new digit is d and the others are as they were
    changed : (g : ℕ → Bool) → 1 - bit (drop 4 ws) i ≡ as_digit (g (s.low + i))
        → ((j : ℕ) → (j ≡ s.low + i → ⊥) → g j ≡ s.granted j)
        → (j : ℕ) → j ≤ s.high - s.low → bit up j ≡ as_digit (g (s.low + j))
    changed g e o j l =
        ⊎_elim
        (λ (q : j ≡ i). ap (bit up) q ∙ f.there ∙ e ∙ ap (λ (y : ℕ). as_digit (g (s.low + y))) (sym q))
        (λ (n : j ≡ i → ⊥).
        f.elsewhere j l n ∙ h.bits j l ∙ ap as_digit (sym (o (s.low + j) (λ q. n (omega arith)))))
        (same? j i)

    pub laid_grant : s.granted (s.low + i) ≡ false → x ≡ max s.next (s.low + i + 1)
        → Laid (take 4 (set ws 3 x) ++ up) (grant s (s.low + i))
    unfolding after
    laid_grant z e =
        subst (λ (y : ℕ). Laid (take 4 (set ws 3 x) ++ up) (record { low = s.low; high = s.high; next = y; granted = (grant s (s.low + i)).granted })) e
        (made (grant s (s.low + i)).granted
        (changed (grant s (s.low + i)).granted
        (let b : bit (drop 4 ws) i ≡ 0 = h.bits i k ∙ ap as_digit z in
        let t : as_digit (eqb (s.low + i) (s.low + i) || s.granted (s.low + i)) ≡ 1 =
        ap (λ (c : Bool). as_digit (c || s.granted (s.low + i))) (eq-eqb (s.low + i) (s.low + i) refl) in
        omega arith)
        (λ j n. ap (λ (c : Bool). c || s.granted j) (ne_eqb j (s.low + i) n))))

    pub laid_release : s.granted (s.low + i) ≡ true → x ≡ s.next
        → Laid (take 4 (set ws 3 x) ++ up) (release s (s.low + i))
    unfolding after
    laid_release z e =
        subst (λ (y : ℕ). Laid (take 4 (set ws 3 x) ++ up) (record { low = s.low; high = s.high; next = y; granted = (release s (s.low + i)).granted })) e
        (made (release s (s.low + i)).granted
        (changed (release s (s.low + i)).granted
        (let b : bit (drop 4 ws) i ≡ 1 = h.bits i k ∙ ap as_digit z in
        let t : as_digit (not (eqb (s.low + i) (s.low + i)) && s.granted (s.low + i)) ≡ 0 =
        ap (λ (c : Bool). as_digit (not c && s.granted (s.low + i))) (eq-eqb (s.low + i) (s.low + i) refl) in
        omega arith)
        (λ j n. ap (λ (c : Bool). not c && s.granted j) (ne_eqb j (s.low + i) n))))

  -- ---- in the code's terms: the functions on the levels speak of the part of the slice from word 4 on, and of any number of levels

  -- what `find` says of the bits from word 3 on
  pub found : (n i : ℕ) → n ≡ s.high - s.low
      → ((d : ℕ) → Summed d (mid_of 4 (length ws - 4) ws) n → Lowest (mid_of 4 (length ws - 4) ws) n i)
      → Lowest (drop 4 ws) (s.high - s.low) i
  found n i e said =
      subst (λ (m : ℕ). Lowest (drop 4 ws) m i) e
      ((rw (mid_tail 4 ws) at said) h.levels (subst (λ (m : ℕ). Summed h.levels (drop 4 ws) m) (sym e) h.summed))

  -- what `flip` says of them, after x was stored as the next id
  pub flipped : (n i x : ℕ) (up : List ℕ) → n ≡ s.high - s.low → i ≤ n
      → ((d : ℕ) → Summed d (mid_of 4 (length (set ws 3 x) - 4) (set ws 3 x)) n → i ≤ n
      → Flipped (mid_of 4 (length (set ws 3 x) - 4) (set ws 3 x)) up n i × Summed d up n)
      → Flipped (drop 4 ws) up (s.high - s.low) i × Summed h.levels up (s.high - s.low)
  flipped n i x up e k said =
      let tail : mid_of 4 (length (set ws 3 x) - 4) (set ws 3 x) ≡ drop 4 ws = mid_tail 4 (set ws 3 x) ∙ drop-set-lt 4 ws 3 x (omega arith) in
      subst (λ (m : ℕ). Flipped (drop 4 ws) up m i × Summed h.levels up m) e
      ((rw tail at said) h.levels (subst (λ (m : ℕ). Summed h.levels (drop 4 ws) m) (sym e) h.summed) k)

  -- the least free id, and the memory after its grant
  pub granting : (low n i x : ℕ) (up : List ℕ) → low ≡ s.low → n ≡ s.high - s.low → i ≤ n
      → Lowest (drop 4 ws) (s.high - s.low) i
      → Flipped (drop 4 ws) up (s.high - s.low) i × Summed h.levels up (s.high - s.low)
      → x ≡ max (get_or ws 3 0) (low + i + 1)
      → Allocates s (Ok (low + i)) × Laid (take 4 (set ws 3 x) ++ up) (grant s (low + i))
  granting low n i x up a e k l f m =
      let in_gap : i ≤ s.high - s.low = omega arith in
      let free = least_free i l in_gap in
      subst (λ (y : ℕ). Allocates s (Ok (y + i)) × Laid (take 4 (set ws 3 x) ++ up) (grant s (y + i))) (sym a)
      (free, laid_grant i x up in_gap f.0 f.1 free.0.1 (m ∙ ap₂ (λ (p q : ℕ). max p (q + i + 1)) h.next a))

  -- an id's bit decides whether the id is granted
  pub bit_decides : (b : Bool) (low j : ℕ) → low ≡ s.low → Within s j
      → Decides b (bit (mid_of 4 (length ws - 4) ws) (j - low) ≡ 1) → Decides b (Within s j × (s.granted j ≡ true))
  bit_decides b low j e w d =
      decides_map b (λ o. (w, bit_true j w o)) (λ q. true_bit j w q.1)
      (subst (λ (x : ℕ). Decides b (bit (drop 4 ws) (j - x) ≡ 1)) e (rw (mid_tail 4 ws) at d))

  -- a granted id, and the memory after its release
  pub releasing : (n i j : ℕ) (up : List ℕ) → n ≡ s.high - s.low → Within s j → i ≡ j - s.low → s.granted j ≡ true
      → ((d : ℕ) → Summed d (mid_of 4 (length ws - 4) ws) n → i ≤ n
      → Flipped (mid_of 4 (length ws - 4) ws) up n i × Summed d up n)
      → Laid (take 4 ws ++ up) (release s j)
  releasing n i j up e w a z said =
      let x : ℕ = get_or ws 3 0 in
      let same : set ws 3 x ≡ ws = set-get_or ws 3 0 in
      let k : i ≤ s.high - s.low = omega (arith, w.0, w.1) in
      let back : s.low + i ≡ j = omega (arith, w.0) in
      let f = flipped n i x up e (omega arith)
      (subst (λ (v : List ℕ). (d : ℕ) → Summed d (mid_of 4 (length v - 4) v) n → i ≤ n
      → Flipped (mid_of 4 (length v - 4) v) up n i × Summed d up n) (sym same) said) in
      subst (λ (v : List ℕ). Laid (take 4 v ++ up) (release s j)) same
      (subst (λ (y : ℕ). Laid (take 4 (set ws 3 x) ++ up) (release s y)) back
      (laid_release i x up k f.0 f.1 (ap s.granted back ∙ z) h.next))
