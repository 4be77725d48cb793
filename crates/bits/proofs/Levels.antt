-- Bits of a run of words with summaries behind it: finding the lowest zero, and changing one bit.
--     find_bottom, find_none, find_some     the three answers of `find`
--     word_flipped                          one digit of one word changed: one bit changed
--     keep_bottom, keep_level, keep_raised  the summaries still agree: one word; none to change; changed above
--     flip_bottom, flip_level, flip_raised  the three ends of `flip`
--     mid_tail, put_tail                    the part of a slice from a on, lent and given back
-- Assumes nothing.
use mathlib.Core.Path.{◌≡◌, refl, sym, ap, ◌∙◌, subst}
use mathlib.Core.Bool.{Bool, true, false}
use lib.Dec.{eqb}
use borrow.Author.Tests.{eq-eqb}
use Rattle.std.proofs.lemmas.Bool.{eqb-true}
use Rattle.ranges.specs.Align.{Decides}
use mathlib.Core.Logic.{◌⊎◌, inl, inr, ⊎_elim}
use mathlib.Core.List.{List, ◌++◌, append-nil}
use Prim.Native.Nat.{ℕ, zero, suc, ◌+◌, ◌-◌, ◌*◌, ◌/◌, ◌%◌, ◌^◌, ◌≤◌, ◌<◌}
use native.Mathlib.Nat.{eq-or-lt_of_le, le_of_eq, mod-lt, zero-div}
use native.Mathlib.Omega.{arith}
use lib.Arith.{lt_of_le-ne}
use lib.Pow.{pow_pos}
use lib.ListN.{length, get_or, set, take, drop, length-set, length-drop, drop_of_length-le, get_or-append, get_or-eq_default}
use lib.Seq.{get_or-set_same, get_or-set_other, drop-set-lt, take_all, get_or-take, drop_at, length-take-le}
use borrow.Rule.Slice.PartMut.{mid_of, put_mid}
use Rattle.bits.specs.Bits.{digit, bit, LowOnes, Toggled, Summed, Lowest, Flipped}
use Rattle.bits.proofs.Digits.{full_digit}

-- two numbers are equal or not
pub same? : (a b : ℕ) → (a ≡ b) ⊎ (a ≡ b → ⊥)
same? zero zero = inl refl
same? zero (suc b) = inr (λ e. omega arith)
same? (suc a) zero = inr (λ e. omega arith)
same? (suc a) (suc b) = ⊎_elim (λ e. inl (ap suc e)) (λ f. inr (λ e. f (omega arith))) (same? a b)

-- ---- bits and words

-- a bit by its word and its digit
pub bit_in : (ws : List ℕ) (j q : ℕ) → j / 64 ≡ q → bit ws j ≡ digit (get_or ws q 0) (j % 64)
unfolding bit
bit_in ws j q e = ap (λ (x : ℕ). digit (get_or ws x 0) (j % 64)) e

pub bit_at : (ws : List ℕ) (q r : ℕ) → r < 64 → bit ws (q * 64 + r) ≡ digit (get_or ws q 0) r
bit_at ws q r h =
    let e : (q * 64 + r) / 64 ≡ q = omega arith in
    let f : (q * 64 + r) % 64 ≡ r = omega arith in
    bit_in ws (q * 64 + r) q e ∙ ap (digit (get_or ws q 0)) f

-- a bit of the first word
pub bit_first : (ws : List ℕ) (j : ℕ) → j < 64 → bit ws j ≡ digit (get_or ws 0 0) j
bit_first ws j h =
    let e : j / 64 ≡ 0 = omega arith in
    let f : j % 64 ≡ j = omega arith in
    bit_in ws j 0 e ∙ ap (digit (get_or ws 0 0)) f

-- a bit is 0 or 1
pub bit_lt : (ws : List ℕ) (j : ℕ) → bit ws j < 2
unfolding bit digit
bit_lt ws j = mod-lt (get_or ws (j / 64) 0 / 2 ^ (j % 64)) (pow_pos 1)

-- past the end of the words every bit is 0
pub bit_past : (ws : List ℕ) (j : ℕ) → length ws ≤ j / 64 → bit ws j ≡ 0
unfolding bit digit
bit_past ws j h =
    ap (λ (x : ℕ). x / 2 ^ (j % 64) % 2) (get_or-eq_default ws 0 h) ∙ ap (λ (x : ℕ). x % 2) (zero-div (2 ^ (j % 64)))

-- whether the digit is 1 says whether the bit is
decides_one : (b : Bool) (n : ℕ) → b ≡ eqb n 1 → Decides b (n ≡ 1)
decides_one true n e = eqb-true n 1 (sym e)
decides_one false n e = λ h. cc (e, eq-eqb n 1 h)

pub bit_decides : (ws : List ℕ) (j : ℕ) → Decides (eqb (get_or ws (j / 64) 0 / 2 ^ (j % 64) % 2) 1) (bit ws j ≡ 1)
unfolding bit digit
bit_decides ws j = decides_one (eqb (get_or ws (j / 64) 0 / 2 ^ (j % 64) % 2) 1) (get_or ws (j / 64) 0 / 2 ^ (j % 64) % 2) refl

-- a bit of a full word
pub full_bit : (ws : List ℕ) (j : ℕ) → get_or ws (j / 64) 0 ≡ 2 ^ 64 - 1 → bit ws j ≡ 1
full_bit ws j e = bit_in ws j (j / 64) refl ∙ ap (λ (x : ℕ). digit x (j % 64)) e ∙ full_digit 64 (j % 64) (omega arith)

-- the level's words are there
pub summed_room : (d : ℕ) (ws : List ℕ) (last : ℕ) → Summed d ws last → last / 64 < length ws
unfolding Summed
summed_room zero ws last s = omega (arith, s.0, s.1)
summed_room (suc d) ws last s = s.1

-- ---- find

-- a level of one word
pub find_bottom : (ws : List ℕ) (last r : ℕ) → last / 64 ≡ 0 → LowOnes 64 (get_or ws 0 0) r → Lowest ws last r
find_bottom ws last r b o =
    record {
      zero_there = λ h. let l : r < 64 = omega arith in bit_first ws r l ∙ o.then_zero l;
      ones_below = λ j l h. bit_first ws j (omega arith) ∙ o.ones j l;
    }

module _ (ws : List ℕ) (last i : ℕ) (more : last / 64 ≡ 0 → ⊥) where
  -- what the call for the level above has said
  abbrev Said : Type 0
  Said = (d : ℕ) → Summed d (drop (last / 64 + 1) ws) (last / 64) → Lowest (drop (last / 64 + 1) ws) (last / 64) i

  -- every bit above is set: every word is full
  pub find_none : (d r : ℕ) → Summed d ws last → Said → last / 64 < i → last < r → Lowest ws last r
  unfolding Summed
  find_none zero r s said h l = absurd (more (omega (arith, s.0)))
  find_none (suc d) r s said h l =
      record {
        zero_there = λ k. absurd (omega arith);
        ones_below = λ j k m. full_bit ws j (s.3 (j / 64) (omega arith) ((said d s.4).ones_below (j / 64) (omega arith) (omega arith)));
      }

  -- word i is the first that is not full
  pub find_some : (d t : ℕ) → Summed d ws last → Said → i ≤ last / 64 → LowOnes 64 (get_or ws i 0) t → Lowest ws last (i * 64 + t)
  unfolding Summed
  find_some zero t s said h o = absurd (more (omega (arith, s.0)))
  find_some (suc d) t s said h o =
      let up = said d s.4 in
      let not_full : t ≡ 64 → ⊥ = λ e. let one = s.2 i h (o.all e) in omega (arith, up.zero_there h) in
      let l : t < 64 = lt_of_le-ne o.within not_full in
      record {
        zero_there = λ k. bit_at ws i t l ∙ o.then_zero l;
        ones_below = λ j k m.
            ⊎_elim
            (λ (e : j / 64 ≡ i). bit_in ws j i e ∙ o.ones (j % 64) (omega arith))
            (λ (b : j / 64 < i). full_bit ws j (s.3 (j / 64) (omega arith) (up.ones_below (j / 64) b (omega arith))))
            (eq-or-lt_of_le (let q : j / 64 ≤ i = omega arith in q));
      }

-- ---- flip

-- Word i / 64 of ws has digit i % 64 changed, to v. vs has v there, and the level's other words as they were.
module _ (ws vs : List ℕ) (last i v : ℕ) (changed : Toggled (get_or ws (i / 64) 0) v (i % 64))
    (here : get_or vs (i / 64) 0 ≡ v) (others : (k : ℕ) → k ≤ last / 64 → (k ≡ i / 64 → ⊥) → get_or vs k 0 ≡ get_or ws k 0) where
  pub word_flipped : Flipped ws vs last i
  word_flipped =
      record {
        there =
            bit_in vs i (i / 64) refl ∙ ap (λ (x : ℕ). digit x (i % 64)) here ∙ changed.there
            ∙ ap (λ (x : ℕ). 1 - x) (sym (bit_in ws i (i / 64) refl));
        elsewhere = λ j l f.
            ⊎_elim
            (λ (e : j / 64 ≡ i / 64).
            bit_in vs j (i / 64) e ∙ ap (λ (x : ℕ). digit x (j % 64)) here
            ∙ changed.elsewhere (j % 64) (λ g. f (omega arith)) ∙ sym (bit_in ws j (i / 64) e))
            (λ (n : j / 64 ≡ i / 64 → ⊥).
            bit_in vs j (j / 64) refl ∙ ap (λ (x : ℕ). digit x (j % 64)) (others (j / 64) (omega arith) n) ∙ sym (bit_in ws j (j / 64) refl))
            (same? (j / 64) (i / 64));
      }

  -- a level of one word has no summary
  pub keep_bottom : (d : ℕ) → last / 64 ≡ 0 → length vs ≡ length ws → Summed d ws last → Summed d vs last
  unfolding Summed
  keep_bottom zero b e s = (s.0, omega (arith, s.1))
  keep_bottom (suc d) b e s = absurd (omega (arith, s.0))

  -- the word neither was full nor is, and the level above is as it was
  pub keep_level : (d : ℕ) → (last / 64 ≡ 0 → ⊥) → length vs ≡ length ws
      → drop (last / 64 + 1) vs ≡ drop (last / 64 + 1) ws
      → (get_or ws (i / 64) 0 ≡ 2 ^ 64 - 1 → ⊥) → (v ≡ 2 ^ 64 - 1 → ⊥) → i ≤ last → Summed d ws last → Summed d vs last
  unfolding Summed
  keep_level zero m e above p q h s = absurd (m (omega (arith, s.0)))
  keep_level (suc d) m e above p q h s = (
    s.0,
    omega (arith, s.1),
    (λ k l f. ⊎_elim
        (λ (g : k ≡ i / 64). absurd (q (sym here ∙ ap (λ (x : ℕ). get_or vs x 0) (sym g) ∙ f)))
        (λ n. ap (λ (a : List ℕ). bit a k) above ∙ s.2 k l (sym (others k l n) ∙ f))
        (same? k (i / 64))),
    (λ k l f. ⊎_elim
        (λ (g : k ≡ i / 64). absurd (p (ap (λ (x : ℕ). get_or ws x 0) (sym g) ∙ s.3 k l (ap (λ (a : List ℕ). bit a k) (sym above) ∙ f))))
        (λ n. others k l n ∙ s.3 k l (ap (λ (a : List ℕ). bit a k) (sym above) ∙ f))
        (same? k (i / 64))),
    subst (λ (a : List ℕ). Summed d a (last / 64)) (sym above) s.4,
  )

  -- the word was full or has become full, and its bit above has changed
  pub keep_raised : (d : ℕ) (up : List ℕ) → (last / 64 ≡ 0 → ⊥) → length vs ≡ length ws → drop (last / 64 + 1) vs ≡ up
      → ((d : ℕ) → Summed d (drop (last / 64 + 1) ws) (last / 64) → i / 64 ≤ last / 64
      → Flipped (drop (last / 64 + 1) ws) up (last / 64) (i / 64) × Summed d up (last / 64))
      → (get_or ws (i / 64) 0 ≡ 2 ^ 64 - 1) ⊎ ((get_or ws (i / 64) 0 ≡ 2 ^ 64 - 1 → ⊥) × (v ≡ 2 ^ 64 - 1))
      → i ≤ last → Summed d ws last → Summed d vs last
  unfolding Summed
  keep_raised zero up m e above said w h s = absurd (m (omega (arith, s.0)))
  keep_raised (suc d) up m e above said w h s =
      let new = said d s.4 (omega arith) in
      let old : List ℕ = drop (last / 64 + 1) ws in
      let at : i / 64 ≤ last / 64 = omega arith in
      -- the changed bit says that the changed word is full
      let agree : ((v ≡ 2 ^ 64 - 1) → bit up (i / 64) ≡ 1) × (bit up (i / 64) ≡ 1 → v ≡ 2 ^ 64 - 1) =
      ⊎_elim
      (λ (f : get_or ws (i / 64) 0 ≡ 2 ^ 64 - 1).
      let one : bit old (i / 64) ≡ 1 = s.2 (i / 64) at f in
      let was : digit (get_or ws (i / 64) 0) (i % 64) ≡ 1 = ap (λ (x : ℕ). digit x (i % 64)) f ∙ full_digit 64 (i % 64) (omega arith) in (
        (λ g. absurd (let is : digit v (i % 64) ≡ 1 = ap (λ (x : ℕ). digit x (i % 64)) g ∙ full_digit 64 (i % 64) (omega arith) in omega (arith, changed.there))),
        (λ g. absurd (omega (arith, new.0.there))),
      ))
      (λ f.
      let none : bit old (i / 64) ≡ 1 → ⊥ = λ g. f.0 (s.3 (i / 64) at g) in
      let off : bit old (i / 64) ≡ 0 = ⊎_elim (λ (g : bit old (i / 64) ≡ 1). absurd (none g)) (λ g. let b = bit_lt old (i / 64) in omega arith) (same? (bit old (i / 64)) 1) in
      ((λ g. omega (arith, new.0.there)), (λ g. f.1)))
      w in (
        s.0,
        omega (arith, s.1),
        (λ k l f. ap (λ (a : List ℕ). bit a k) above ∙ ⊎_elim
            (λ (g : k ≡ i / 64). ap (bit up) g ∙ agree.0 (sym here ∙ ap (λ (x : ℕ). get_or vs x 0) (sym g) ∙ f))
            (λ n. new.0.elsewhere k l n ∙ s.2 k l (sym (others k l n) ∙ f))
            (same? k (i / 64))),
        (λ k l f. let b : bit up k ≡ 1 = ap (λ (a : List ℕ). bit a k) (sym above) ∙ f in ⊎_elim
            (λ (g : k ≡ i / 64). ap (λ (x : ℕ). get_or vs x 0) g ∙ here ∙ agree.1 (ap (bit up) (sym g) ∙ b))
            (λ n. others k l n ∙ s.3 k l (sym (new.0.elsewhere k l n) ∙ b))
            (same? k (i / 64))),
        subst (λ (a : List ℕ). Summed d a (last / 64)) (sym above) new.1,
      )

-- ---- the part of a slice from a on

pub mid_tail : (a : ℕ) (xs : List ℕ) → mid_of a (length xs - a) xs ≡ drop a xs
mid_tail a xs = take_all (length xs - a) (drop a xs) (le_of_eq (length-drop a xs))

pub put_tail : (a : ℕ) (xs ys : List ℕ) → put_mid a (length xs - a) xs ys ≡ take a xs ++ ys
put_tail a xs ys =
    ap (λ (zs : List ℕ). take a xs ++ (ys ++ zs)) (drop_of_length-le (drop a xs) (le_of_eq (length-drop a xs)))
    ∙ ap (λ (zs : List ℕ). take a xs ++ zs) (append-nil ys)

-- an element before the part, and the part
pub front_kept : (a : ℕ) (xs ys : List ℕ) (k : ℕ) → a ≤ length xs → k < a → get_or (take a xs ++ ys) k 0 ≡ get_or xs k 0
front_kept a xs ys k h l =
    get_or-append (take a xs) ys 0 k (rw (length-take-le a xs h) l) ∙ get_or-take a xs k 0 l

pub back_there : (a : ℕ) (xs ys : List ℕ) → a ≤ length xs → drop a (take a xs ++ ys) ≡ ys
back_there a xs ys h = drop_at (take a xs) ys a (length-take-le a xs h)

-- ---- the ends of `flip`: v is stored in word i / 64

module _ (ws : List ℕ) (last i v : ℕ) (changed : Toggled (get_or ws (i / 64) 0) v (i % 64)) (room : last / 64 < length ws) (in_level : i ≤ last) where
  abbrev stored : List ℕ
  stored = set ws (i / 64) v

  here : get_or stored (i / 64) 0 ≡ v
  here = get_or-set_same ws (i / 64) v 0 (omega arith)

  others : (k : ℕ) → k ≤ last / 64 → (k ≡ i / 64 → ⊥) → get_or stored k 0 ≡ get_or ws k 0
  others k l n = get_or-set_other ws (i / 64) k v 0 n

  -- the level above is as it was
  above : drop (last / 64 + 1) stored ≡ drop (last / 64 + 1) ws
  above = drop-set-lt (last / 64 + 1) ws (i / 64) v (omega arith)

  pub flip_bottom : last / 64 ≡ 0 → (d : ℕ) → Summed d ws last → Flipped ws stored last i × Summed d stored last
  flip_bottom b d s = (
    word_flipped ws stored last i v changed here others,
    keep_bottom ws stored last i v changed here others d b (length-set ws (i / 64) v) s,
  )

  pub flip_level : (last / 64 ≡ 0 → ⊥) → (get_or ws (i / 64) 0 ≡ 2 ^ 64 - 1 → ⊥) → (v ≡ 2 ^ 64 - 1 → ⊥)
      → (d : ℕ) → Summed d ws last → Flipped ws stored last i × Summed d stored last
  flip_level m p q d s = (
    word_flipped ws stored last i v changed here others,
    keep_level ws stored last i v changed here others d m (length-set ws (i / 64) v) above p q in_level s,
  )

  -- up is the level above as the call has left it
  pub flip_raised : (up : List ℕ) → (last / 64 ≡ 0 → ⊥)
      → (get_or ws (i / 64) 0 ≡ 2 ^ 64 - 1) ⊎ ((get_or ws (i / 64) 0 ≡ 2 ^ 64 - 1 → ⊥) × (v ≡ 2 ^ 64 - 1))
      → ((d : ℕ) → Summed d (drop (last / 64 + 1) stored) (last / 64) → i / 64 ≤ last / 64
      → Flipped (drop (last / 64 + 1) stored) up (last / 64) (i / 64) × Summed d up (last / 64))
      → length (take (last / 64 + 1) stored ++ up) ≡ length ws
      → (d : ℕ) → Summed d ws last
      → Flipped ws (take (last / 64 + 1) stored ++ up) last i × Summed d (take (last / 64 + 1) stored ++ up) last
  flip_raised up m w said len d s =
      let vs : List ℕ = take (last / 64 + 1) stored ++ up in
      let long : last / 64 + 1 ≤ length stored = omega (arith, length-set ws (i / 64) v) in
      let there : get_or vs (i / 64) 0 ≡ v = front_kept (last / 64 + 1) stored up (i / 64) long (omega arith) ∙ here in
      let rest : (k : ℕ) → k ≤ last / 64 → (k ≡ i / 64 → ⊥) → get_or vs k 0 ≡ get_or ws k 0 =
      λ k l n. front_kept (last / 64 + 1) stored up k long (omega arith) ∙ others k l n in (
        word_flipped ws vs last i v changed there rest,
        keep_raised ws vs last i v changed there rest d up m len (back_there (last / 64 + 1) stored up long)
            (rw above at said) w in_level s,
      )
