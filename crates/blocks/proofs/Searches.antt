-- What is found in a block is found in the table. Assumes nothing.
use Prim.Native.Nat.{ℕ, ◌+◌, ◌-◌, ◌≤◌, ◌<◌}
use mathlib.Core.Path.{◌≡◌, sym, ◌∙◌}
use mathlib.Core.List.{List}
use native.Mathlib.Decide.{dec_lt}
use native.Mathlib.Omega.{arith}
use lib.ListN.{get_or}
use Rattle.std.proofs.Common.{Option, Some, None}
use Rattle.ranges.specs.Align.{PowerOfTwo}
use Rattle.places.specs.Places.{Room, LowestIn, HighestIn, SearchUp, SearchDown}
use Rattle.blocks.specs.Blocks.{blocks_of, size_at, bound_at, starts_at, tags_at, last_at, past_at, sizes, starts_of, tags_of, index, Within, Sound, Settled, Bounded, Ready}
use Rattle.blocks.proofs.Parts.{starts_length, as_many, sizes_snoc}
use Rattle.blocks.proofs.Flat.{all_starts, flat_start, flat_tag, flat_within, flat_next}

-- a block is passed over
pub passed : (top last w more align : ℕ) (ss ts : List ℕ) → top ≡ last + 1 → Within top ss ts w → w < more → (j a : ℕ) → Room ss ts last (more + 1) align j a → ⊥
unfolding Within
passed top last w more align ss ts e h l j a r =
    let b : get_or ss (j + 1) (last + 1) ≤ get_or ss j 0 + w + 1 = rw e at (h j r.within r.free) in
    omega (arith, b, r.fits.above, r.fits.below)

-- there is no room below range n of the table, or from it on
abbrev pub NoneBelow : List ℕ → ℕ → ℕ → ℕ → Type 0
NoneBelow m size align n = (j a : ℕ) → j < n → Room (starts_of m) (tags_of m) (get_or m 3 0) size align j a → ⊥

abbrev pub NoneFrom : List ℕ → ℕ → ℕ → ℕ → Type 0
NoneFrom m size align n = (j a : ℕ) → n ≤ j → Room (starts_of m) (tags_of m) (get_or m 3 0) size align j a → ⊥

module _ (m : List ℕ) (ready : Ready m) (b : ℕ) (h : b < blocks_of m) (size align : ℕ) where
  abbrev settled : Settled m
  settled = ready.settled

  abbrev sound : Sound m
  sound = ready.settled.sound

  -- room in the table is room in the block
  pub room_in : (i j a : ℕ) → i < size_at b m → j ≡ index b i m → Room (starts_of m) (tags_of m) (get_or m 3 0) size align j a → Room (starts_at b m) (tags_at b m) (last_at b m) size align i a
  room_in i j a l e r =
      let s : Room (starts_of m) (tags_of m) (get_or m 3 0) size align (index b i m) a = rw e at r in
      record {
        within = omega (arith, starts_length m sound b h);
        free = sym (flat_tag m sound b h i 0 l) ∙ s.free;
        fits = rw (flat_start m sound b h i 0 l, flat_next m settled b h ready.risen i l) at s.fits;
      }

  pub none_up : NoneBelow m size align (sizes 0 b m) → ((i a : ℕ) → Room (starts_at b m) (tags_at b m) (last_at b m) size align i a → ⊥) → NoneBelow m size align (sizes 0 (b + 1) m)
  unfolding index
  none_up f g j a l r =
      let e = sizes_snoc b m in
      elim (dec_lt j (sizes 0 b m)) [ yes p ↦ f j a p r | no p ↦ let z : j ≡ sizes 0 b m + (j - sizes 0 b m) = omega arith in g (j - sizes 0 b m) a (room_in (j - sizes 0 b m) j a (omega arith) z r) ]

  pub none_down : NoneFrom m size align (sizes 0 (b + 1) m) → ((i a : ℕ) → Room (starts_at b m) (tags_at b m) (last_at b m) size align i a → ⊥) → NoneFrom m size align (sizes 0 b m)
  unfolding index
  none_down f g j a l r =
      let e = sizes_snoc b m in
      elim (dec_lt j (sizes 0 (b + 1) m)) [ no p ↦ f j a (omega arith) r | yes p ↦ let z : j ≡ sizes 0 b m + (j - sizes 0 b m) = omega arith in g (j - sizes 0 b m) a (room_in (j - sizes 0 b m) j a (omega arith) z r) ]

  pub found_up : (a : ℕ) → NoneBelow m size align (sizes 0 b m) → LowestIn (starts_at b m) (tags_at b m) (last_at b m) size align a → LowestIn (starts_of m) (tags_of m) (get_or m 3 0) size align a
  unfolding index
  found_up a f w =
      let i : ℕ = w.index in
      let l : i < size_at b m = omega (arith, w.within, starts_length m sound b h) in
      record {
        index = index b i m;
        within = omega (arith, all_starts m sound, flat_within m sound b h i l);
        free = flat_tag m sound b h i 0 l ∙ w.free;
        here = rw (flat_start m sound b h i 0 l, flat_next m settled b h ready.risen i l) w.here;
        first = λ j x q r. before i l w.first j x q r;
      }
    where
      before : (i : ℕ) → i < size_at b m → ((k x : ℕ) → k < i → Room (starts_at b m) (tags_at b m) (last_at b m) size align k x → ⊥) → (j x : ℕ) → j < index b i m → Room (starts_of m) (tags_of m) (get_or m 3 0) size align j x → ⊥
      before i l g j x q r = elim (dec_lt j (sizes 0 b m)) [ yes p ↦ f j x p r | no p ↦ let z : j ≡ sizes 0 b m + (j - sizes 0 b m) = omega arith in g (j - sizes 0 b m) x (omega arith) (room_in (j - sizes 0 b m) j x (omega arith) z r) ]

  pub found_down : (a : ℕ) → NoneFrom m size align (sizes 0 (b + 1) m) → HighestIn (starts_at b m) (tags_at b m) (last_at b m) size align a → HighestIn (starts_of m) (tags_of m) (get_or m 3 0) size align a
  unfolding index
  found_down a f w =
      let i : ℕ = w.index in
      let l : i < size_at b m = omega (arith, w.within, starts_length m sound b h) in
      record {
        index = index b i m;
        within = omega (arith, all_starts m sound, flat_within m sound b h i l);
        free = flat_tag m sound b h i 0 l ∙ w.free;
        here = rw (flat_start m sound b h i 0 l, flat_next m settled b h ready.risen i l) w.here;
        latest = λ j x q r. after i l w.latest j x q r;
      }
    where
      after : (i : ℕ) → i < size_at b m → ((k x : ℕ) → i < k → Room (starts_at b m) (tags_at b m) (last_at b m) size align k x → ⊥) → (j x : ℕ) → index b i m < j → Room (starts_of m) (tags_of m) (get_or m 3 0) size align j x → ⊥
      after i l g j x q r =
          let e = sizes_snoc b m in
          elim (dec_lt j (sizes 0 (b + 1) m)) [ no p ↦ f j x (omega arith) r | yes p ↦ let z : j ≡ sizes 0 b m + (j - sizes 0 b m) = omega arith in g (j - sizes 0 b m) x (omega arith) (room_in (j - sizes 0 b m) j x (omega arith) z r) ]

-- the loop from below
pub up_first : (m : List ℕ) (size align : ℕ) → NoneBelow m size align (sizes 0 0 m)
unfolding sizes
up_first m size align j a l r = omega arith

module _ (m : List ℕ) (ready : Ready m) (b : ℕ) (h : b < blocks_of m) (more mask : ℕ) (p : PowerOfTwo (mask + 1)) (f : NoneBelow m (more + 1) (mask + 1) (sizes 0 b m)) {r : Option ℕ} (l : Within (past_at b m) (starts_at b m) (tags_at b m) (bound_at b m) → SearchUp (starts_at b m) (tags_at b m) (last_at b m) more mask r) where
  pub up_found : {a : ℕ} → r ≡ Some a → LowestIn (starts_of m) (tags_of m) (get_or m 3 0) (more + 1) (mask + 1) a
  unfolding SearchUp Bounded
  up_found {a = a} e =
      let u : SearchUp (starts_at b m) (tags_at b m) (last_at b m) more mask (Some a) = rw e at (l (ready.bounded b h)) in
      found_up m ready b h (more + 1) (mask + 1) a f (u (as_many m ready.settled.sound b h) p)

  pub up_next : r ≡ None → NoneBelow m (more + 1) (mask + 1) (sizes 0 (b + 1) m)
  unfolding SearchUp Bounded
  up_next e =
      let u : SearchUp (starts_at b m) (tags_at b m) (last_at b m) more mask None = rw e at (l (ready.bounded b h)) in
      none_up m ready b h (more + 1) (mask + 1) f (u (as_many m ready.settled.sound b h) p)

pub up_last : (m : List ℕ) → Ready m → (b : ℕ) → blocks_of m ≤ b → b ≤ blocks_of m → (more mask : ℕ) → NoneBelow m (more + 1) (mask + 1) (sizes 0 b m) → (j a : ℕ) → Room (starts_of m) (tags_of m) (get_or m 3 0) (more + 1) (mask + 1) j a → ⊥
up_last m ready b h k more mask f j a r =
    let e : b ≡ blocks_of m = omega arith in
    f j a (rw e (omega (arith, r.within, all_starts m ready.settled.sound))) r

-- the loop from above
pub down_first : (m : List ℕ) → Ready m → (nb : ℕ) → nb ≡ blocks_of m → (size align : ℕ) → NoneFrom m size align (sizes 0 nb m)
down_first m ready nb e size align j a l r =
    let k : sizes 0 (blocks_of m) m ≤ j = rw e at l in
    omega (arith, k, r.within, all_starts m ready.settled.sound)

under : (m : List ℕ) (b : ℕ) → 0 < b → b ≤ blocks_of m → b - 1 < blocks_of m
under m b p h = omega arith

above : (m : List ℕ) (b size align : ℕ) → 0 < b → NoneFrom m size align (sizes 0 b m) → NoneFrom m size align (sizes 0 (b - 1 + 1) m)
above m b size align p f = let e : b - 1 + 1 ≡ b = omega arith in rw e f

module _ (m : List ℕ) (ready : Ready m) (b : ℕ) (pos : 0 < b) (h : b ≤ blocks_of m) (more mask : ℕ) (p : PowerOfTwo (mask + 1)) (f : NoneFrom m (more + 1) (mask + 1) (sizes 0 b m)) {r : Option ℕ} (l : Within (past_at (b - 1) m) (starts_at (b - 1) m) (tags_at (b - 1) m) (bound_at (b - 1) m) → SearchDown (starts_at (b - 1) m) (tags_at (b - 1) m) (last_at (b - 1) m) more mask r) where
  pub down_found : {a : ℕ} → r ≡ Some a → HighestIn (starts_of m) (tags_of m) (get_or m 3 0) (more + 1) (mask + 1) a
  unfolding SearchDown Bounded
  down_found {a = a} e =
      let u : SearchDown (starts_at (b - 1) m) (tags_at (b - 1) m) (last_at (b - 1) m) more mask (Some a) = rw e at (l (ready.bounded (b - 1) (under m b pos h))) in
      found_down m ready (b - 1) (under m b pos h) (more + 1) (mask + 1) a (above m b (more + 1) (mask + 1) pos f) (u (as_many m ready.settled.sound (b - 1) (under m b pos h)) p)

  pub down_next : r ≡ None → NoneFrom m (more + 1) (mask + 1) (sizes 0 (b - 1) m)
  unfolding SearchDown Bounded
  down_next e =
      let u : SearchDown (starts_at (b - 1) m) (tags_at (b - 1) m) (last_at (b - 1) m) more mask None = rw e at (l (ready.bounded (b - 1) (under m b pos h))) in
      none_down m ready (b - 1) (under m b pos h) (more + 1) (mask + 1) (above m b (more + 1) (mask + 1) pos f) (u (as_many m ready.settled.sound (b - 1) (under m b pos h)) p)

pub down_last : (m : List ℕ) (b : ℕ) → b ≡ 0 → (more mask : ℕ) → NoneFrom m (more + 1) (mask + 1) (sizes 0 b m) → (j a : ℕ) → Room (starts_of m) (tags_of m) (get_or m 3 0) (more + 1) (mask + 1) j a → ⊥
unfolding sizes
down_last m b e more mask f j a r =
    let g : NoneFrom m (more + 1) (mask + 1) (sizes 0 0 m) = rw e at f in
    g j a (omega arith) r
