-- Where there is room: the meaning of `Fits`, for any allowed starts, said gap by gap. A run of free addresses lies inside one gap of the ordered granted ranges.
-- Assumes nothing.
use Rattle.std.proofs.Common.{◌≡◌, ℕ, suc, ◌+◌, ◌-◌, ◌<◌, ◌≤◌, max, ◌⊎◌, List, [], ◌∷◌, refl, ap, inl, inr, ⊎_elim, arith}
use mathlib.Core.List.Memᴰ
use mathlib.Core.List.{Memᴰ}
use native.Mathlib.Decide.{dec_le}
use Rattle.ranges.specs.declared.RangeInclusive.{RangeInclusive}
use Rattle.addresses.specs.Meaning.{State, Free, Fits, Ordered, Sound}

-- ---- granted ranges that are in order

-- the ranges end by the top
pub ordered_le : (from top : ℕ) (rs : List RangeInclusive) → Ordered from top rs → from ≤ top
unfolding Ordered
ordered_le from top [] o = o
ordered_le from top (r ∷ rs) o = omega (arith, ordered_le (suc r.end) top rs o.2)

-- each range lies between `from` and `top`, and is not empty
pub ordered_mem : (from top : ℕ) (rs : List RangeInclusive) (q : RangeInclusive) → Ordered from top rs → Memᴰ q rs → (from ≤ q.start) × (q.start ≤ q.end) × (q.end < top)
unfolding Ordered
ordered_mem from top [] q o m = absurd (Memᴰ.not-nil m)
ordered_mem from top (r ∷ rs) q o m =
    ⊎_elim
    (λ (e : q ≡ r). omega (arith, ap (λ (x : RangeInclusive). x.start) e, ap (λ (x : RangeInclusive). x.end) e, ordered_le (suc r.end) top rs o.2))
    (λ (n : Memᴰ q rs). omega (arith, ordered_mem (suc r.end) top rs q o.2 n))
    (Memᴰ.cases_cons m)

-- ---- gaps

-- the `size` addresses from a lie between `from` and `to`, and a is an allowed start
pub record Inside (size : ℕ) (Ok : ℕ → Type 0) (from to a : ℕ) : Type 0 where
  pub allowed : Ok a
  pub above : from ≤ a
  pub below : a + size ≤ to

-- they lie inside one of the gaps that the ranges leave between `from` and `top`
unfoldable pub Room : ℕ → (ℕ → Type 0) → ℕ → ℕ → List RangeInclusive → ℕ → Type 0
Room size Ok from top [] a = Inside size Ok from top a
Room size Ok from top (r ∷ rs) a = Inside size Ok from r.start a ⊎ Room size Ok (suc r.end) top rs a

-- where there is room, the address is an allowed start
room_allowed : (size : ℕ) (Ok : ℕ → Type 0) (from top : ℕ) (rs : List RangeInclusive) (a : ℕ) → Room size Ok from top rs a → Ok a
unfolding Room
room_allowed size Ok from top [] a w = w.allowed
room_allowed size Ok from top (r ∷ rs) a w = ⊎_elim (λ (i : Inside size Ok from r.start a). i.allowed) (room_allowed size Ok (suc r.end) top rs a) w

-- where there is room is between `from` and `top`
pub room_within : (size : ℕ) (Ok : ℕ → Type 0) (from top : ℕ) (rs : List RangeInclusive) (a : ℕ) → Ordered from top rs → Room size Ok from top rs a → (from ≤ a) × (a + size ≤ top)
unfolding Ordered Room
room_within size Ok from top [] a o w = (w.above, w.below)
room_within size Ok from top (r ∷ rs) a o w =
    ⊎_elim
    (λ (i : Inside size Ok from r.start a). omega (arith, ordered_le (suc r.end) top rs o.2))
    (λ (n : Room size Ok (suc r.end) top rs a). omega (arith, room_within size Ok (suc r.end) top rs a o.2 n))
    w

-- the state of the pool from `from` up to `top` with these ranges
abbrev pub state : ℕ → ℕ → List RangeInclusive → State
state from top rs = record { base = from; top = top; granted = rs }

-- an address that is free past the first range is free
free_past : (from top : ℕ) (r : RangeInclusive) (rs : List RangeInclusive) (x : ℕ) → from ≤ r.start → r.start ≤ r.end → Free (state (suc r.end) top rs) x → Free (state from top (r ∷ rs)) x
free_past from top r rs x o₀ o₁ f =
    record {
      above = omega arith;
      below = f.below;
      unheld = λ q m w. ⊎_elim (λ (e : q ≡ r). omega (arith, ap (λ (y : RangeInclusive). y.end) e)) (λ (n : Memᴰ q rs). f.unheld q n w) (Memᴰ.cases_cons m);
    }

-- room is free: each address of a window inside a gap is free
pub room_free : (size : ℕ) (Ok : ℕ → Type 0) (from top : ℕ) (rs : List RangeInclusive) (a : ℕ) → Ordered from top rs → Room size Ok from top rs a → (x : ℕ) → a ≤ x → x < a + size → Free (state from top rs) x
unfolding Ordered Room
room_free size Ok from top [] a o w x h l = record { above = omega arith; below = omega arith; unheld = λ r m i. Memᴰ.not-nil m }
room_free size Ok from top (r ∷ rs) a o w x h l =
    ⊎_elim
    (λ (i : Inside size Ok from r.start a). record {
      above = omega arith;
      below = omega (arith, ordered_le (suc r.end) top rs o.2);
      unheld = λ q m n. ⊎_elim (λ (e : q ≡ r). omega (arith, ap (λ (y : RangeInclusive). y.start) e)) (λ (m' : Memᴰ q rs). omega (arith, ordered_mem (suc r.end) top rs q o.2 m')) (Memᴰ.cases_cons m);
    })
    (λ (i : Room size Ok (suc r.end) top rs a). free_past from top r rs x o.0 o.1 (room_free size Ok (suc r.end) top rs a o.2 i x h l))
    w

-- what is free is room: a run of free addresses lies inside one gap
pub free_room : (size : ℕ) (Ok : ℕ → Type 0) (from top : ℕ) (rs : List RangeInclusive) (a : ℕ) → 0 < size → Ok a → Ordered from top rs → ((x : ℕ) → a ≤ x → x < a + size → Free (state from top rs) x) → Room size Ok from top rs a
unfolding Ordered Room
free_room size Ok from top [] a s e o f =
    record { allowed = e; above = (f a (omega arith) (omega arith)).above; below = omega (arith, (f (a + (size - 1)) (omega arith) (omega arith)).below) }
free_room size Ok from top (r ∷ rs) a s e o f =
    pick (dec_le (a + size) r.start) (dec_le (suc r.end) a)
    (λ p. free_room size Ok (suc r.end) top rs a s e o.2
    (λ x h l. record { above = omega arith; below = (f x h l).below; unheld = λ q n. (f x h l).unheld q (Memᴰ.tail n) }))
  where
    pick : Dec (a + size ≤ r.start) → Dec (suc r.end ≤ a) → (suc r.end ≤ a → Room size Ok (suc r.end) top rs a) → Room size Ok from top (r ∷ rs) a
    pick (yes p) d next = inl (record { allowed = e; above = (f a (omega arith) (omega arith)).above; below = p })
    pick (no n) (yes p) next = inr (next p)
    pick (no n) (no n') next = absurd ((f (max a r.start) (omega arith) (omega arith)).unheld r (Memᴰ.head refl) (omega arith))

-- so a window fits a sound state just where its address has room
pub fits_room : {Ok : ℕ → Type 0} (σ : State) (size a : ℕ) → Sound σ → 0 < size → Fits σ size Ok a → Room size Ok σ.base σ.top σ.granted a
fits_room {Ok} σ size a o s f = free_room size Ok σ.base σ.top σ.granted a s f.allowed o.ordered f.free

pub room_fits : {Ok : ℕ → Type 0} (σ : State) (size a : ℕ) → Sound σ → Room size Ok σ.base σ.top σ.granted a → Fits σ size Ok a
room_fits {Ok} σ size a o w = record { allowed = room_allowed size Ok σ.base σ.top σ.granted a w; free = room_free size Ok σ.base σ.top σ.granted a o.ordered w }
