-- The valid pools are just those that `new` and some operations make (valid_just), within the same limit.
-- Assumes nothing.
use Rattle.std.proofs.Common.{◌≡◌, ℕ, suc, ◌+◌, ◌-◌, ◌<◌, ◌≤◌, Bool, true, false, cond, ltb, ◌↔◌, List, [], ◌∷◌, ◌++◌, map, length, sym, refl, ap, ⊎_elim, append_assoc, append-nil, arith, length-append, le-ltb}
use mathlib.Core.List.Memᴰ
use mathlib.Core.List.{Memᴰ}
use Rattle.addresses.specs.declared.Answer.TheVariants.{Granted}
use Rattle.ranges.specs.declared.AllocPolicy.TheVariants.{ExactMatch}
use Rattle.ranges.specs.declared.Constraint.{Constraint}
use Rattle.ranges.specs.declared.RangeInclusive.{RangeInclusive}
use Rattle.addresses.specs.Meaning.{Ordered, insert, window, granting, gap, row_from, row_of}
use Rattle.addresses.proofs.Room.{state, ordered_le, ordered_mem}
use Rattle.addresses.proofs.Moves.{free, held, gap_some}
use Rattle.addresses.specs.Operations.{Pool, next, Within, Lendable, fresh, Makes, Place, Chosen, HasRoom, Allocates}
use Rattle.addresses.specs.Runs.{Operation, Allocate, Does, Runs, Valid, Reached}
use Rattle.addresses.proofs.PoolLaws.{made_valid}
use Rattle.addresses.proofs.RunLaws.{runs_valid}

-- ---- each valid pool is reached

-- the request for a range at its own place, and the requests for some ranges
abbrev pub exactly : RangeInclusive → Constraint
exactly r = record { size = suc r.end - r.start; align = 1; policy = ExactMatch r.start }

abbrev pub ask : RangeInclusive → Operation
ask r = Allocate (exactly r)

-- ranges in front of others in order end before them
front : (from top : ℕ) (qs rs : List RangeInclusive) (r q : RangeInclusive) → Ordered from top (qs ++ r ∷ rs) → Memᴰ q qs → q.end < r.start
unfolding Ordered
front from top [] rs r q o m = absurd (Memᴰ.not-nil m)
front from top (p ∷ qs) rs r q o m =
    ⊎_elim
    (λ (e : q ≡ p). omega (arith, ap (λ (y : RangeInclusive). y.end) e, ordered_mem (suc p.end) top (qs ++ r ∷ rs) r o.2 (Memᴰ.append_right qs (Memᴰ.head refl))))
    (λ (n : Memᴰ q qs). front (suc p.end) top qs rs r q o.2 n)
    (Memᴰ.cases_cons m)

-- a range behind all others is put at the end
insert_last : (from top : ℕ) (qs : List RangeInclusive) (r : RangeInclusive) → Ordered from top (qs ++ r ∷ []) → insert r qs ≡ qs ++ r ∷ []
unfolding Ordered insert
insert_last from top [] r o = refl
insert_last from top (p ∷ qs) r o =
    let l = ordered_mem (suc p.end) top (qs ++ r ∷ []) r o.2 (Memᴰ.append_right qs (Memᴰ.head refl)) in
    rw (le-ltb r.start p.start (omega arith), insert_last (suc p.end) top qs r o.2)

-- the first of some ranges in order are in order
pub ordered_front : (from top : ℕ) (qs rs : List RangeInclusive) → Ordered from top (qs ++ rs) → Ordered from top qs
unfolding Ordered
ordered_front from top [] rs o = ordered_le from top rs o
ordered_front from top (q ∷ qs) rs o = (o.0, o.1, ordered_front (suc q.end) top qs rs o.2)

-- a gap is one tile at most
gap_length : (from to : ℕ) → length (gap from to) ≤ 1
unfolding gap
gap_length from to = go (ltb from to)
  where
    go : (b : Bool) → length (cond b (free from ∷ []) []) ≤ 1
    go true = omega arith
    go false = omega arith

-- their table is not longer than the table of all
pub row_front : (from top : ℕ) (qs rs : List RangeInclusive) → Ordered from top (qs ++ rs) → length (row_from from top qs) ≤ length (row_from from top (qs ++ rs))
unfolding row_from Ordered
row_front from top [] [] o = omega arith
row_front from top [] (r ∷ rs) o = rw length-append (omega (arith, gap_length from top))
row_front from top (q ∷ qs) rs o = rw (length-append (gap from q.start) (held q.start ∷ row_from (suc q.end) top qs), length-append (gap from q.start) (held q.start ∷ row_from (suc q.end) top (qs ++ rs))) (omega (arith, row_front (suc q.end) top qs rs o.2))

-- the table of a pool in which nothing is granted
row_empty : (base top : ℕ) → base < top → row_from base top [] ≡ free base ∷ []
unfolding row_from
row_empty base top h = gap_some base top h

-- a pool by its parts
abbrev pub pool : ℕ → ℕ → ℕ → List RangeInclusive → Pool
pool base top limit rs = record { state = state base top rs; limit = limit }

-- a range behind all that are granted is granted where it is asked for, and stands at the end
module _ (base top limit : ℕ) (qs : List RangeInclusive) (r : RangeInclusive) (o : Ordered base top (qs ++ r ∷ [])) (l : length (row_from base top (qs ++ r ∷ [])) ≤ limit) where
  asked_inside : (base ≤ r.start) × (r.start ≤ r.end) × (r.end < top)
  asked_inside = ordered_mem base top (qs ++ r ∷ []) r o (Memᴰ.append_right qs (Memᴰ.head refl))

  asked_window : window r.start (suc r.end - r.start) ≡ r
  asked_window =
      let h = asked_inside in
      let e : r.start + (suc r.end - r.start) - 1 ≡ r.end = omega arith in
      λ i. record { start = r.start; end = e i }

  asked_fits : Place (pool base top limit qs) (exactly r) r.start
  asked_fits =
      let h = asked_inside in
      record { allowed = (r.start, omega arith); free = λ x a b. record { above = omega arith; below = omega arith; unheld = λ q m i. omega (arith, front base top qs [] r q o m) } }

  pub asked_next : next (pool base top limit qs) (Granted r) ≡ pool base top limit (qs ++ r ∷ [])
  unfolding next granting
  asked_next = λ i. pool base top limit (insert_last base top qs r o i)

  asked_room : HasRoom (pool base top limit qs) (window r.start (suc r.end - r.start))
  unfolding HasRoom granting row_of
  asked_room = rw (asked_window, insert_last base top qs r o) l

  pub asked_granted : Does (pool base top limit qs) (ask r) (Granted r)
  unfolding Does Allocates Chosen
  asked_granted =
      let h = asked_inside in
      (record { some = omega arith; power = (0, refl); aligned = (r.start, omega arith) }, r.start, (refl, asked_fits), asked_room, sym asked_window)

-- so the ranges of a pool are granted one after the other, from below; no table on the way is longer than the last
pub reach_from : (base top limit : ℕ) (qs rs : List RangeInclusive) → Ordered base top (qs ++ rs) → length (row_from base top (qs ++ rs)) ≤ limit → Runs (pool base top limit qs) (map ask rs) (map Granted rs) (pool base top limit (qs ++ rs))
unfolding Runs
reach_from base top limit qs [] o l = λ i. pool base top limit (append-nil qs i)
reach_from base top limit qs (r ∷ rs) o l =
    let e : (qs ++ r ∷ []) ++ rs ≡ qs ++ r ∷ rs = append_assoc qs (r ∷ []) rs in
    let o' : Ordered base top ((qs ++ r ∷ []) ++ rs) = rw e o in
    let l' : length (row_from base top ((qs ++ r ∷ []) ++ rs)) ≤ limit = rw e l in
    let w : Ordered base top (qs ++ r ∷ []) = ordered_front base top (qs ++ r ∷ []) rs o' in
    let k : length (row_from base top (qs ++ r ∷ [])) ≤ limit = omega (arith, row_front base top (qs ++ r ∷ []) rs o') in
    (asked_granted base top limit qs r w k, rw (asked_next base top limit qs r w k, ← e) (reach_from base top limit (qs ++ r ∷ []) rs o' l'))

-- the theorem: the valid pools are those that are reached
pub reached : (p : Pool) → Valid p → Reached p
unfolding Makes Within Lendable row_of
reached p v = record {
  base = p.state.base;
  size = p.state.top - p.state.base;
  limit = p.limit;
  made = (omega (arith, v.sound.some), (omega (arith, v.within), omega (arith, v.below, v.sound.some)), (omega (arith, v.room, some), v.most));
  operations = map ask p.state.granted;
  answers = map Granted p.state.granted;
  come = rw e (reach_from p.state.base p.state.top p.limit [] p.state.granted v.sound.ordered v.room);
}
  where
    e : p.state.base + (p.state.top - p.state.base) ≡ p.state.top
    e = omega (arith, v.sound.some)

    some : 1 ≤ length (row_from p.state.base p.state.top p.state.granted)
    some = omega (arith, row_front p.state.base p.state.top [] p.state.granted v.sound.ordered, ap length (row_empty p.state.base p.state.top v.sound.some))

pub valid_just : (p : Pool) → Valid p ↔ Reached p
valid_just p = (reached p, λ w. runs_valid (fresh w.base w.size w.limit) w.operations w.answers p (made_valid w.base w.size w.limit w.made) w.come)
