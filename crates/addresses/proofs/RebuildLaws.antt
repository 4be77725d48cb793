-- A pool is rebuilt from the list of its granted ranges: `new` with its base and size, then an exact request for each range, in order.
-- Whatever block this is done in, no step is refused, and the block then holds the pool. For copies, and for readers of saved pools.
--     rebuild_start     `new` makes the pool with none of its ranges
--     rebuild_step      the exact request for the next range is granted, and the block holds the pool with one range more
--     rebuild_calls     so after all of them the block holds the pool
-- Assumes nothing.
use Rattle.std.proofs.Common.{◌≡◌, ℕ, ◌+◌, ◌-◌, ◌≤◌, List, [], ◌∷◌, ◌++◌, map, length, subst, append_assoc, arith, Ok}
use Rattle.ranges.specs.declared.RangeInclusive.{RangeInclusive}
use Rattle.addresses.specs.declared.Answer.{Answer}
use Rattle.addresses.specs.declared.Answer.TheVariants.{Granted}
use Rattle.addresses.specs.Meaning.{Ordered, row_from, row_of}
use Rattle.addresses.specs.Operations.{Pool, next}
use Rattle.addresses.specs.Runs.{Valid}
use Rattle.addresses.specs.Held.{Holds}
use Rattle.addresses.specs.Contract.{Performs, Starts, Calls}
use Rattle.addresses.proofs.ComputedLaws.{does_unique}
use Rattle.addresses.proofs.RunLaws.{runs_unique}
use Rattle.addresses.proofs.ReachLaws.{ask, pool, ordered_front, row_front, asked_granted, asked_next, reach_from}
use Rattle.addresses.proofs.CallLaws.{calls_run}

-- a pool of p's addresses, with another limit, in which some ranges are granted
abbrev pub having : Pool → ℕ → List RangeInclusive → Pool
having p limit qs = pool p.state.base p.state.top limit qs

-- the limit has room for all of p's ranges, free and granted together
abbrev pub Roomy : Pool → ℕ → Type 0
Roomy p limit = length (row_of p.state) ≤ limit

pub rebuild_start : (p : Pool) (limit : ℕ) (m n : List ℕ) → Valid p → Starts m p.state.base (p.state.top - p.state.base) limit (Ok tt) n → Holds n (having p limit [])
unfolding Starts
rebuild_start p limit m n v s =
    let e : p.state.base + (p.state.top - p.state.base) ≡ p.state.top = omega (arith, v.sound.some) in
    subst (λ (top : ℕ). Holds n (pool p.state.base top limit [])) e s.1

pub rebuild_step : (p : Pool) (limit : ℕ) (qs rs : List RangeInclusive) (r : RangeInclusive) (n n' : List ℕ) (x : Answer) → Valid p → Roomy p limit → p.state.granted ≡ qs ++ r ∷ rs → Holds n (having p limit qs) → Performs n (ask r) x n' → (x ≡ Granted r) × Holds n' (having p limit (qs ++ r ∷ []))
unfolding row_of
rebuild_step p limit qs rs r n n' x v l g h d =
    let base = p.state.base in
    let top = p.state.top in
    let e : p.state.granted ≡ (qs ++ r ∷ []) ++ rs = rw append_assoc g in
    let o : Ordered base top ((qs ++ r ∷ []) ++ rs) = subst (Ordered base top) e v.sound.ordered in
    let k : length (row_from base top ((qs ++ r ∷ []) ++ rs)) ≤ limit = subst (λ (y : List RangeInclusive). length (row_from base top y) ≤ limit) e l in
    let w : Ordered base top (qs ++ r ∷ []) = ordered_front base top (qs ++ r ∷ []) rs o in
    let j : length (row_from base top (qs ++ r ∷ [])) ≤ limit = omega (arith, row_front base top (qs ++ r ∷ []) rs o) in
    let right = d.right (having p limit qs) h in
    let same : x ≡ Granted r = does_unique (having p limit qs) (ask r) x (Granted r) h.valid.sound right.0 (asked_granted base top limit qs r w j) in
    (same, subst (λ (y : Pool). Holds n' y) (asked_next base top limit qs r w j) (subst (λ (y : Answer). Holds n' (next (having p limit qs) y)) same right.1))

pub rebuild_calls : (p : Pool) (limit : ℕ) (m n n' : List ℕ) (xs : List Answer) → Valid p → Roomy p limit → Starts m p.state.base (p.state.top - p.state.base) limit (Ok tt) n → Calls n (map ask p.state.granted) xs n' → (xs ≡ map Granted p.state.granted) × Holds n' (having p limit p.state.granted)
unfolding row_of
rebuild_calls p limit m n n' xs v l s c =
    let h = rebuild_start p limit m n v s in
    let ran = calls_run n n' (having p limit []) (map ask p.state.granted) xs h c in
    let same = runs_unique (having p limit []) (map ask p.state.granted) xs (map Granted p.state.granted) ran.0 (having p limit p.state.granted) h.valid ran.1 (reach_from p.state.base p.state.top limit [] p.state.granted v.sound.ordered l) in
    (same.0, subst (λ (y : Pool). Holds n' y) same.1 ran.2)
