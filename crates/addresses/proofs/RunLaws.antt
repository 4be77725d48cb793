-- What is so after any operations.
--     runs, runs_unique     a list of operations has one list of answers and one last pool
--     runs_answered         they are those that are computed from the table
--     after_runs            granted ranges lie in the pool, apart; free and granted together are the pool; no two free ranges touch
--     asked_runs            each grant is what its request asked for
-- Assumes nothing.
use Rattle.std.proofs.Common.{◌≡◌, ℕ, ◌+◌, List, [], ◌∷◌, sym, refl, ap, ◌∙◌, subst, arith, Ok}
use Rattle.addresses.specs.declared.Answer.{Answer}
use Rattle.addresses.specs.declared.Answer.TheVariants.{Granted, Freed, Refused}
use Rattle.ranges.specs.declared.RangeInclusive.{RangeInclusive}
use Rattle.addresses.specs.Meaning.{Ordered, row_of}
use Rattle.addresses.proofs.Room.{ordered_mem}
use Rattle.addresses.proofs.RowLaws.{covers_row, free_or_granted}
use Rattle.addresses.proofs.Tiles.{granted_once}
use Rattle.addresses.specs.Operations.{Pool, next, fresh, Makes, Allocates, Frees}
use Rattle.addresses.specs.Runs.{Operation, Allocate, Release, Does, Runs, Valid}
use Rattle.addresses.proofs.Computed.{answer, row_after, answered, last_row}
use Rattle.addresses.proofs.ComputedLaws.{does, does_only, does_unique}
use Rattle.addresses.proofs.PoolLaws.{made_valid, grants, next_valid, next_same, next_row}
use Rattle.addresses.specs.After.{After, Asked, AllAsked}

-- ---- there is one run

pub runs : (p : Pool) (os : List Operation) → Valid p → (xs : List Answer) × (z : Pool) × Runs p os xs z
unfolding Runs
runs p [] v = ([], p, refl)
runs p (o ∷ os) v =
    let x : Answer = answer p.state.top p.limit (row_of p.state) o in
    let d : Does p o x = does p o v.sound in
    let w = runs (next p x) os (next_valid p o x v d) in
    (x ∷ w.0, w.1, (d, w.2))

pub runs_unique : (p : Pool) (os : List Operation) (xs ys : List Answer) (y z : Pool) → Valid p → Runs p os xs y → Runs p os ys z → (xs ≡ ys) × (y ≡ z)
unfolding Runs
runs_unique p [] [] [] y z v r s = (refl, r ∙ sym s)
runs_unique p [] [] (b ∷ ys) y z v r s = absurd s
runs_unique p [] (a ∷ xs) ys y z v r s = absurd r
runs_unique p (o ∷ os) [] ys y z v r s = absurd r
runs_unique p (o ∷ os) (a ∷ xs) [] y z v r s = absurd s
runs_unique p (o ∷ os) (a ∷ xs) (b ∷ ys) y z v r s =
    let e : a ≡ b = does_unique p o a b v.sound r.0 s.0 in
    let t : Runs (next p a) os ys z = rw (← e) at s.1 in
    let w = runs_unique (next p a) os xs ys y z (next_valid p o a v r.0) r.1 t in
    (λ i. e i ∷ w.0 i, w.1)

-- its answers and its last table are those that are computed from the first table
pub runs_answered : (p : Pool) (os : List Operation) (xs : List Answer) (z : Pool) → Valid p → Runs p os xs z → (xs ≡ answered p.state.top p.limit (row_of p.state) os) × (row_of z.state ≡ last_row p.state.top p.limit (row_of p.state) os)
unfolding Runs answered last_row
runs_answered p [] [] z v r = (refl, ap (λ (y : Pool). row_of y.state) r)
runs_answered p [] (x ∷ xs) z v r = absurd r
runs_answered p (o ∷ os) [] z v r = absurd r
runs_answered p (o ∷ os) (x ∷ xs) z v r =
    let e : answer p.state.top p.limit (row_of p.state) o ≡ x = does_only p o x v.sound r.0 in
    let n : row_of (next p x).state ≡ row_after p.state.top (row_of p.state) x = next_row p o x v.sound r.0 in
    let s = next_same p x in
    let w = runs_answered (next p x) os xs z (next_valid p o x v r.0) r.1 in
    let w' = rw (n, s.1, s.2) at w in
    rw e (ap (λ (ys : List Answer). x ∷ ys) w'.0, w'.1)

-- ---- the last pool

-- it is valid, and of the same addresses and limit
pub runs_valid : (p : Pool) (os : List Operation) (xs : List Answer) (z : Pool) → Valid p → Runs p os xs z → Valid z
unfolding Runs
runs_valid p [] [] z v r = subst Valid (sym r) v
runs_valid p [] (x ∷ xs) z v r = absurd r
runs_valid p (o ∷ os) [] z v r = absurd r
runs_valid p (o ∷ os) (x ∷ xs) z v r = runs_valid (next p x) os xs z (next_valid p o x v r.0) r.1

pub runs_same : (p : Pool) (os : List Operation) (xs : List Answer) (z : Pool) → Runs p os xs z → (z.state.base ≡ p.state.base) × (z.state.top ≡ p.state.top) × (z.limit ≡ p.limit)
unfolding Runs
runs_same p [] [] z r = (ap (λ (y : Pool). y.state.base) r, ap (λ (y : Pool). y.state.top) r, ap (λ (y : Pool). y.limit) r)
runs_same p [] (x ∷ xs) z r = absurd r
runs_same p (o ∷ os) [] z r = absurd r
runs_same p (o ∷ os) (x ∷ xs) z r =
    let w = runs_same (next p x) os xs z r.1 in
    let n = next_same p x in
    (w.0 ∙ n.0, w.1 ∙ n.1, w.2 ∙ n.2)

-- the theorem
pub after_runs : (base size limit : ℕ) (os : List Operation) (xs : List Answer) (z : Pool) → Makes base size limit (Ok tt) → Runs (fresh base size limit) os xs z → After base size limit z
unfolding Makes
after_runs base size limit os xs z d r = record {
  inside = λ q m. rw (← et, ← eb) (ordered_mem z.state.base z.state.top z.state.granted q o m);
  apart = λ a b x m n i j. granted_once z.state.base z.state.top x z.state.granted a b o m n i.0 i.1 j.0 j.1;
  whole = λ x h l. free_or_granted z.state x (omega (arith, eb)) (omega (arith, et));
  never = λ x q f m i. f.unheld q m i;
  covers = rw (← et, ← eb) (covers_row z.state v.sound);
  room = omega (arith, v.room, el);
}
  where
    v : Valid z
    v = runs_valid (fresh base size limit) os xs z (made_valid base size limit d) r

    o : Ordered z.state.base z.state.top z.state.granted
    o = v.sound.ordered

    eb : z.state.base ≡ base
    eb = (runs_same (fresh base size limit) os xs z r).0

    et : z.state.top ≡ base + size
    et = (runs_same (fresh base size limit) os xs z r).1

    el : z.limit ≡ limit
    el = (runs_same (fresh base size limit) os xs z r).2

-- ---- the answers

asked_does : (p : Pool) (o : Operation) (x : Answer) → Does p o x → Asked o x
unfolding Does Allocates Frees Asked
asked_does p (Allocate q) (Granted r) d =
    let g = grants p q r d in
    (g.fits.allowed.0, g.fits.allowed.1, omega (arith, g.some, ap (λ (y : RangeInclusive). y.end) g.range))
asked_does p (Allocate q) (Freed r) d = absurd d
asked_does p (Allocate q) (Refused e) d = tt
asked_does p (Release r) (Granted q) d = absurd d
asked_does p (Release r) (Freed q) d = d.2
asked_does p (Release r) (Refused e) d = tt

-- the theorem
pub asked_runs : (p : Pool) (os : List Operation) (xs : List Answer) (z : Pool) → Runs p os xs z → AllAsked os xs
unfolding Runs AllAsked
asked_runs p [] [] z r = tt
asked_runs p [] (x ∷ xs) z r = absurd r
asked_runs p (o ∷ os) [] z r = absurd r
asked_runs p (o ∷ os) (x ∷ xs) z r = (asked_does p o x r.0, asked_runs (next p x) os xs z r.1)
