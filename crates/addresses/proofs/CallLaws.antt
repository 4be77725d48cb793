-- What holds of the code after any sequence of calls, from the contracts of `new`, `allocate` and `free` alone.
--     calls_run        calls on a block that holds a pool get the pool's answers, and leave the block with the pool's last state
--     made_calls       so from `new` on: the answers are the definition's, and After holds of what the block holds
--     calls_alike      two blocks whose pools have the same granted ranges answer alike for ever, whatever was done before
--     freed_again      what `free` gives back after `allocate` leaves the state before
-- Assumes nothing.
use Rattle.std.proofs.Common.{◌≡◌, ℕ, ◌↔◌, List, [], ◌∷◌, sym, refl, subst, Ok}
use mathlib.Core.List.{Memᴰ}
use Rattle.ranges.specs.declared.Constraint.{Constraint}
use Rattle.ranges.specs.declared.RangeInclusive.{RangeInclusive}
use Rattle.addresses.specs.declared.Answer.{Answer}
use Rattle.addresses.specs.declared.Answer.TheVariants.{Granted, Freed}
use Rattle.addresses.specs.Operations.{Pool, next, fresh}
use Rattle.addresses.specs.Runs.{Operation, Allocate, Release, Runs}
use Rattle.addresses.specs.After.{After, AllAsked}
use Rattle.addresses.specs.Held.{Holds}
use Rattle.addresses.specs.Contract.{Performs, Starts, Calls}
use Rattle.addresses.proofs.ComputedLaws.{does_unique}
use Rattle.addresses.proofs.PoolLaws.{free_undoes}
use Rattle.addresses.proofs.RunLaws.{runs_unique, after_runs, asked_runs}
use Rattle.addresses.proofs.HistoryLaws.{same_granted}

pub calls_run : (m m' : List ℕ) (p : Pool) (os : List Operation) (xs : List Answer) → Holds m p → Calls m os xs m' → (z : Pool) × Runs p os xs z × Holds m' z
unfolding Calls Runs
calls_run m m' p [] [] h c = (p, refl, subst (λ (n : List ℕ). Holds n p) (sym c) h)
calls_run m m' p [] (x ∷ xs) h c = absurd c
calls_run m m' p (o ∷ os) [] h c = absurd c
calls_run m m' p (o ∷ os) (x ∷ xs) h c =
    let w = c.1.right p h in
    let r = calls_run c.0 m' (next p x) os xs w.1 c.2 in
    (r.0, (w.0, r.1), r.2)

-- what is so of the answers and of the block after any calls from `new` on
pub record Called (base size limit : ℕ) (os : List Operation) (xs : List Answer) (m : List ℕ) : Type 0 where
  pub pool : Pool
  pub answers : Runs (fresh base size limit) os xs pool
  pub asked : AllAsked os xs
  pub held : Holds m pool
  pub after : After base size limit pool

pub made_calls : (base size limit : ℕ) (m n m' : List ℕ) (os : List Operation) (xs : List Answer) → Starts m base size limit (Ok tt) n → Calls n os xs m' → Called base size limit os xs m'
unfolding Starts
made_calls base size limit m n m' os xs s c =
    let r = calls_run n m' (fresh base size limit) os xs s.1 c in
    record {
      pool = r.0;
      answers = r.1;
      asked = asked_runs (fresh base size limit) os xs r.0 r.1;
      held = r.2;
      after = after_runs base size limit os xs r.0 s.0 r.1;
    }

-- two pools of the same addresses and limit with the same granted ranges
pub record Alike (y z : Pool) : Type 0 where
  pub base : y.state.base ≡ z.state.base
  pub top : y.state.top ≡ z.state.top
  pub limit : y.limit ≡ z.limit
  pub granted : (r : RangeInclusive) → Memᴰ r y.state.granted ↔ Memᴰ r z.state.granted

pub calls_alike : (m n m' n' : List ℕ) (y z : Pool) (os : List Operation) (xs ys : List Answer) → Holds m y → Holds n z → Alike y z → Calls m os xs m' → Calls n os ys n' → xs ≡ ys
calls_alike m n m' n' y z os xs ys h k a c d =
    let e : y ≡ z = same_granted y z h.valid k.valid a.base a.top a.limit a.granted in
    let r = calls_run m m' y os xs h c in
    let s = calls_run n n' z os ys k d in
    (runs_unique y os xs ys r.0 s.0 h.valid r.1 (subst (λ (w : Pool). Runs w os ys s.0) (sym e) s.1)).0

-- the block after a grant and its give-back holds the pool from before
pub freed_again : (m n m' : List ℕ) (p : Pool) (q : Constraint) (r : RangeInclusive) (x : Answer) → Holds m p → Performs m (Allocate q) (Granted r) n → Performs n (Release r) x m' → (x ≡ Freed r) × Holds m' p
freed_again m n m' p q r x h a f =
    let w = a.right p h in
    let u = free_undoes p q r h.valid w.0 in
    let v = f.right (next p (Granted r)) w.1 in
    let e : x ≡ Freed r = does_unique (next p (Granted r)) (Release r) x (Freed r) w.1.valid.sound v.0 u.0 in
    (e, subst (λ (y : Pool). Holds m' y) u.1 (subst (λ (y : Answer). Holds m' (next (next p (Granted r)) y)) e v.1))
