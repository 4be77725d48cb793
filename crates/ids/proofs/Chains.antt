-- Calls of the functions on one block, one after the other: their answers are those of the definition (`chain_runs`), and so is what is so of them.
-- Assumes nothing.
use Rattle.std.proofs.Common.{Ok, Err}
use mathlib.Core.Path.{◌≡◌, refl, sym, subst}
use mathlib.Core.Logic.{inl, inr}
use mathlib.Core.List.{List, [], ◌∷◌}
use Prim.Native.Nat.{ℕ, ◌-◌, ◌^◌}
use native.Mathlib.Omega.{arith}
use lib.Dec.{eqb}
use mathlib.Core.Bool.{Bool, true, false}
use Rattle.ranges.specs.declared.Error.{Error}
use Rattle.ids.specs.State.{State, fresh, exhausted, Frees}
use Rattle.ids.specs.Runs.{Operation, after, Event, Runs, After}
use Rattle.ids.specs.Runs.Operation.{Allocate, Release}
use Rattle.ids.specs.Held.{Holds}
use Rattle.ids.specs.Contract.{Makes, Performs, Chain}
use Rattle.ids.proofs.RunLaws.{after_runs}

-- from a block that holds s the chain's events are a run, and the block holds the state that it ends in
pub chain_runs : (m z : List ℕ) (s : State) (es : List Event) → Holds m s → Chain m es z → (t : State) × Runs s es t × Holds z t
unfolding Chain Runs
chain_runs m z s [] h c = (s, refl, subst (λ (l : List ℕ). Holds l s) (sym c) h)
chain_runs m z s (e ∷ es) h c =
    let p = c.1.right s h in
    let q = chain_runs c.0 z (after s e.asked e.answer) es p.1 c.2 in
    (q.0, (p.0, q.1), q.2)

-- from a block that `new` made, after any calls, the block holds a state of which all of `After` is so
pub chain_after : (b m z : List ℕ) (low high : ℕ) (es : List Event) → Makes b low high (Ok tt) m → Chain m es z
    → (t : State) × Runs (fresh low high) es t × Holds z t × After low high es t
chain_after b m z low high es k c =
    let q = chain_runs m z (fresh low high) es k.2 c in
    (q.0, q.1, q.2, after_runs low high es q.0 k.0 q.1)

-- ---- "no state" is said only of a block that holds none

not_exhausted : (b : Bool) → Error.NoState ≡ exhausted b → ⊥
not_exhausted true e = let z : ◌≡◌ {A = ℕ} 0 1 = cc (e) in omega arith
not_exhausted false e = let z : ◌≡◌ {A = ℕ} 0 1 = cc (e) in omega arith

not_frees : (s : State) (i : ℕ) → Frees s i (Err Error.NoState) → ⊥
not_frees s i (inl p) = let z : ◌≡◌ {A = ℕ} 0 1 = cc p.0 in omega arith
not_frees s i (inr (inl p)) = let z : ◌≡◌ {A = ℕ} 0 1 = cc p.0 in omega arith
not_frees s i (inr (inr p)) = let z : ◌≡◌ {A = ℕ} 0 1 = cc p.0 in omega arith

pub no_state_none : (m z : List ℕ) (o : Operation) (s : State) → Performs m o (Err Error.NoState) z → Holds m s → ⊥
no_state_none m z Allocate s p h = not_exhausted (eqb s.high (2 ^ 32 - 1)) (p.right s h).0.1
no_state_none m z (Release i) s p h = not_frees s i (p.right s h).0
