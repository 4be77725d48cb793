-- The allocator as the Rust keeps it: the lowest id that was never granted and the ids that were given back, with no mark for each id. Ledger so, whether an id
-- can be handed out twice hangs on the test in free.
use Rattle.std.specs.Prelude.{◌≡◌, Bool, true, false, ◌&&◌, ◌||◌, not, List, [], ◌∷◌, ℕ, ◌+◌, ◌≤◌, ◌<◌, eqb, Ok, Err}
use Rattle.ranges.specs.declared.Error.{Error}
use Rattle.ids.specs.Runs.{Operation, Event, event}
use Rattle.ids.specs.Runs.Operation.{Allocate, Release}

-- the lowest id that was never granted; which ids were given back and not granted since
pub record Ledger : Type 0 where
  pub next : ℕ
  pub back : ℕ → Bool

-- at first
abbrev pub start : ℕ → Ledger
start low = record { next = low; back = λ j. false }

-- the test of free: the id was granted before, so it lies below the lowest that never was
abbrev pub Before : ℕ → ℕ → Type 0
Before next i = i < next

-- the test that the Rust had until June 2026: the id does not lie above it
abbrev pub NotAbove : ℕ → ℕ → Type 0
NotAbove next i = i ≤ next

-- an operation and its answer, with T as the test: granted is an id that was given back, or where there is none the next; taken back is one that passes the test and is not back
pub data Turn (T : ℕ → ℕ → Type 0) : Ledger → Event → Ledger → Type 0 where
  again : {k : Ledger} {i : ℕ} → k.back i ≡ true → Turn T k (event Allocate (Ok i)) (record { next = k.next; back = λ j. not (eqb j i) && k.back j })
  first : {k : Ledger} → ((j : ℕ) → k.back j ≡ false) → Turn T k (event Allocate (Ok k.next)) (record { next = k.next + 1; back = k.back })
  freed : {k : Ledger} {i : ℕ} → T k.next i → k.back i ≡ false
      → Turn T k (event (Release i) (Ok i)) (record { next = k.next; back = λ j. eqb j i || k.back j })
  refused : {k : Ledger} {o : Operation} {e : Error} → Turn T k (event o (Err e)) k

-- operations and their answers one after the other
pub data Turns (T : ℕ → ℕ → Type 0) : Ledger → List Event → Type 0 where
  none : {k : Ledger} → Turns T k []
  more : {k l : Ledger} {e : Event} {es : List Event} → Turn T k e l → Turns T l es → Turns T k (e ∷ es)
